-- The turns of a job that replace a head's page, and the last of an insert.
use Rattle.std.proofs.Common.{◌≡◌, ℕ, zero, suc, ◌<◌, Bool, List, [], ◌∷◌, length, Option}
use Rattle.std.proofs.Common.{Some, None, refl, sym, ap, ◌∙◌, subst, arith}
use Rattle.std.specs.Prelude.{is_some, map, slice_get, slice_set}
use Rattle.std.specs.Option.{option_and_then, option_map}
use Rattle.volume_model.specs.Logs.{replay}
use Rattle.volume_model.specs.Volumes.{head_of, Volumes}
use Rattle.blob_meta.specs.declared.meta.Meta.{Meta}
use Rattle.store_model.specs.Cases.Insert.{Inserts}
use Rattle.store_model.specs.Cases.InsertEnd.{InsertEnds}
use Rattle.store_model.specs.Claiming.{stage_behind}
use Rattle.store_model.specs.Inserting.{with_slot}
use Rattle.store_model.specs.Jobs.{gained_by, JobStands, Lays, IsLeftOfInsert, PutsClaim}
use Rattle.store_model.specs.Maps.{Metas, with_entry}
use Rattle.store_model.specs.Phases.{Phase, Replaces}
use Rattle.store_model.specs.Rows.{with_row}
use Rattle.store_model.specs.RunInvariant.{RunsWell}
use Rattle.store_model.specs.Seen.{seen}
use Rattle.store_model.specs.Shown.{fixed_of}
use Rattle.store_model.specs.StoreState.{going_on, JobState, Service, shown}
use Rattle.store_model.specs.StoreState.{StoreState, waiting}
use Rattle.store_model.proofs.WithEntry.{given_elsewhere, given_here}
use Rattle.run_work.specs.JobMoves.{InsertMove, WinMove}
use Rattle.run_work.specs.Reading.{slot_in, stage_after_insert, unclaimed_at}
use Rattle.run_work.specs.Reading.{with_filled}
use Rattle.run_work.specs.RunState.{PagePhase}
use Rattle.run_work.specs.ChannelMoves.{moved_row}
use Rattle.run_moves.specs.JobTurns.{IsJobMoveOf, HasPlainRow, ReplacingTurns}
use Rattle.run_moves.specs.Projection.{blob_in_run, blobs_in_run, heads_found, job_in_run, phases_in_run}
use Rattle.run_moves.specs.Projection.{replacement_for, row_in_run, run_by, run_state_of, RunMessages, stage_in_run}
use Rattle.run_moves.proofs.ReplacingMore.{replaces_more_moves}
use Rattle.run_moves.proofs.BlobsMeant.{blob_is, had_map, slot_empty}
use Rattle.run_moves.proofs.JobTurning.{goes_on}
use Rattle.run_moves.proofs.Moved.{changes_row, rows_moved}
use Rattle.run_moves.proofs.CommitTurns.{commits_move}

slots_filled : (l : List (Option ℕ)) (i cluster : ℕ) → i < length l
    → map is_some (slice_set l i (Some cluster)) ≡ with_filled (map is_some l) i
slots_filled [] i cluster low = absurd (omega (arith, low))
slots_filled (x ∷ l) zero cluster low = refl
slots_filled (x ∷ l) (suc i) cluster low = ap (λ s. is_some x ∷ s) (slots_filled l i cluster (omega (arith, low)))

module _ (p q : StoreState) (d : RunMessages) (first : Volumes) (well : RunsWell first p) where
  -- ---- the replacement

  stage_behind_seen : (serves : Service) (rest : List Phase)
      → stage_in_run (stage_behind rest) ≡ stage_after_insert (phases_in_run serves rest)
  stage_behind_seen serves [] = refl
  stage_behind_seen serves (x ∷ xs) = refl

  module _ (later : RunsWell first q) (told : Bool) (t : Inserts told p q) (plain : HasPlainRow p t.inserting.row) where
    abbrev inserting : JobState
    inserting = t.running.job

    insert_stands : JobStands p inserting
    insert_stands = well.job inserting t.running.is

    puts : PutsClaim p t.inserting.row t.replacing
    puts = (subst (IsLeftOfInsert p t.inserting.row) t.running.next
        (insert_stands.inserts t.inserting.row t.inserting.serves).puts).0

    laid : Lays p.super p.base p.chains (gained_by p.rows inserting) inserting.written
        (Replaces t.replacing None ∷ t.running.rest)
    laid = subst (Lays p.super p.base p.chains (gained_by p.rows inserting) inserting.written) t.running.next
        insert_stands.lays

    abbrev base_filled : Metas
    base_filled = with_entry p.base t.replacing.head t.new

    finds_still : heads_found p.super t.device.reads base_filled p.live
        ≡ heads_found p.super p.device.reads p.base p.live
    finds_still = ap (head_of (fixed_of p.super))
        (sym (ap shown t.next) ∙ later.replayed
        ∙ ap (λ (v : StoreState). replay (fixed_of v.super) first (seen v.tells v.log)) t.next ∙ sym well.replayed)

    -- the replacement of an insert
    pub inserts_move : IsJobMoveOf p q d InsertMove t.inserting.row
    inserts_move =
        let had = had_map p.base puts.claim.head puts.wanted.meta puts.wanted.there in
        let low : puts.claim.slot < length had.before.map =
        subst (λ (l : List (Option ℕ)). puts.claim.slot < length l) (sym had.map_is) puts.within in
        let there = blob_is p.base p.generations puts.claim.head puts.claim.generation had.before had.there
        puts.wanted.current in
        let empty = ap (λ l. option_and_then (λ s. s) (slice_get l puts.claim.slot)) had.map_is ∙ puts.wanted.empty in
        let news : Some t.new ≡ Some (with_slot puts.wanted.meta puts.claim.slot puts.claim.cluster) =
        sym t.new_is ∙ puts.new in
        let new_is : t.new ≡ with_slot puts.wanted.meta puts.claim.slot puts.claim.cluster = cc news in
        let maps : map is_some t.new.map ≡ with_filled (map is_some had.before.map) puts.claim.slot =
        ap (λ (m : Meta). map is_some m.map) new_is
        ∙ ap (λ l. map is_some (slice_set l puts.claim.slot (Some puts.claim.cluster))) (sym had.map_is)
        ∙ slots_filled had.before.map puts.claim.slot puts.claim.cluster low in
        let blobs = blobs_in_run base_filled p.generations in
        let rest = phases_in_run inserting.serves t.running.rest in
        record {
          job = job_in_run inserting;
          rest = rest;
          runs = ap (option_map job_in_run) t.running.is;
          here = ap (phases_in_run inserting.serves) t.running.next
              ∙ ap (λ s. replacement_for s ∷ rest) t.inserting.serves;
          waits = ap (λ s. waiting s inserting.todo) t.inserting.serves;
          thaws = (insert_stands.inserts t.inserting.row t.inserting.serves).thaws;
          stage = ap stage_in_run t.inserting.waits;
          plain = plain;
          head = puts.claim.head;
          slot = puts.claim.slot;
          blob = blob_in_run had.before puts.claim.generation;
          there = there;
          empty = ap (λ o. slot_in o puts.claim.slot) there ∙ slot_empty had.before.map puts.claim.slot empty low;
          inside = subst (λ h. h < p.super.md_len) puts.head (laid.0.stored t.new t.new_is).low;
          blobs = blobs;
          filled = blob_is base_filled p.generations puts.claim.head puts.claim.generation t.new
              (given_here p.base t.replacing.head t.new puts.claim.head (sym puts.head)) puts.wanted.current
              ∙ ap (λ l. Some (record { generation = puts.claim.generation; slots = l })) maps;
          others = λ h ne. ap (λ o. option_and_then (λ m. option_map (blob_in_run m) (p.generations h)) o)
              (given_elsewhere p.base t.replacing.head t.new h (λ e. ne (e ∙ puts.head)));
          next = ap (λ v. run_state_of v d) t.next
              ∙ ap (λ f. record (run_by p.super t.device.reads base_filled p.generations p.live
              (with_row p.rows t.inserting.row (record {
                left = (p.rows t.inserting.row).left;
                stage = stage_behind t.running.rest;
                claim = None;
              })) (going_on inserting [] t.running.rest) p.frozen d) { finds = f }) finds_still
              ∙ ap (λ r. record (run_state_of p d) {
                blobs = blobs;
                rows = r;
                job = option_map job_in_run (going_on inserting [] t.running.rest);
              }) (rows_moved p.super p.rows t.inserting.row _)
              ∙ ap (λ x. record (moved_row (run_state_of p d) t.inserting.row
              (unclaimed_at (row_in_run p.super (p.rows t.inserting.row)) x)) {
                blobs = blobs;
                job = option_map job_in_run (going_on inserting [] t.running.rest);
              }) (stage_behind_seen inserting.serves t.running.rest)
              ∙ ap (λ j. record (moved_row (run_state_of p d) t.inserting.row
              (unclaimed_at (row_in_run p.super (p.rows t.inserting.row)) (stage_after_insert rest))) {
                blobs = blobs;
                job = j;
              }) (goes_on inserting t.running.rest [] (waiting inserting.serves inserting.todo)
              (ap (λ s. waiting s t.running.rest) t.inserting.serves
              ∙ sym (ap (λ s. waiting s inserting.todo) t.inserting.serves)));
        }

  -- ---- its end

  insert_ends_moves : (told : Bool) (t : InsertEnds told p q) → HasPlainRow p t.inserting.row
      → IsJobMoveOf p q d WinMove t.inserting.row
  insert_ends_moves told t plain = record {
    job = job_in_run t.running.job;
    runs = ap (option_map job_in_run) t.running.is;
    last = ap (phases_in_run t.running.job.serves) t.running.next
        ∙ ap (λ l. PagePhase ∷ phases_in_run t.running.job.serves l) t.last;
    waits = ap (λ s. waiting s t.running.job.todo) t.inserting.serves;
    thaws = ((well.job t.running.job t.running.is).inserts t.inserting.row t.inserting.serves).thaws;
    stage = ap stage_in_run t.inserting.waits;
    plain = plain;
    next = changes_row p q d t.inserting.row t.device.reads _ _ None p.frozen refl (ap (λ v. run_state_of v d) t.next);
  }

-- all of them
pub replacing_turns : (p q : StoreState) (d : RunMessages) → ReplacingTurns p q d
replacing_turns p q d = record {
  commits = λ first well later told t. commits_move p q d first well later told t;
  replaces_more = λ first well later told t. replaces_more_moves p q d first well later told t;
  inserts = λ first well later told t plain. inserts_move p q d first well later told t plain;
  insert_ends = λ first well told t plain. insert_ends_moves p q d first well told t plain;
}
