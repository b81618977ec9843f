-- What a turn makes of the store in which a head's page is replaced, where the job serves an insert.
use Rattle.std.proofs.Common.{◌≡◌, ℕ, ◌+◌, ◌<◌, Bool, false, List, [], ◌∷◌, length, Option, None, refl, sym, ◌∙◌, ap}
use Rattle.std.proofs.Common.{subst, IsTrue, arith}
use Rattle.std.specs.Prelude.{is_some}
use Rattle.std.specs.Option.{option_map}
use Rattle.std.specs.FinSet as set
use Rattle.page_disk.specs.Disk.{Only}
use Rattle.page_disk.specs.declared.disk.PageDisk.{Ghosts}
use Rattle.volume_model.specs.Xattrs.{Xattrs}
use Rattle.store_model.specs.Cases.{WritesOnePage}
use Rattle.store_model.specs.Cases as kind
use Rattle.store_model.specs.Claiming.{stage_behind}
use Rattle.store_model.specs.Guarding.{all_renewed, frozen_behind}
use Rattle.store_model.specs.Maps.{Map}
use Rattle.store_model.specs.Phases.{erasing, page_in, with_live, Phase, Replaces}
use Rattle.store_model.specs.Places.{all_set}
use Rattle.store_model.specs.Rows.{InJob, Row, Rows, Stage, with_row}
use Rattle.store_model.specs.StoreState.{JobState, StoreState}
use Rattle.store_model.specs.WithReplaced.{with_replaced}
use Rattle.store_model.proofs.Guarding.{frozen_still}
use Rattle.running_store.specs.Blobs.{live_change, numbered_in, CanBeKept}
use Rattle.running_store.specs.Effects.{commit_seen, live_seen}
use Rattle.running_store.specs.Jobs.{job_left, AreNone}
use Rattle.running_store.specs.StoreView.{StoreView, device_of, rows_of, state_of}
use Rattle.running_store.specs.declared.job.Serves.TheVariants as whom
use Rattle.running_store.specs.declared.replacements.Change.TheVariants as changed
use Rattle.running_store.specs.declared.replacements.Commit.{Commit}
use Rattle.running_store.specs.declared.replacements.Planned.{Planned}
use Rattle.running_store.proofs.JobLeft.{goes_on_left}
use Rattle.running_store.proofs.Rowing.{low_stage, rows_set}
use Rattle.metadata_turns.specs.JobTurns.{with_job, TurnsJob}
use Rattle.metadata_turns.specs.Telling.{let_go_at}
use Rattle.job_views.specs.Replacing.{blobs_in, replacing_for}
use Rattle.metadata_turns.proofs.AtHead.{IsAtHead, TouchesHead}
use Rattle.metadata_turns.proofs.Behind.{behind_view, IsWhole}
use Rattle.metadata_turns.proofs.HeadForCommand.{is_behind}
use Rattle.metadata_turns.proofs.InsertFailed.{inserting, waits as waits_to_insert}

module _ {D : Type 0} (d : Ghosts D) (p : StoreView D) (row : ℕ) (planned : Planned) (old : List ℕ) (more : List Phase)
    (j : JobState) (disk : D) (touched : TouchesHead d p (replacing_for (changed.Writes planned) old) disk)
    (n : IsAtHead d p (whom.Insert row) (changed.Writes planned) old more j)
    (can : CanBeKept (blobs_in p) (changed.Writes planned))
    (whole : IsWhole (set.contains p.guards.frozen) (changed.Writes planned))
    (moves : WritesOnePage d.tells (device_of d p.disk)
    (p.super.md_start + (replacing_for (changed.Writes planned) old).head)
    (page_in (replacing_for (changed.Writes planned) old).planned (replacing_for (changed.Writes planned) old).head) 3
    (device_of d disk))
    (durable : IsTrue d.tells → Only (d.now disk) (d.images disk)) (left : Option JobState)
    (left_is : left ≡ job_left (whom.Insert row) (erasing old old more)) where
  abbrev si : StoreState
  si = state_of d (with_job p j)

  abbrev others_i : List Phase
  others_i = erasing old old more

  abbrev after_i : StoreView D
  after_i = behind_view p (changed.Writes planned) (whom.Insert row) disk left

  none : AreNone planned.effects
  none = n.fits.1

  -- the blob has its cluster, and nothing else is another
  abbrev filled : Option JobState → StoreState
  filled job = record si {
    base = (with_replaced si (replacing_for (changed.Writes planned) old) []).base;
    chains = (with_replaced si (replacing_for (changed.Writes planned) old) []).chains;
    job = job;
    device = device_of d disk;
  }

  abbrev with_all : List ℕ → List ℕ → Map Xattrs → ℕ → (ℕ → Bool) → StoreState
  with_all freed heads live drawn frozen = record (filled left) {
    clusters = all_set si.clusters freed false;
    generations = all_renewed si.generations si.drawn heads;
    drawn = drawn;
    live = live;
    frozen = frozen;
  }

  abbrev heads_by : Option Commit → Bool → List ℕ
  heads_by commit makes = numbered_in commit makes planned.head

  filled_is : state_of d after_i ≡ filled left
  filled_is =
      let behind = is_behind d p (changed.Writes planned) old more j disk touched (whom.Insert row) n can whole moves
      durable left left_is in
      let frozen = frozen_behind si.frozen j others_i in
      let makes = is_some planned.effects.rooms.chain in
      behind
      ∙ ap (λ (l : List ℕ). with_all l (heads_by planned.effects.commit makes)
      (with_live si.live (option_map live_seen (live_change planned.effects.commit)))
      (si.drawn + length (heads_by planned.effects.commit makes)) frozen) none.freed
      ∙ ap (λ (o : Option Commit). with_all [] (heads_by o makes)
      (with_live si.live (option_map live_seen (live_change o))) (si.drawn + length (heads_by o makes)) frozen)
      none.commit
      ∙ ap (λ (o : Option ℕ). with_all [] (heads_by None (is_some o)) si.live
      (si.drawn + length (heads_by None (is_some o))) frozen) none.there
      ∙ ap (λ (k : ℕ). with_all [] [] si.live k frozen) (let same : si.drawn + 0 ≡ si.drawn = omega arith in same)
      ∙ ap (with_all [] [] si.live si.drawn) (frozen_still si.frozen j others_i n.freezes)

  below : row < length p.rows
  below = low_stage p.rows row InJob (waits_to_insert d p j n.work row n.serves_is).stage (λ e. cc e)

  abbrev row_at : Stage → Row
  row_at g = record { left = (rows_of p.rows row).left; stage = g; claim = None }

  -- an insert's job claims no cluster itself
  claims_none : j.claimed ≡ []
  claims_none = (((n.work.running.facts.well n.work.not_stopped).job j refl).inserts row n.serves_is).unclaimed

  pub inserted : (stage : Stage) → stage ≡ stage_behind others_i → (q : StoreView D) → q ≡ let_go_at after_i row stage
      → TurnsJob d (with_job p j) q
  inserted stage stage_is q is = subst (TurnsJob d (with_job p j)) (sym is) (record {
    kind = kind.inserts;
    of_job = tt;
    made = (
      record {
        replacing = replacing_for (changed.Writes planned) old;
        running = record {
          job = j;
          is = refl;
          rest = others_i;
          next = n.todo ∙ ap (λ (o : Option Commit).
              Replaces (replacing_for (changed.Writes planned) old) (option_map commit_seen o) ∷ others_i) none.commit;
          runs = n.work.not_stopped;
        };
        inserting = inserting d p j n.work row n.serves_is;
        new = planned.new;
        new_is = refl;
        device = device_of d disk;
        moves = moves;
        next =
            ap (λ (a : StoreState). record a {
              rows = rows_of (let_go_at after_i row stage).rows;
            }) filled_is
            ∙ ap (λ (rows : Rows). record (filled left) { rows = rows }) (rows_set p.rows row (row_at stage) below)
            ∙ ap (λ (g : Stage). record (filled left) { rows = with_row si.rows row (row_at g) }) stage_is
            ∙ ap (λ (o : Option JobState). record (filled o) {
              rows = with_row si.rows row (row_at (stage_behind others_i));
            }) (left_is ∙ sym (goes_on_left (whom.Insert row) j n.serves_is n.freezes claims_none others_i));
      },
      record { moments = touched.moments; durable = λ _. durable; pages = touched.pages },
    );
  })
