-- The turn replaces_more keeps what every state has.
use Rattle.std.proofs.Common.{◌≡◌, ◌/◌, ◌++◌, ℕ, Bool, [], ◌∷◌, Option, None, Some, true}
use Rattle.std.proofs.Common.{false, refl, sym, ap, ◌∙◌, subst, inl, inr, arith}
use Rattle.std.proofs.lemmas.Bool.{cases_Bool}
use Rattle.super_block.specs.Numbers.{cluster_pages_of}
use Rattle.blob_meta.specs.Repairs.{HasNoMarks}
use Rattle.store_model.specs.Cases.ReplaceMore.{ReplacesMore}
use Rattle.store_model.specs.Copying.{AreCopied, IsUpToDate}
use Rattle.store_model.specs.Guarding.{frozen_behind}
use Rattle.store_model.specs.Jobs.{Does, gained_by, inserted_by, IsUnseen, JobStands, Keeps, Lays}
use Rattle.store_model.specs.Jobs.{MovesClusters, ReadsZeros}
use Rattle.store_model.specs.Maps.{Metas}
use Rattle.store_model.specs.Phases.{behind, has_commit, OnlyMend, page_in, Replaces, Replacing}
use Rattle.store_model.specs.Places.{claimed_by, UsedPages}
use Rattle.store_model.specs.Rows.{OpenClaim}
use Rattle.store_model.specs.RunInvariant.{RunInvariant}
use Rattle.store_model.specs.Shown.{fixed_of, shown_by}
use Rattle.store_model.specs.StoreState.{ForCommand, ForInsert, ForRepair, going_on, JobState, Service, shown}
use Rattle.store_model.specs.StoreState.{StoreState}
use Rattle.store_model.specs.WithReplaced.{made_by, with_replaced}
use Rattle.store_model.proofs.CopiesCommitted.{copied_unseen}
use Rattle.store_model.proofs.ClustersMoved.{clusters_moved, differ_committed}
use Rattle.store_model.proofs.AtHead.{at_head}
use Rattle.store_model.proofs.FactsKept.{facts_with, log_stays, metadata_replaced}
use Rattle.store_model.proofs.GoesOn.{served_still, serves_still, unfinished_still}
use Rattle.store_model.proofs.Guarding.{claims_drawn_still, guarded_behind}
use Rattle.store_model.proofs.JobKept.{copied_put, written_same}
use Rattle.store_model.proofs.Known.{Known}
use Rattle.store_model.proofs.LeftToDo.{goes_on_as, held_after, no_place, none_claimed_after}
use Rattle.store_model.proofs.Moved.{inserted_none}
use Rattle.store_model.proofs.Phases.{does_anywhere, mends_no_commit}
use Rattle.store_model.proofs.ReplacedBlob.{generation_before, generations_replaced}
use Rattle.store_model.proofs.ReplacedBlob.{made_numbered, made_there, there_before}
use Rattle.store_model.proofs.Shaped.{shaped_same}
use Rattle.store_model.proofs.StateKept.{runs_here}

module _ (known : Known) where
  open known use {s, placed, first, script, p, facts}

  module _ (told : Bool) (q : StoreState) (t : ReplacesMore told p q) where
    abbrev j : JobState
    j = t.running.job

    abbrev r : Replacing
    r = t.replacing

    abbrev other : JobState
    other = record j { claimed = [] }

    abbrev next_job : Option JobState
    next_job = going_on other [] t.running.rest

    abbrev now : StoreState
    now = record (with_replaced p r (made_by r)) {
      job = next_job;
      frozen = frozen_behind p.frozen j t.running.rest;
      device = t.device;
    }

    open at_head known r None t.running use {well, stood, lays, can, under, left, chains, pages}

    -- the commit is still to come, or none is
    same : has_commit j.todo ≡ has_commit t.running.rest
    same = ap has_commit t.running.next

    does_here : (c : ℕ) → (serves : j.serves ≡ ForCommand c) → (waits : has_commit j.todo ≡ true)
        → Does (ReadsZeros p.super j.claimed) p.super p.base p.live (stood.served c serves waits).command
        (Replaces r None ∷ t.running.rest)
    does_here c serves waits =
        let y = stood.served c serves waits in
        subst (Does (ReadsZeros p.super j.claimed) p.super p.base p.live y.command) t.running.next y.does

    keeps_here : has_commit j.todo ≡ false → Keeps p.base (Replaces r None ∷ t.running.rest)
    keeps_here none = subst (Keeps p.base) t.running.next (stood.keeps none t.no_insert)

    -- the volumes are shown as they were
    unseen : IsUnseen p.base r
    unseen = by j.serves refl
      where
        by : (x : Service) → j.serves ≡ x → IsUnseen p.base r
        by (ForCommand c) is = elim (cases_Bool (has_commit j.todo)) [
          | inl waits ↦ (does_here c is waits).0
          | inr none ↦ (keeps_here none).0
        ]
        by (ForInsert c) is = absurd (t.no_insert c is)
        by ForRepair is = (keeps_here (mends_no_commit j.todo (stood.mends is))).0

    -- no claim is up to date that wasn't
    no_more : (row : ℕ) (claim : OpenClaim) → (p.rows row).claim ≡ Some claim → IsUpToDate now claim
        → IsUpToDate p claim
    no_more row claim holds current = generation_before p.generations p.drawn r (made_by r) claim.head claim.generation
        (well.claims_drawn row claim holds) current

    -- ---- what is shown

    shows : shown now ≡ shown p
    shows =
        ap (λ (m : Metas). shown_by (fixed_of p.super) t.device.reads m p.live) unseen
        ∙ written_same known told (record p { device = t.device }) r.head (page_in r.planned r.head) refl under
        t.moves.reads

    copied_new : AreCopied now
    copied_new =
        let mid : StoreState = record p { device = t.device } in
        let read : AreCopied mid = copied_put known told mid r.head (page_in r.planned r.head) refl refl refl refl well
        under t.moves.reads in
        copied_unseen mid now read refl unseen refl refl no_more

    -- ---- the job

    none_claimed : claimed_by next_job ≡ []
    none_claimed = none_claimed_after other [] t.running.rest refl

    none_inserted : inserted_by p.rows j.serves ≡ []
    none_inserted = inserted_none p.rows j.serves t.no_insert

    moves : MovesClusters p.super p.base now.base r.freed (claimed_by p.job)
    moves = subst (MovesClusters p.super p.base now.base r.freed)
        (ap (λ l. l ++ j.claimed) none_inserted ∙ ap claimed_by (sym t.running.is)) can.clusters

    leads : behind p.base j.todo ≡ behind now.base t.running.rest
    leads = ap (behind p.base) t.running.next

    stands_next : (k : JobState) → next_job ≡ Some k → JobStands now k
    stands_next k is =
        let g = goes_on_as other [] t.running.rest k is in
        let stands : JobStands now (record other { written = []; todo = t.running.rest }) =
        record {
          lays = subst (λ l. Lays p.super now.base now.chains l [] t.running.rest)
              (sym (ap (λ l. l ++ []) none_inserted)) lays.2;
          distinct = left;
          served = λ c serves waits.
              let y = stood.served c serves (same ∙ waits) in
              record {
                command = y.command;
                rest = y.rest;
                row = y.row;
                does = does_anywhere (ReadsZeros p.super []) p.super now.base p.live y.command t.running.rest
                    (does_here c serves (same ∙ waits)).1;
              };
          inserts = λ row serves. absurd (t.no_insert row serves);
          keeps = λ none outside. (keeps_here (same ∙ none)).1;
          settles = λ outside. subst HasNoMarks leads (stood.settles outside);
          mends = λ repair. (subst OnlyMend t.running.next (stood.mends repair)).1;
          zeroed = λ page among out. absurd (no_place [] (page / cluster_pages_of p.super) among refl);
        } in
        subst (JobStands now) (sym g.is) stands

    pub keeps : RunInvariant s first script q
    keeps =
        let clock = t.moves.clock in
        let done_so : RunInvariant s first script now =
        facts_with known now refl (metadata_replaced known (gained_by p.rows j) j.written r can) (record {
          logs = log_stays known now refl refl refl (λ c. refl) (omega (arith, clock));
          well = λ on. record {
            chains = chains;
            live = λ h m is. well.live h m (ap (λ (x : Metas). x h) (sym unseen) ∙ is);
            no_live = λ h none. well.no_live h (ap (λ (x : Metas). x h) (sym unseen) ∙ none);
            pages = subst (UsedPages p.super.md_len now.pages now.chains) (sym (held_after other [] t.running.rest))
                pages;
            clusters = clusters_moved p.super p.clusters p.base now.base r.freed p.rows p.rows p.job next_job
                (λ c. refl) none_claimed moves well.claims well.clusters;
            claims = differ_committed p.rows p.rows p.job next_job (λ c. refl) none_claimed well.claims;
            generations = generations_replaced p.base p.generations p.drawn r (made_by r)
                (there_before p.super p.base p.chains well.chains r can.chain) (made_numbered r)
                (made_there p.base r (λ none. (can.gone none).1)) well.generations;
            claims_drawn = claims_drawn_still p.rows p.rows p.drawn now.drawn (λ c. refl) (omega arith)
                well.claims_drawn;
            copied = copied_new;
            job = stands_next;
            replayed = shows ∙ well.replayed;
          };
          shaped = shaped_same p now facts.shaped refl
              (serves_still p j t.running.is (Replaces r None) t.running.rest t.running.next refl t.no_insert other refl
              now refl facts.shaped)
              (served_still p j t.running.is (Replaces r None) t.running.rest t.running.next refl t.no_insert other refl
              now refl facts.shaped);
          guarded = guarded_behind p now facts.guarded j other t.running.is refl t.running.runs t.running.rest refl
              refl;
          halted = λ n halts. absurd (runs_here known n t.running.runs halts);
          unfinished = unfinished_still p j t.running.is (Replaces r None) t.running.rest t.running.next refl
              t.no_insert other refl now refl;
        }) in
        subst (RunInvariant s first script) (sym t.next) done_so
