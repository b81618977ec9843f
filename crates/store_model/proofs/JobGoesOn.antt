-- A page is written for the running job, by one device call, and the job goes on with what is left.
use Rattle.std.proofs.Common.{
  ◌≡◌,
  ◌≢◌,
  ◌∙◌,
  ◌∷◌,
  ◌<◌,
  ◌≤◌,
  ◌/◌,
  [],
  ℕ,
  List,
  Bool,
  Some,
  true,
  ap,
  arith,
  refl,
  subst,
  sym,
}
use Rattle.md_chain.specs.Chain.{is_among}
use Rattle.md_chain.specs.declared.plan.PlannedPage.{PlannedPage}
use Rattle.store_model.specs.Device.{Device}
use Rattle.store_model.specs.Jobs.{JobStands}
use Rattle.store_model.specs.Phases.{has_commit, held_in, Phase}
use Rattle.store_model.specs.Places.{claimed_by, held_by, UsedPages}
use Rattle.store_model.specs.RunInvariant.{RunInvariant}
use Rattle.store_model.specs.StoreState.{JobState, StoreState, shown, waiting}
use Rattle.store_model.specs.Turning.{page_of_place, Runs, WritesOnePage}
use Rattle.store_model.proofs.Guarding.{guarded_on}
use Rattle.super_block.specs.Numbers.{cluster_pages_of}
use Rattle.store_model.proofs.Moved.{stands_same}
use Rattle.store_model.specs.Copying.{AreCopied}
use Rattle.store_model.proofs.JobKept.{copied_put, claimed_unread, held_is, held_low, moves_on, written_same, IsPassed}
use Rattle.store_model.proofs.Known.{Known}
use Rattle.store_model.proofs.LeftToDo.{same_wait}
use Rattle.store_model.proofs.Progress.{JobLaw, turns_here, turns_in, waits}
use Rattle.store_model.proofs.Shaped.{serves}

module _ (known : Known) (phase : Phase) (running : Runs known.p phase) (written : List ℕ) (clean : Bool)
    (device : Device) where
  open known use {s, placed, first, script, p, facts}

  abbrev j : JobState
  j = running.job

  abbrev later : JobState
  later = record j { written = written; todo = running.rest }

  abbrev now : StoreState
  now = record p { clean = clean; job = Some later; device = device }

  module _ (passed : IsPassed p running.job.claimed phase running.rest) where
    waits_on : waiting j.serves j.todo ≡ waiting j.serves running.rest
    waits_on = same_wait j phase running.rest running.next passed.commit

    -- it keeps what every state has, where the volumes are shown as they were
    pub job_moves_on : p.device.clock ≤ device.clock → shown now ≡ shown p → AreCopied now
        → held_in (phase ∷ running.rest) ≡ held_in running.rest → running.rest ≢ [] → JobStands now later
        → RunInvariant s first script now
    job_moves_on clock shows copied same some stands =
        let held : held_by p.job ≡ held_in running.rest =
        held_is known j running.is phase running.rest running.next ∙ same in
        moves_on known now refl running.runs clock shows copied (ap claimed_by (sym running.is))
        (subst (UsedPages p.super.md_len p.pages p.chains) held (facts.well running.runs).pages)
        (λ k is. let e : later ≡ k = cc is in subst (JobStands now) e stands)
        (λ c in_job.
        let y = serves p facts.shaped c in_job in
        let e : y.job ≡ j = let both = sym y.is ∙ running.is in cc both in
        record {
          job = later;
          is = refl;
          waits = sym waits_on ∙ ap (λ (i : JobState). waiting i.serves i.todo) (sym e) ∙ y.waits;
        })
        (λ k is. let e : later ≡ k = cc is in subst (λ (i : JobState). i.todo ≢ []) e some)
        (λ k c is serving ahead.
        let e : later ≡ k = cc is in
        facts.shaped.served j c running.is (ap (λ (i : JobState). i.serves) e ∙ serving)
        (ap has_commit running.next ∙ passed.commit ∙ ap (λ (i : JobState). has_commit i.todo) e ∙ ahead))
        (guarded_on p now facts.guarded j later running.is refl running.runs refl refl)

    -- and where a page is written to a place that the job holds
    pub job_goes_on : (told : Bool) (put : PlannedPage)
        → WritesOnePage told p.device (page_of_place p put.place) put.page 1 device
        → is_among put.place (held_by p.job) ≡ true → held_in (phase ∷ running.rest) ≡ held_in running.rest
        → running.rest ≢ [] → JobStands p later → RunInvariant s first script now
    job_goes_on told put moves is_held same some stands =
        let well = facts.well running.runs in
        let low : put.place < s.md_len = held_low known well (held_by p.job) refl put.place is_held in
        job_moves_on (let later = moves.clock in omega (arith, later))
        (written_same known told now put.place put.page refl low moves.reads)
        (copied_put known told now put.place put.page refl refl refl refl well low moves.reads) same some
        (stands_same p now refl refl refl refl refl later (λ c in_job. refl)
        (λ page among. claimed_unread known well told put.place put.page device low moves.reads page
        (ap (λ o. is_among (page / cluster_pages_of p.super) (claimed_by o)) running.is ∙ among)) stands)

    -- and brings the job on by one turn
    pub job_law : (q : StoreState) → q ≡ now → JobLaw p q
    job_law q is =
        let next : q.job ≡ Some later = ap (λ (v : StoreState). v.job) is in
        let before = turns_here p.job j phase running.rest running.is running.next in
        let then = turns_in q.job later next in
        record {
          progress = waits j later running.is next (sym waits_on) (ap (λ (v : StoreState). v.rows) is);
          less = omega (arith, before, then);
        }
