-- A job begins: what every state has is kept.
use Rattle.std.proofs.Common.{◌≡◌, ◌≢◌, ℕ, Bool, true, List, [], None, Some, refl, ap, arith, subst, sym, ◌∙◌}
use Rattle.store_model.specs.Guarding.{freezing}
use Rattle.store_model.specs.Jobs.{JobStands}
use Rattle.store_model.specs.Phases.{held_in}
use Rattle.store_model.specs.Places.{all_set, AreLeastClear, held_by, UsedPages}
use Rattle.store_model.specs.Rows.{Rows}
use Rattle.store_model.specs.RunInvariant.{IsShaped, RunInvariant, RunsWell}
use Rattle.store_model.specs.StoreState.{JobState, marked, StoreState}
use Rattle.store_model.proofs.ClaimSets.{AreHeld}
use Rattle.store_model.proofs.FactsKept.{facts_kept, log_stays, runs_on}
use Rattle.store_model.proofs.Guarding.{guarded_begun}
use Rattle.store_model.proofs.Known.{Known}
use Rattle.store_model.proofs.Marking.{marked_keeps}
use Rattle.store_model.proofs.Used.{used_begun}

module _ (known : Known) (runs : known.p.stopped ≡ None) (no_job : known.p.job ≡ None) (rows : Rows) (job : JobState)
    (taken : List ℕ) (clusters : List Bool) where
  open known use {s, placed, first, script, p, facts}

  well : RunsWell first p
  well = facts.well runs

  -- the store as the job begins, before it marks itself as in use
  abbrev begun : StoreState
  begun = record p {
    rows = rows;
    job = Some job;
    frozen = freezing p.frozen job.freeze;
    pages = all_set p.pages taken true;
    clusters = clusters;
  }

  pub begun_keeps : held_in job.todo ≡ taken → AreLeastClear p.pages taken → AreHeld begun rows clusters
      → JobStands begun job
      → ((channel : ℕ) → (rows channel).left ≡ (p.rows channel).left) → IsShaped begun → job.todo ≢ []
      → RunInvariant s first script (record begun { job = Some (marked p.clean job) })
  begun_keeps held least claims stands left shaped some =
      let none_held : UsedPages p.super.md_len p.pages p.chains [] =
      subst (UsedPages p.super.md_len p.pages p.chains) (ap held_by no_job) well.pages in
      let done : RunInvariant s first script begun =
      facts_kept known begun refl refl (record {
        logs = log_stays known begun refl refl refl left (omega arith);
        well = λ _. runs_on first p begun well refl (record {
          pages = subst (UsedPages p.super.md_len begun.pages p.chains) (sym held)
              (used_begun p.super.md_len p.pages p.chains taken none_held least);
          held = claims;
          job = λ j is. let same : job ≡ j = cc is in subst (JobStands begun) same stands;
          replayed = well.replayed;
        });
        shaped = shaped;
        guarded = guarded_begun p begun facts.guarded no_job job refl runs refl;
        halted = λ at is. absurd (let bad = sym runs ∙ is in cc bad);
        unfinished = λ j is. let same : job ≡ j = cc is in subst (λ (i : JobState). i.todo ≢ []) same some;
      }) in
      marked_keeps (record { s = s; placed = placed; first = first; script = script; p = begun; facts = done }) job refl
      runs some p.clean
