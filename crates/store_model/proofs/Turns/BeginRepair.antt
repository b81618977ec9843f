-- The turn begins_repair.
use Rattle.std.proofs.Common.{◌≡◌, ◌/◌, List, [], ◌∷◌, Some, None, true, refl, sym, ap, ◌∙◌, subst}
use Rattle.super_block.specs.Numbers.{cluster_pages_of}
use Rattle.store_model.specs.Cases.BeginRepair as case
use Rattle.store_model.specs.Cases.BeginRepair.{BeginsRepair}
use Rattle.store_model.specs.Jobs.{JobStands}
use Rattle.store_model.specs.Phases.{erasing, Phase, phases_of, replaced, Replaces, Replacing, taken_by}
use Rattle.store_model.specs.Places.{all_set, AreDistinct, claimed_by}
use Rattle.store_model.specs.RunInvariant.{RunInvariant, RunsWell}
use Rattle.store_model.specs.StoreState.{ForRepair, JobState, StoreState}
use Rattle.store_model.proofs.Copies.{copied_same}
use Rattle.store_model.proofs.FactsKept.{claims_kept}
use Rattle.store_model.proofs.JobBegun.{begun_keeps}
use Rattle.store_model.proofs.Known.{Known}
use Rattle.store_model.proofs.LawsBelow.{RepairLaws}
use Rattle.store_model.proofs.LeftToDo.{no_place}
use Rattle.store_model.proofs.Over.{Effect, nothing, stays, TurnLaw}
use Rattle.store_model.proofs.Phases.{keeps_behind, keeps_clearing, mends_behind, mends_clearing}
use Rattle.store_model.proofs.PhasesOfOne.{held_one, lays_one, some_phase}
use Rattle.store_model.proofs.RepairBegun.{can, new_unmarked, planned, unseen}
use Rattle.store_model.proofs.Sets.{are_distinct}
use Rattle.store_model.proofs.Shaped.{none_without, shaped_same}
use Rattle.store_model.proofs.Shapes.{Idles, idles_begun, untouched_images}

module _ (laws : RepairLaws) (known : Known) where
  open known use {s, placed, first, script, p, facts}

  module _ (q : StoreState) (t : BeginsRepair p q) where
    well : RunsWell first p
    well = facts.well t.runs

    abbrev r : Replacing
    r = t.replacing

    -- ---- the job

    abbrev todo : List Phase
    todo = phases_of r None []

    abbrev job : JobState
    job = record { serves = ForRepair; freeze = None; claimed = []; written = []; todo = todo }

    abbrev now : StoreState
    now = record p { job = Some job; pages = all_set p.pages (taken_by r) true }

    stands : JobStands now job
    stands = record {
      lays = lays_one r None p.super p.base p.chains [] (can laws known q t);
      distinct = subst AreDistinct (sym (held_one r None))
          (are_distinct p.pages (taken_by r) (planned laws known q t).least);
      served = λ c bad. absurd (cc bad);
      keeps = λ none other. keeps_behind p.base r.fresh (Replaces r None ∷ erasing r.old r.old [])
          (unseen laws known q t, keeps_clearing (replaced p.base r) r.old r.old);
      settles = λ other. absurd (other refl);
      mends = λ _. mends_behind r.fresh (Replaces r None ∷ erasing r.old r.old [])
          (new_unmarked laws known q t, mends_clearing r.old r.old);
      zeroed = λ page among out. absurd (no_place [] (page / cluster_pages_of p.super) among refl);
      inserts = λ c bad. absurd (cc bad);
    }

    -- ---- it keeps what every state has

    pub keeps : RunInvariant s first script q
    keeps =
        subst (RunInvariant s first script) (sym t.next)
        (begun_keeps known t.runs t.no_job p.rows job (taken_by r) p.clusters (held_one r None)
        (planned laws known q t).least
        (claims_kept first p now well refl refl refl refl (λ c. refl) (sym (ap claimed_by t.no_job))
        (copied_same p now well.copied refl refl refl (λ row claim page x. x) refl)) stands (λ c. refl)
        (shaped_same p now facts.shaped refl (λ c in_job. absurd (none_without p facts.shaped t.no_job c in_job))
        (λ j c is serves _.
        let same : job ≡ j = cc is in
        absurd (let bad = ap (λ (i : JobState). i.serves) same ∙ serves in cc bad)))
        (some_phase r None []))

pub law : TurnLaw case.kind
law = record {
  keeps = λ below told known q t. keeps below.repairs known q t;
  effect = λ told p q t. subst (Effect p) (sym t.next) (record { goes = stays refl refl; logs = nothing refl refl });
  images = λ d x t does. untouched_images d x does (subst (Idles x.p) (sym t.next)
      (idles_begun x.p _ refl refl refl _ refl refl refl));
  job = λ of. absurd of;
}
