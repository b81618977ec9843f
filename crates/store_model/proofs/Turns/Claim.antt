-- The turn claims.
use Rattle.std.proofs.Common.{◌/◌, ◌∷◌, Some, true, ap, arith, refl, subst, sym}
use Rattle.std.specs.Prelude.{slice_set}
use Rattle.super_block.specs.Numbers.{cluster_pages_of}
use Rattle.volume_model.specs.declared.command.Command.TheVariants as c
use Rattle.store_model.specs.Rows.{Copying, OpenClaim, Row}
use Rattle.store_model.specs.Cases.Claim as case
use Rattle.store_model.specs.Cases.Claim.{Claims}
use Rattle.store_model.specs.StoreState.{StoreState}
use Rattle.store_model.specs.RunInvariant.{RunInvariant}
use Rattle.store_model.proofs.Known.{Known}
use Rattle.store_model.proofs.Over.{Effect, nothing, stays, TurnLaw}
use Rattle.store_model.proofs.Shapes.{idles, Idles, untouched_images, silent}
use Rattle.store_model.proofs.ClaimSets.{held_made}
use Rattle.store_model.proofs.Shaped.{copying_may}
use Rattle.store_model.proofs.StateKept.{claim_facts, held_here, not_in_job}

-- ---- it keeps what every state has

module _ (known : Known) where
  open known use {s, placed, first, script, p, facts}

  keeps : (q : StoreState) → Claims p q → RunInvariant s first script q
  keeps q t =
      let w = t.write in
      let claim : OpenClaim = record {
        cluster = t.cluster;
        head = t.means.head;
        slot = w.page / cluster_pages_of p.super;
        generation = t.generation;
      } in
      let row : Row = record {
        left = c.Write w.volume w.page w.word ∷ w.rest;
        stage = Copying (cluster_pages_of p.super);
        claim = Some claim;
      } in
      subst (RunInvariant s first script) (sym t.next)
      (claim_facts known w.channel row (slice_set p.clusters t.cluster true) p.serial (ap (λ (r : Row). r.left) w.row)
      (not_in_job known _ _ w.row (λ bad. cc bad))
      (λ runs. held_made p w.channel row (held_here known (facts.well runs)) claim refl
      (ap (λ (r : Row). r.claim) w.row) (λ page has. omega (arith, has)) t.least.within t.least.clear
      ((facts.well runs).generations.low t.means.head t.generation t.drawn))
      (copying_may _ w.channel _ _ claim))

pub law : TurnLaw case.kind
law = record {
  keeps = λ _ told known q t. keeps known q t;
  effect = λ told p q t. subst (Effect p) (sym t.next) (record { goes = stays refl refl; logs = nothing refl refl });
  images = λ d x t does. untouched_images d x does
      (subst (Idles x.p) (sym t.next) (idles x.p _ refl refl refl refl (λ _. silent refl)));
  job = λ of. absurd of;
}
