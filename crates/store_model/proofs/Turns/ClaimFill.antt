-- The turn claims_fill.
use Rattle.std.proofs.Common.{[], Some, true, ap, arith, refl, subst, sym}
use Rattle.std.specs.Prelude.{slice_set}
use Rattle.super_block.specs.Numbers.{cluster_pages_of}
use Rattle.store_model.specs.Rows.{Copying, fill_row, OpenClaim, Row, with_row}
use Rattle.store_model.specs.Cases.ClaimFill as case
use Rattle.store_model.specs.Cases.ClaimFill.{ClaimsFill}
use Rattle.store_model.specs.StoreState.{StoreState}
use Rattle.store_model.specs.RunInvariant.{RunInvariant}
use Rattle.store_model.proofs.ClaimSets.{held_made}
use Rattle.store_model.proofs.DeviceKept.{filling_facts}
use Rattle.store_model.proofs.Known.{Known}
use Rattle.store_model.proofs.Over.{Effect, nothing, stays, TurnLaw}
use Rattle.store_model.proofs.Shapes.{idles, Idles, untouched_images, silent}
use Rattle.store_model.proofs.Shaped.{copying_may}
use Rattle.store_model.proofs.StateKept.{claim_facts, held_here, not_in_job}

-- ---- it keeps what every state has

module _ (known : Known) where
  open known use {s, placed, first, script, p, facts}

  keeps : (q : StoreState) → ClaimsFill p q → RunInvariant s first script q
  keeps q t =
      let f = t.fill in
      let claim : OpenClaim =
      record { cluster = t.cluster; head = f.head; slot = f.slot; generation = t.generation } in
      let row : Row = record { left = []; stage = Copying (cluster_pages_of p.super); claim = Some claim } in
      let there : Known = record known {
        p = record p { rows = with_row p.rows fill_row row; clusters = slice_set p.clusters t.cluster true };
        facts = claim_facts known fill_row row (slice_set p.clusters t.cluster true) p.serial
            (ap (λ (r : Row). r.left) f.unused) (not_in_job known _ _ f.unused (λ bad. cc bad))
            (λ runs. held_made p fill_row row (held_here known (facts.well runs)) claim refl
            (ap (λ (r : Row). r.claim) f.unused) (λ page has. omega (arith, has)) t.least.within t.least.clear
            ((facts.well runs).generations.low f.head t.generation t.drawn))
            (copying_may _ fill_row _ _ claim);
      } in
      subst (RunInvariant s first script) (sym t.next) (filling_facts there (Some f.posted.channel))

pub law : TurnLaw case.kind
law = record {
  keeps = λ _ told known q t. keeps known q t;
  effect = λ told p q t. subst (Effect p) (sym t.next) (record { goes = stays refl refl; logs = nothing refl refl });
  images = λ d x t does. untouched_images d x does
      (subst (Idles x.p) (sym t.next) (idles x.p _ refl refl refl refl (λ _. silent refl)));
  job = λ of. absurd of;
}
