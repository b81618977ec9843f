-- The turn sends.
use Rattle.std.proofs.Common.{◌≢◌, [], ap, arith, Some, refl, subst, sym, ◌∙◌}
use Rattle.super_block.specs.Numbers.{cluster_pages_of}
use Rattle.store_model.specs.Copying.{HasCopied}
use Rattle.store_model.specs.Rows.{fill_row, Posted, Row, Stage}
use Rattle.store_model.specs.StoreState.{next_serial, StoreState}
use Rattle.store_model.specs.Claiming.{fill, own, Works}
use Rattle.store_model.specs.Cases.Send as case
use Rattle.store_model.specs.Cases.Send.{Sends}
use Rattle.store_model.specs.RunInvariant.{RunInvariant}
use Rattle.store_model.proofs.ClaimSets.{held_on}
use Rattle.store_model.proofs.Known.{Known}
use Rattle.store_model.proofs.Over.{Effect, moves, no_less, nothing, TurnLaw}
use Rattle.store_model.proofs.Shapes.{flushed_images, now_same}
use Rattle.store_model.proofs.Shaped.{holding_may}
use Rattle.store_model.proofs.DeviceKept.{device_facts}
use Rattle.store_model.proofs.StateKept.{claim_facts, held_here, not_in_job}

-- ---- it keeps what every state has

module _ (known : Known) where
  open known use {s, placed, first, script, p, facts}

  keeps : (q : StoreState) → Sends p q → RunInvariant s first script q
  keeps q t =
      let later = t.flushed.clock in
      let there : Known = record known {
        p = record p { device = t.device };
        facts = device_facts known t.device t.flushed.reads (omega (arith, later));
      } in
      let row : Row = record { left = t.copying.left; stage = Posted p.serial; claim = Some t.copying.claim } in
      subst (RunInvariant s first script) (sym t.next)
      (claim_facts there t.copying.row row p.clusters (next_serial p.serial)
      (ap (λ (r : Row). r.left) t.copying.is) (not_in_job known _ _ t.copying.is (λ bad. cc bad))
      (λ runs. held_on there.p t.copying.row row (held_here there (there.facts.well runs))
      (ap (λ (r : Row). r.claim) t.copying.is)
      (λ page has. subst (λ (stage : Stage). HasCopied (cluster_pages_of p.super) stage page)
      (sym (ap (λ (r : Row). r.stage) t.copying.is)) has))
      (holding_may _ t.copying.row t.copying.left (Posted p.serial) t.copying.claim tt
      (λ serial is ne. has_left t.copying.works ne) (λ bad. absurd (cc bad))))
    where
      has_left : Works p t.copying.row → t.copying.row ≢ fill_row → t.copying.left ≢ []
      has_left (own volume page word rest left) ne none =
          let bad = sym left ∙ ap (λ (r : Row). r.left) t.copying.is ∙ none in cc bad
      has_left (fill channel is works) ne none = ne is

pub law : TurnLaw case.kind
law = record {
  keeps = λ _ told known q t. keeps known q t;
  effect = λ told p q t. subst (Effect p) (sym t.next)
      (record {
        goes = moves t.runs refl t.flushed.write_faults (no_less t.flushed.read_faults);
        logs = nothing refl refl;
      });
  images = λ d x t does.
      flushed_images d x (now_same d x (ap (λ (v : StoreState). v.device.reads) t.next ∙ t.flushed.reads))
      (ap (λ (v : StoreState). v.base) t.next) (ap (λ (v : StoreState). v.chains) t.next)
      (ap (λ (v : StoreState). v.stopped) t.next) (ap (λ (v : StoreState). v.job) t.next) (does.durable refl x.told);
  job = λ of. absurd of;
}
