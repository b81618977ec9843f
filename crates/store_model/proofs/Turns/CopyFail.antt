-- The turn copy_fails.
use Rattle.std.proofs.Common.{◌≡◌, length, Some, ap, arith, refl, subst, sym, ◌∙◌}
use Rattle.page_disk.specs.declared.disk.PageDisk.{Ghosts}
use Rattle.volume_model.specs.declared.reply.Reply.TheVariants as r
use Rattle.store_model.specs.Rows.{entry_of, Idle, InJob, Row, Stage}
use Rattle.store_model.specs.StoreState.{StoreState}
use Rattle.store_model.specs.Touches.{left_by}
use Rattle.store_model.specs.Turning.{stopped_now}
use Rattle.store_model.specs.Cases.CopyFail as case
use Rattle.store_model.specs.Cases.CopyFail.{CopyFails, copy, flush, tried_copy, TriedCopy}
use Rattle.store_model.specs.RunInvariant.{RunInvariant}
use Rattle.store_model.proofs.CopyTurning.{claimed_fails}
use Rattle.store_model.proofs.GivenBack.{logged_from, logged_work, logged_work_facts, stopped_facts}
use Rattle.store_model.proofs.Known.{Known}
use Rattle.store_model.proofs.Refusals.{RefusalsChangeNothing}
use Rattle.store_model.proofs.Over.{breaks, Effect, fault, ImageLaw, no_less, Over, TurnLaw}
use Rattle.store_model.proofs.Shapes.{unwritten_fails}
use Rattle.store_model.proofs.Shaped.{idle_may}

-- a row that copies is in no job
copies_alone : (p : StoreState) (claim : _) (stage : Stage) → TriedCopy p claim stage → stage ≡ InJob → ⊥
copies_alone p claim stage (copy left page content at current next) in_job = let bad = sym at ∙ in_job in cc bad
copies_alone p claim stage (flush at) in_job = let bad = sym at ∙ in_job in cc bad

-- ---- it keeps what every state has

module _ (quiet : RefusalsChangeNothing) (known : Known) where
  open known use {s, placed, first, script, p, facts}

  keeps : (q : StoreState) → CopyFails p q → RunInvariant s first script q
  keeps q t =
      let there : Known = record known {
        p = record (stopped_now p) { device = t.device };
        facts = stopped_facts known t.device t.fails.clock;
      } in
      logged_work_facts quiet there t.copying.row Idle idle_may (λ bad. cc bad)
      (λ in_job. copies_alone p t.copying.claim t.stage t.tried
      (sym (ap (λ (r : Row). r.stage) t.copying.is) ∙ in_job)) r.Fault q
      (logged_from t.device (logged_work t.logs)) tt

-- ---- its images

module _ {D : Type 0} (d : Ghosts D) (x : Over d) (t : CopyFails x.p x.q) where
  open x use {p, q, from, to}

  stops : q.stopped ≡ Some (length p.log)
  stops = ap (λ (v : StoreState). v.stopped) (logged_work t.logs).next

  by : (tried : TriedCopy p t.copying.claim t.stage)
      → ImageLaw d x (left_by (tried_copy p t.copying.claim tried) (d.images from) (d.now from))
  by (copy left page content at current next) =
      claimed_fails d x t.copying.row t.copying.claim (ap (λ (r : Row). r.claim) t.copying.is) page
      (omega (arith, next)) t.runs content (length p.log) stops
  by (flush at) = unwritten_fails d x (length p.log) stops

pub law : TurnLaw case.kind
law = record {
  keeps = λ below told known q t. keeps below.refusals known q t;
  effect = λ told p q t.
      let x = logged_work t.logs in
      subst (Effect p) (sym x.next) (record {
        goes = breaks t.runs refl t.fails.write_faults (no_less t.fails.read_faults);
        logs = fault (entry_of p.log x.channel x.command r.Fault) refl refl refl refl;
      });
  images = λ d x t does. by d x t t.tried;
  job = λ of. absurd of;
}
