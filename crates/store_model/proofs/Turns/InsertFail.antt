-- The turn insert_fails.
use Rattle.std.proofs.Common.{◌∷◌, ◌≡◌, length, Some, None, false, refl, subst, sym, ap, ◌∙◌, arith}
use Rattle.page_disk.specs.declared.disk.PageDisk.{Ghosts}
use Rattle.md_chain.specs.Chain.{is_among}
use Rattle.volume_model.specs.declared.reply.Reply.TheVariants as r
use Rattle.store_model.specs.Claiming.{IsInserting}
use Rattle.store_model.specs.Jobs.{gained_by}
use Rattle.store_model.specs.Phases.{Phase, Replaces}
use Rattle.store_model.specs.Places.{held_by}
use Rattle.store_model.specs.Rows.{entry_of}
use Rattle.store_model.specs.StoreState.{StoreState}
use Rattle.store_model.specs.Touches.{left_by}
use Rattle.store_model.specs.Turning.{Runs}
use Rattle.store_model.specs.Cases.InsertFail as case
use Rattle.store_model.specs.Cases.InsertFail.{head, InsertFails, mark, page, tried_insert, TriedInsert}
use Rattle.store_model.specs.RunInvariant.{RunInvariant}
use Rattle.store_model.proofs.GivenBack.{logged_work}
use Rattle.store_model.proofs.InsertStops.{insert_stops}
use Rattle.store_model.proofs.InsertTried.{insert_way}
use Rattle.store_model.proofs.Known.{Known}
use Rattle.store_model.proofs.LeftToDo.{put_quiet}
use Rattle.store_model.proofs.Refusals.{RefusalsChangeNothing}
use Rattle.store_model.proofs.Over.{breaks, Effect, fault, ImageLaw, no_less, Over, TurnLaw}
use Rattle.store_model.proofs.Shapes.{place_fails}
use Rattle.store_model.proofs.SuperMarked.{mark_fails}

-- ---- it keeps what every state has

module _ (quiet : RefusalsChangeNothing) (known : Known) where
  open known use {s, placed, first, script, p, facts}

  keeps : (q : StoreState) → InsertFails p q → RunInvariant s first script q
  keeps q t =
      insert_stops known t.running.job t.running.is t.inserting (length p.log) (omega arith) (λ h. false) (λ h. refl)
      quiet r.Fault t.device q t.fails.clock tt (logged_work t.logs)

-- ---- its images

module _ {D : Type 0} (d : Ghosts D) (x : Over d) (t : InsertFails x.p x.q) where
  open x use {p, q, from, facts}

  stops : q.stopped ≡ Some (length p.log)
  stops = ap (λ (v : StoreState). v.stopped) (logged_work t.logs).next

  at_head : (phase : Phase) (running : Runs p phase) (inserting : IsInserting p running.job)
      (tried : TriedInsert p.super running.job phase)
      → ImageLaw d x (left_by (tried_insert p tried) (d.images from) (d.now from))
  at_head phase running inserting (mark content is in_use) =
      mark_fails d x running.runs content in_use (length p.log) stops
  at_head phase running inserting (page put is) =
      let j = running.job in
      let quiet = put_quiet p.super p.base p.chains (gained_by p.rows j) j phase running.rest running.next
      ((facts.well running.runs).job j running.is).lays put is in
      place_fails d x running.runs put.place
      (ap (λ o. is_among put.place (held_by o)) running.is ∙ quiet.is_held) put.page quiet.quiet (length p.log) stops
  at_head phase running inserting (head replacing new is new_is) =
      let here : Runs p (Replaces replacing None) = record {
        job = running.job;
        is = running.is;
        rest = running.rest;
        next = running.next ∙ ap (λ f. f ∷ running.rest) is;
        runs = running.runs;
      } in
      record {
        way = insert_way d x replacing here
            (record { row = inserting.row; serves = inserting.serves; waits = inserting.waits }) new new_is;
        stands = λ on. absurd (let bad = sym on ∙ stops in cc bad);
        written = λ on. absurd (let bad = sym on ∙ stops in cc bad);
      }

pub law : TurnLaw case.kind
law = record {
  keeps = λ below told known q t. keeps below.refusals known q t;
  effect = λ told p q t.
      let x = logged_work t.logs in
      subst (Effect p) (sym x.next) (record {
        goes = breaks t.running.runs refl t.fails.write_faults (no_less t.fails.read_faults);
        logs = fault (entry_of p.log x.channel x.command r.Fault) refl refl refl refl;
      });
  images = λ d x t does. at_head d x t t.phase t.running t.inserting t.tried;
  job = λ of. absurd of;
}
