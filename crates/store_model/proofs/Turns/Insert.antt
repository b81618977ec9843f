-- The turn inserts.
use Rattle.std.proofs.Common.{None, refl, subst, sym, ap}
use Rattle.std.specs.Prelude.{true}
use Rattle.page_disk.specs.declared.disk.PageDisk.{Ghosts}
use Rattle.store_model.specs.Phases.{page_in}
use Rattle.store_model.specs.StoreState.{StoreState}
use Rattle.store_model.specs.Touches.{DoesTouch, left_by, replaces}
use Rattle.store_model.specs.Turning.{page_of_place}
use Rattle.store_model.specs.Cases.Insert as case
use Rattle.store_model.specs.Cases.Insert.{Inserts}
use Rattle.store_model.proofs.HeadImages.{head_images}
use Rattle.store_model.proofs.Heads.{rechained_is, replaced_is}
use Rattle.store_model.proofs.InsertTurning.{keeps}
use Rattle.store_model.proofs.Over.{Effect, ImageLaw, moves, no_less, nothing, Over, TurnLaw, unchanged}

-- ---- its images: the old metadata or the new, and behind it the new

module _ {D : Type 0} (d : Ghosts D) (x : Over d) (t : Inserts d.tells x.p x.q) where
  open x use {p, from, to}

  images : DoesTouch d from to
      (replaces (page_of_place p t.replacing.head) (page_in t.replacing.planned t.replacing.head) true)
      → ImageLaw d x (left_by
      (replaces (page_of_place p t.replacing.head) (page_in t.replacing.planned t.replacing.head) true)
      (d.images from) (d.now from))
  images does = head_images d x t.replacing None t.running _ t.next refl t.running.job refl
      (sym (replaced_is p.base t.replacing t.new t.new_is)) (sym (rechained_is p.chains t.replacing t.new t.new_is))
      t.moves
      (unchanged (sym (ap (λ (v : StoreState). v.log) t.next))) does

pub law : TurnLaw case.kind
law = record {
  keeps = λ _ told known q t. keeps known told q t;
  effect = λ told p q t. subst (Effect p) (sym t.next)
      (record {
        goes = moves t.running.runs refl t.moves.write_faults (no_less t.moves.read_faults);
        logs = nothing refl refl;
      });
  images = λ d x t does. images d x t does;
  job = λ of. absurd of;
}
