-- What the images of a commit say: the old metadata or the new, and behind it the new.
use Rattle.std.proofs.Common.{Some, [], refl, ap, ◌∙◌}
use Rattle.std.specs.Prelude.{true}
use Rattle.page_disk.specs.declared.disk.PageDisk.{Ghosts}
use Rattle.store_model.specs.StoreState.{StoreState}
use Rattle.store_model.specs.Turning.{page_of_place}
use Rattle.store_model.specs.Touches.{DoesTouch, left_by, replaces}
use Rattle.store_model.specs.Cases.Commit.{Commits}
use Rattle.store_model.proofs.Over.{done, ImageLaw, Over}
use Rattle.store_model.proofs.HeadImages.{head_images}
use Rattle.store_model.specs.Phases.{page_in}

module _ {D : Type 0} (d : Ghosts D) (x : Over d) (t : Commits d.tells x.p x.q) where
  open x use {p, from, to}

  pub images : DoesTouch d from to
      (replaces (page_of_place p t.replacing.head) (page_in t.replacing.planned t.replacing.head) true)
      → ImageLaw d x (left_by
      (replaces (page_of_place p t.replacing.head) (page_in t.replacing.planned t.replacing.head) true)
      (d.images from) (d.now from))
  images does = head_images d x t.replacing (Some t.commit) t.running _ t.next refl
      (record t.running.job { claimed = [] }) refl refl refl t.moves
      (done (ap (λ (v : StoreState). v.stopped) t.next ∙ t.running.runs) refl) does
