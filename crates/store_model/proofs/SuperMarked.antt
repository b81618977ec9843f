-- What images say where the super block is replaced by one that says that the store is in use: what they said.
use Rattle.std.proofs.Common.{◌≡◌, ℕ, List, Some, None, refl, sym, ap, ◌∙◌, subst, inl, inr}
use Rattle.page_disk.specs.Disk.{Image, with_page}
use Rattle.page_disk.specs.Moments.{IsReplaced}
use Rattle.page_disk.specs.declared.disk.PageDisk.{Ghosts}
use Rattle.super_block.specs.declared.page.Super.{Super}
use Rattle.super_block.specs.Faults.{super_fault}
use Rattle.super_block.specs.Page.{super_of}
use Rattle.store_model.specs.Agreeing.{IsSameButAt, Stands}
use Rattle.store_model.specs.Recovers.{HasStore, IsSameStore, SaysInUse}
use Rattle.store_model.proofs.Holding.{put_elsewhere, put_here}
use Rattle.store_model.proofs.Over.{ImageLaw, kept, Over, says, Way}
use Rattle.store_model.proofs.StandsKept.{stands_super}

module _ {D : Type 0} (d : Ghosts D) (x : Over d) (runs : x.p.stopped ≡ None) (page : List ℕ)
    (in_use : SaysInUse x.p.super page) where
  open x use {law, s, placed, first, p, q, from, old, facts}

  -- what is read with the super block replaced
  abbrev pub marked_image : Image
  marked_image = with_page (d.now from) 0 page

  pub elsewhere : IsSameButAt 0 (d.now from) marked_image
  elsewhere n ne = put_elsewhere (d.now from) 0 n page ne

  -- it has this store
  pub marked_store : HasStore s marked_image
  marked_store =
      let here : marked_image 0 ≡ page = put_here (d.now from) 0 0 page refl in
      let of_s = subst (λ (y : Super). SaysInUse y page) facts.super in_use in
      record {
        faultless = ap (λ content. super_fault content s.device_pages) here ∙ of_s.faultless;
        same = subst (λ content. IsSameStore s (super_of content s.device_pages)) (sym here) of_s.same;
      }

  -- and stands as what was read does
  pub marked_stands : (later : Image) → IsSameButAt 0 (d.now from) later
      → Stands s first p.base p.chains p.log later marked_image
  marked_stands later read = stands_super s placed first p.base p.chains p.log (d.now from) later (d.now from)
      marked_image marked_store read elsewhere (old.stands runs (d.now from) (law.reads_an_image from))

  -- an image from before, or that one
  pub mark_way : (c : Image) → IsReplaced (d.images from) (d.now from) 0 page c → Way d x c
  mark_way c (inl held) = kept held
  mark_way c (inr is) = subst (Way d x) (sym is) (says runs (marked_stands (d.now from) (λ n ne. refl)))

  -- the store stops
  pub mark_fails : (at : ℕ) → q.stopped ≡ Some at → ImageLaw d x (IsReplaced (d.images from) (d.now from) 0 page)
  mark_fails at stops = record {
    way = mark_way;
    stands = λ on. absurd (let bad = sym on ∙ stops in cc bad);
    written = λ on. absurd (let bad = sym on ∙ stops in cc bad);
  }
