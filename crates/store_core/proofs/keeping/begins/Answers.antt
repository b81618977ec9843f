use Rattle.std.proofs.Common.{◌≡◌, ◌∙◌, ap, refl, sym, true, false}
use Rattle.std.specs.Prelude.{nat_eq}
use Rattle.page_disk.specs.declared.disk.PageDisk.{Ghosts}
use Rattle.super_block.specs.declared.page.Super.{Super}
use Rattle.clean_images.specs.CleanImages.{IsInUse}
use Rattle.running_store.specs.StoreView.{state_of, StoreView}
use Rattle.store_core.specs.StoreInvariant.{OpensAsRead}
use Rattle.store_core.proofs.KeptOverTurns.{kept_begins}
use Rattle.store_core.proofs.keeping.begins.Goals as goal

-- a store that isn't clean in memory was read of an image that isn't
not_clean : {D : Type 0} (d : Ghosts D) (p : StoreView D) → p.clean ≡ nat_eq p.super.clean 1 → OpensAsRead d p
    → p.clean ≡ false → IsInUse p.super (d.now p.disk)
not_clean d p is read dirty one =
    let clean : p.super.clean ≡ 1 = ap (λ (s : Super). s.clean) read.super ∙ one in
    let bad : false ≡ true = sym dirty ∙ is ∙ ap (λ n. nat_eq n 1) clean in
    cc bad

pub returns : goal.returns
returns g c = λ p loaded opens faultless clean. kept_begins g.D.PageDisk (record {
  plants = c.state_turns.ensures;
  growing = c.growing.ensures;
  scans = c.scans.ensures;
  jobs = c.job_pages.ensures;
}) g.met.D.PageDisk.telling p loaded opens faultless (c.regions_are_placed.ensures p.super faultless)
    (λ read. c.clean_images_begin.ensures p.super (state_of g.D.PageDisk p) p.disk read.one.0 read.one.1 refl opens
    (not_clean g.D.PageDisk p clean read))
