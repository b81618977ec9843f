-- A blob that is decoupled from its parent shows what it showed.
use Rattle.std.proofs.Common.{◌≡◌, ℕ, suc, ◌/◌, Option, Some, None, length, refl, sym, ◌∙◌, arith}
use Rattle.page_disk.specs.Disk.{Image}
use Rattle.volume_model.specs.Volumes.{Fixed}
use Rattle.volume_model.specs.Xattrs.{Xattrs}
use Rattle.blob_meta.specs.declared.meta.Meta.{Meta}
use Rattle.blob_meta.specs.Parents.{parent_of, slot}
use Rattle.inflate_delete.specs.FillJobs.{decoupled_blob}
use Rattle.inflate_delete.specs.Fills.{IsFilled}
use Rattle.inflate_delete.specs.declared.filling.FillKind.TheVariants.{Decouple}
use Rattle.snapshots.specs.Marks.{with_parent_of}
use Rattle.shown_volumes.specs.Maps.{Metas, with_entry}
use Rattle.shown_volumes.specs.Shown.{content}
use Rattle.shown_volumes.specs.ShowsStep.{IsAtRest}
use Rattle.shown_volumes.proofs.Fitting.{Contents, in_filled}
use Rattle.shown_volumes.proofs.HeirMaps.{slot_below}
use Rattle.shown_volumes.proofs.Ranks.{Levels, levels}
use Rattle.shown_volumes.proofs.Reparented.{IsRaised, long}
use Rattle.shown_volumes.proofs.ReparentedShows.{Keeps}
use Rattle.shown_volumes.proofs.SlotsFilled.{empty_above}
use Rattle.shown_volumes.proofs.TakenOver.{IsLongBetween, through}
use Rattle.shown_volumes.proofs.Valued.{mark_given, parent_given}

module _ (f : Fixed) (base : Metas) (rest : IsAtRest f base) (of : ℕ) (old : Meta) (there : base of ≡ Some old) (p : ℕ)
    (parent : Meta) (child : parent_of old ≡ Some p) (there_too : base p ≡ Some parent) where
  abbrev internal : Xattrs
  internal = with_parent_of old.internal parent

  abbrev new : Meta
  new = decoupled_blob old (Some parent)

  abbrev next : Metas
  next = with_entry base of new

  abbrev was : Image → Contents
  was image = content f.cluster_pages image base (suc f.md_len)

  parent_new : parent_of new ≡ parent_of parent
  parent_new = parent_given old.internal parent

  -- its parent is the parent of its parent
  pub decoupled_raised : IsRaised f base rest of internal
  decoupled_raised = record {
    unmarked = mark_given old.internal parent ∙ rest.unmarked of old there;
    above = λ g is. rest.lawful.parents p g parent there_too (sym parent_new ∙ is);
    falls = λ g is.
        let first = rest.lawful.falls p g parent there_too (sym parent_new ∙ is) in
        let second = rest.lawful.falls of p old there child in
        omega (arith, first, second);
  }

  -- and its empty slots are its parent's, which is long enough
  pub decoupled_keeps : IsFilled base of Decouple → IsLongBetween base parent old → (image : Image) (page : ℕ)
      → Keeps f base of old new image page
  decoupled_keeps filled between image page lt = at (slot old (page / f.cluster_pages)) refl lt
    where
      old_levels : Levels f.md_len base
      old_levels = levels f.md_len base rest.lawful (λ h m is. rest.heads_below h (rw is refl))

      at : (o : Option ℕ) → slot old (page / f.cluster_pages) ≡ o → Keeps f base of old new image page
      at (Some cluster) is less = in_filled f.cluster_pages image page next (was image) new cluster is old base
          (was image) is
      at None is less =
          let within = slot_below f.cluster_pages (length old.map) page rest.some_pages less in
          through f base rest old_levels p parent old new there_too child between parent_new next
          (λ g up. long f base rest of old old.flags.invalid internal there decoupled_raised g) image page less is
          (is ∙ sym (empty_above base of old there (page / f.cluster_pages) within is p parent child there_too filled))
