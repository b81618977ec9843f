-- A blob that is inflated shows what it showed.
use Rattle.std.proofs.Common.{◌≡◌, ℕ, suc, ◌/◌, Option, Some, None, length, refl, sym, ◌∙◌}
use Rattle.std.specs.Prelude.{codes}
use Rattle.page_disk.specs.Disk.{Image}
use Rattle.volume_model.specs.Volumes.{Fixed}
use Rattle.volume_model.specs.Xattrs.{without}
use Rattle.blob_meta.specs.declared.meta.Meta.{Meta}
use Rattle.blob_meta.specs.Parents.{slot}
use Rattle.inflate_delete.specs.FillJobs.{inflated_blob}
use Rattle.inflate_delete.specs.Fills.{IsFilled}
use Rattle.inflate_delete.specs.declared.filling.FillKind.TheVariants.{Inflate}
use Rattle.shown_volumes.specs.Maps.{Metas, with_entry}
use Rattle.shown_volumes.specs.Shown.{content}
use Rattle.shown_volumes.specs.ShowsStep.{IsAtRest}
use Rattle.shown_volumes.proofs.Fitting.{in_filled}
use Rattle.shown_volumes.proofs.HeirMaps.{slot_below}
use Rattle.shown_volumes.proofs.Reparented.{IsRaised}
use Rattle.shown_volumes.proofs.ReparentedShows.{Keeps}
use Rattle.shown_volumes.proofs.SlotsFilled.{none_empty}
use Rattle.shown_volumes.proofs.Valued.{mark_without, parent_in, parent_without}

module _ (f : Fixed) (base : Metas) (rest : IsAtRest f base) (of : ℕ) (old : Meta) (there : base of ≡ Some old) where
  -- none is its parent
  pub inflated_raised : IsRaised f base rest of (without old.internal (codes "SNAP"))
  inflated_raised = record {
    unmarked = mark_without old.internal ∙ rest.unmarked of old there;
    above = λ p is. absurd (orphan p is);
    falls = λ p is. absurd (orphan p is);
  }
    where
      orphan : (p : ℕ) → parent_in (without old.internal (codes "SNAP")) ≡ Some p → ⊥
      orphan p is = let bad : None ≡ Some p = sym (parent_without old.internal) ∙ is in cc bad

  -- and each of its slots has a cluster
  pub inflated_keeps : IsFilled base of Inflate → (image : Image) (page : ℕ)
      → Keeps f base of old (inflated_blob old) image page
  inflated_keeps filled image page lt = at (slot old (page / f.cluster_pages)) refl lt
    where
      at : (o : Option ℕ) → slot old (page / f.cluster_pages) ≡ o
          → Keeps f base of old (inflated_blob old) image page
      at None is less = absurd (none_empty base of old there (page / f.cluster_pages)
          (slot_below f.cluster_pages (length old.map) page rest.some_pages less) is filled)
      at (Some cluster) is less = in_filled f.cluster_pages image page (with_entry base of (inflated_blob old))
          (content f.cluster_pages image base (suc f.md_len)) (inflated_blob old) cluster is old base
          (content f.cluster_pages image base (suc f.md_len)) is
