-- What no image changes: but for the content of pages, metadata shows the same volumes whatever an image holds.
use Rattle.std.proofs.Common.{◌≡◌, ℕ, suc, ◌*◌, false, Option, Some, None, List, length, refl, sym, ap, ◌∙◌}
use Rattle.std.specs.Prelude.{replicate}
use Rattle.std.specs.Option.{option_map}
use Rattle.std.proofs.lemmas.List.FromFn.{length-map-range_with_len}
use Rattle.page_disk.specs.Disk.{Image}
use Rattle.volume_model.specs.Blank.{blank, blanked}
use Rattle.volume_model.specs.Volumes.{Fixed, two_xattrs, Volume, Volumes, zero_page}
use Rattle.volume_model.specs.Xattrs.{Text, Xattrs}
use Rattle.volume_model.specs.declared.command.Command.TheVariants as c
use Rattle.volume_model.specs.declared.reply.Reply.TheVariants as r
use Rattle.volume_model.proofs.BlankSteps.{same_change}
use Rattle.blob_meta.specs.declared.meta.Meta.{Meta}
use Rattle.shown_volumes.specs.Maps.{Map, Metas}
use Rattle.shown_volumes.specs.Shown.{content, or_empty, shown_by, volume_of}

-- the volumes that two images show differ in the content of pages alone
pub blank_shown : (f : Fixed) (metas : Metas) (live : Map Xattrs) (image other : Image) (h : ℕ)
    → blanked (shown_by f image metas live) h ≡ blanked (shown_by f other metas live) h
blank_shown f metas live image other h = at (metas h)
  where
    at : (o : Option Meta)
        → option_map blank
        (option_map (λ m. volume_of f.cluster_pages image metas f.md_len (or_empty (live h)) h m) o)
        ≡ option_map blank
        (option_map (λ m. volume_of f.cluster_pages other metas f.md_len (or_empty (live h)) h m) o)
    at None = refl
    at (Some m) =
        ap (λ n. Some (record (volume_of f.cluster_pages other metas f.md_len (or_empty (live h)) h m) {
          pages = replicate n zero_page;
        }))
        (length-map-range_with_len (content f.cluster_pages image metas (suc f.md_len) h) 0
        (f.cluster_pages * length m.map)
        ∙ sym (length-map-range_with_len (content f.cluster_pages other metas (suc f.md_len) h) 0
        (f.cluster_pages * length m.map)))

-- the attributes of a new volume don't depend on the content of pages
pub two_same : (f : Fixed) (v w : Volumes) → ((h : ℕ) → blanked v h ≡ blanked w h) → (name : Text)
    (uuid : Option (List ℕ)) → two_xattrs f v name uuid ≡ two_xattrs f w name uuid
two_same f v w same name uuid =
    let x : Some (two_xattrs f v name uuid) ≡ Some (two_xattrs f w name uuid) =
    ap (λ o. option_map (λ (x : Volume). x.live) o)
    (same_change f v w same (c.Create name 0 false uuid) (r.Made 0) 0) in
    cc x
