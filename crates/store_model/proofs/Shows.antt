-- What of the volumes shown a write to the metadata region changes: nothing.
use Rattle.std.proofs.Common.{◌≡◌, ◌≢◌, ℕ, suc, ◌+◌, ◌*◌, ◌/◌, ◌%◌, ◌<◌, ◌≤◌, true, false, List, length, map}
use Rattle.std.proofs.Common.{Bool, Option, Some, None, refl, ap, arith}
use Rattle.std.specs.List.{range_with_len}
use Rattle.std.specs.Option.{option_map}
use Rattle.std.proofs.lemmas.Bool.{ne_eqb}
use Rattle.std.proofs.Math.Nat.{mul-le-mul_right}
use Rattle.std.proofs.Math.Path.{fun_ext}
use Rattle.page_disk.specs.Disk.{Image, with_page}
use Rattle.super_block.specs.declared.page.Super.{Super}
use Rattle.super_block.specs.Numbers.{cluster_pages_of, fixed_clusters_of}
use Rattle.super_block.specs.Placed.{IsPlaced}
use Rattle.volume_model.specs.Xattrs.{Xattrs}
use Rattle.blob_meta.specs.declared.meta.Meta.{Meta}
use Rattle.blob_meta.specs.Faults.{meta_fault}
use Rattle.blob_meta.specs.Resolving.{IsLawful, resolved}
use Rattle.store_model.specs.Maps.{Map, Metas}
use Rattle.store_model.specs.Regions.{region_of}
use Rattle.store_model.specs.Shown.{content, fixed_of, shown_by, volume_of}
use Rattle.store_model.specs.Device.{Device}
use Rattle.store_model.specs.StoreState.{StoreState, shown}
use Rattle.store_model.specs.Cases.{read_after_write}
use Rattle.store_model.specs.Agreeing.{AgreeOn}
use Rattle.store_model.specs.Steady.{AreStored}
use Rattle.store_model.proofs.Contents.{HasParents, same_content}
use Rattle.store_model.proofs.Resolved.{resolved_stored}
use Rattle.shown_volumes.proofs.Inside.{inside_slot}
pub use Rattle.store_model.proofs.Resolved.{steady_resolved}
pub use Rattle.shown_volumes.specs.Shown.{or_empty}

-- ---- two images that agree at each page of a cluster that some slot has

module _ (s : Super) (metas : Metas) (parents : HasParents metas) (image other : Image)
    (agrees : AgreeOn (cluster_pages_of s) metas (λ _ _. false) image other) where
  abbrev k : ℕ
  k = cluster_pages_of s

  volume_same : (live : Xattrs) (head : ℕ) (m : Meta)
      → volume_of k other metas s.md_len live head m ≡ volume_of k image metas s.md_len live head m
  volume_same live head m =
      let pages : content k other metas (suc s.md_len) head ≡ content k image metas (suc s.md_len) head =
      fun_ext (λ page. same_content k metas parents (λ _ _. false) image other agrees (suc s.md_len) head page refl) in
      ap (λ (f : ℕ → List ℕ). record (volume_of k image metas s.md_len live head m) {
        pages = map f (range_with_len 0 (k * length m.map));
      }) pages

  at_same : (live : Map Xattrs) (head : ℕ) (o : Option Meta)
      → option_map (λ m. volume_of k other metas s.md_len (or_empty (live head)) head m) o
      ≡ option_map (λ m. volume_of k image metas s.md_len (or_empty (live head)) head m) o
  at_same live head None = refl
  at_same live head (Some m) = ap (λ v. Some v) (volume_same (or_empty (live head)) head m)

  pub shown_agree : (live : Map Xattrs)
      → shown_by (fixed_of s) other metas live ≡ shown_by (fixed_of s) image metas live
  shown_agree live = fun_ext (λ head. at_same live head (metas head))

-- ---- two images with the same pages behind the fixed clusters

-- no map has a fault
abbrev pub AreFaultless : Super → Metas → Type 0
AreFaultless s metas =
    (head : ℕ) (m : Meta) → metas head ≡ Some m → meta_fault (region_of s).fixed (region_of s).clusters m ≡ None

pub resolved_faultless : (s : Super) (metas : Metas) → AreStored s metas → AreFaultless s (resolved metas)
resolved_faultless s metas stored head m is = (resolved_stored s metas stored head m is).faultless

module _ (s : Super) (metas : Metas) (parents : HasParents metas) (faultless : AreFaultless s metas)
    (image other : Image)
    (same : (page : ℕ) → fixed_clusters_of s * cluster_pages_of s ≤ page → other page ≡ image page) where
  cluster_behind : (fixed cluster k rest : ℕ) → fixed ≤ cluster → fixed * k ≤ cluster * k + rest
  cluster_behind fixed cluster k rest le = let m = mul-le-mul_right k le in omega (arith, m)

  pub agree : AgreeOn (cluster_pages_of s) metas (λ _ _. false) image other
  agree head page cluster m there is _ =
      let k = cluster_pages_of s in
      let inside = inside_slot _ _ m (page / k) cluster (faultless head m there) is in
      same _ (cluster_behind (fixed_clusters_of s) cluster k (page % k) inside.behind)

  pub shown_same : (live : Map Xattrs) → shown_by (fixed_of s) other metas live ≡ shown_by (fixed_of s) image metas live
  shown_same live = shown_agree s metas parents image other agree live

-- a write to a place of the metadata region leaves the pages behind the fixed clusters
pub behind_region : (told : Bool) (s : Super) (image : Image) (place : ℕ) (page : List ℕ) → IsPlaced s
    → place < s.md_len
    → (q : ℕ) → fixed_clusters_of s * cluster_pages_of s ≤ q
    → read_after_write told image (s.md_start + place) page q ≡ image q
unfolding with_page
behind_region true s image place page placed low q behind =
    let end = placed.md_end in
    let ne : q ≢ s.md_start + place = λ e. omega (arith, e, behind, low, end) in
    rw (ne_eqb q (s.md_start + place) ne) refl
behind_region false s image place page placed low q behind = refl

pub shown_written : (told : Bool) (s : Super) (p : StoreState) (d : Device) (place : ℕ) (page : List ℕ) → p.super ≡ s
    → AreStored s p.base → IsLawful s.md_len (resolved p.base) → IsPlaced s → place < s.md_len
    → d.reads ≡ read_after_write told p.device.reads (s.md_start + place) page → shown (record p { device = d })
    ≡ shown p
shown_written told s p d place page super stored lawful placed low reads =
    rw super (shown_same s (resolved p.base) lawful.parents (resolved_faultless s p.base stored)
    p.device.reads d.reads
    (λ q behind. rw reads (behind_region told s p.device.reads place page placed low q behind)) p.live)
