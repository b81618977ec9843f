-- A page of a volume is what is read where it lies, or zeros; and where it is read lies on the device.
use Rattle.std.proofs.Common.{◌≡◌, ℕ, zero, suc, ◌+◌, ◌*◌, ◌%◌, ◌/◌, ◌<◌, ◌≤◌, Bool, true, false, Option, Some, None}
use Rattle.std.proofs.Common.{get_or, List, [], ◌∷◌, length, refl, sym, ap, subst, ◌∙◌, add-one, arith}
use Rattle.std.specs.Prelude.{if◌then◌else◌, nat_lt, replicate, slice_get}
use Rattle.std.specs.Option.{option_and_then, option_map_or}
use Rattle.std.specs.Ordering.{nat_cmp}
use Rattle.std.specs.FinMap as map
use Rattle.std.proofs.Math.Nat.{mod-lt, mul-le-mul_right}
use Rattle.std.proofs.lemmas.List.FromFn.{get_or-map-range_with_len}
use Rattle.page_disk.specs.Disk.{Image}
use Rattle.super_block.specs.declared.page.Super.{Super}
use Rattle.super_block.specs.Numbers.{cluster_pages_of, clusters_of, fixed_clusters_of}
use Rattle.super_block.specs.Placed.{IsPlaced}
use Rattle.volume_model.specs.Volumes.{zero_page}
use Rattle.blob_meta.specs.declared.meta.Meta.{Meta}
use Rattle.blob_meta.specs.Pages.{parent_with, place_by, place_read}
use Rattle.blob_meta.specs.Parents.{parent_of, slot}
use Rattle.blob_meta.specs.SlotCounts.{HeadsFit}
use Rattle.shown_volumes.specs.Maps.{Metas}
use Rattle.shown_volumes.specs.Shown.{content, content_by}
use Rattle.shown_volumes.proofs.Inside.{inside_slot}
use Rattle.whole_copy.specs.Meant.{AreHeld, pages_shown}
use Rattle.whole_copy.specs.Copied.{HoldsSo}
use Rattle.whole_copy.proofs.VolumesShown.{as_volume, heads_fit, pages_long, shown_there}

got : {A : Type 0} (l : List A) (k : ℕ) (d : A) → k < length l → slice_get l k ≡ Some (get_or l k d)
got [] k d lt = absurd (omega (arith, lt))
got (x ∷ xs) zero d lt = refl
got (x ∷ xs) (suc k) d lt = got xs k d (omega (arith, lt))

-- a page's content is what is read where it lies, or zeros
module _ (k : ℕ) (image : Image) (metas : Metas) where
  -- so many steps through parents
  abbrev IsReadAfter : ℕ → ℕ → Type 0
  IsReadAfter times page = (head : ℕ)
      → content k image metas times head page ≡ option_map_or image (place_read k metas times head page) zero_page

  has : (times page q : ℕ) → IsReadAfter times page → (b : Bool)
      → (if b then content k image metas times q page else zero_page)
      ≡ option_map_or image (option_and_then (λ q. place_read k metas times q page) (if b then Some q else None))
      zero_page
  has times page q so_far true = so_far q
  has times page q so_far false = refl

  below : (times page q : ℕ) → IsReadAfter times page → (o : Option Meta)
      → option_map_or (λ parent. if nat_lt page (k * length parent.map) then content k image metas times q page
      else zero_page) o zero_page
      ≡ option_map_or image (option_and_then (λ q. place_read k metas times q page) (option_and_then
      (λ parent. if nat_lt page (k * length parent.map) then Some q else None) o)) zero_page
  below times page q so_far None = refl
  below times page q so_far (Some parent) = has times page q so_far (nat_lt page (k * length parent.map))

  at_parent : (times page : ℕ) → IsReadAfter times page → (o : Option ℕ)
      → option_map_or (λ q. option_map_or (λ parent.
      if nat_lt page (k * length parent.map) then content k image metas times q page else zero_page) (metas q)
      zero_page) o zero_page
      ≡ option_map_or image (option_and_then (λ q. place_read k metas times q page) (option_and_then (λ q.
      option_and_then (λ parent. if nat_lt page (k * length parent.map) then Some q else None) (metas q)) o))
      zero_page
  at_parent times page so_far None = refl
  at_parent times page so_far (Some q) = below times page q so_far (metas q)

  at_slot : (times page : ℕ) → IsReadAfter times page → (m : Meta) (o : Option ℕ) → slot m (page / k) ≡ o
      → content_by k image metas (λ a b. content k image metas times a b) page m
      ≡ option_map_or image (place_by k metas (λ a b. place_read k metas times a b) page m) zero_page
  at_slot times page so_far m None is = rw is (at_parent times page so_far (parent_of m))
  at_slot times page so_far m (Some cluster) is = rw is refl

  at_blob : (times page : ℕ) → IsReadAfter times page → (o : Option Meta)
      → option_map_or (content_by k image metas (λ a b. content k image metas times a b) page) o zero_page
      ≡ option_map_or image
      (option_and_then (place_by k metas (λ a b. place_read k metas times a b) page) o) zero_page
  at_blob times page so_far None = refl
  at_blob times page so_far (Some m) = at_slot times page so_far m (slot m (page / k)) refl

  read_content : (times page : ℕ) → IsReadAfter times page
  read_content zero page head = refl
  read_content (suc times) page head = at_blob times page (read_content times page) (metas head)

module _ (s : Super) (metas : map.FinMap nat_cmp Meta) (placed : IsPlaced s) (held : AreHeld s metas) where
  abbrev k : ℕ
  k = cluster_pages_of s

  -- a cluster of a map is one of the store, and its pages lie on the device
  page_low : (h : ℕ) (m : Meta) (i cluster page : ℕ) → map.get metas h ≡ Some m → slot m i ≡ Some cluster
      → cluster * k + page % k < s.device_pages
  page_low h m i cluster page there is =
      let inside = inside_slot (fixed_clusters_of s) (clusters_of s) m i cluster (held h m there).faultless is in
      let low = inside.below in
      let le : (cluster + 1) * k ≤ clusters_of s * k = mul-le-mul_right k (omega (arith, low)) in
      let rest = mod-lt page placed.some_pages in
      let on = placed.on_device in
      omega (arith, le, rest, on)

  -- so many steps through parents
  abbrev IsLowAfter : ℕ → ℕ → Type 0
  IsLowAfter times page = (h place : ℕ) → place_read k (map.get metas) times h page ≡ Some place
      → place < s.device_pages

  through : (times page place : ℕ) → IsLowAfter times page → (o : Option ℕ)
      → option_and_then (λ q. place_read k (map.get metas) times q page) o ≡ Some place
      → place < s.device_pages
  through times page place so_far None is = absurd (cc is)
  through times page place so_far (Some q) is = so_far q place is

  in_slot : (times page place h : ℕ) → IsLowAfter times page → (m : Meta) → map.get metas h ≡ Some m → (o : Option ℕ)
      → slot m (page / k) ≡ o
      → place_by k (map.get metas) (λ a b. place_read k (map.get metas) times a b) page m ≡ Some place
      → place < s.device_pages
  in_slot times page place h so_far m there None slot_is is =
      through times page place so_far (parent_with k (map.get metas) m page) (sym (rw slot_is refl) ∙ is)
  in_slot times page place h so_far m there (Some cluster) slot_is is =
      let both : Some (cluster * k + page % k) ≡ Some place = sym (rw slot_is refl) ∙ is in
      let e : cluster * k + page % k ≡ place = cc both in
      subst (λ n. n < s.device_pages) e (page_low h m (page / k) cluster page there slot_is)

  in_blob : (times page place h : ℕ) → IsLowAfter times page → (o : Option Meta) → map.get metas h ≡ o
      → option_and_then (place_by k (map.get metas) (λ a b. place_read k (map.get metas) times a b) page) o ≡ Some place
      → place < s.device_pages
  in_blob times page place h so_far None there is = absurd (cc is)
  in_blob times page place h so_far (Some m) there is =
      in_slot times page place h so_far m there (slot m (page / k)) refl is

  -- where it is read lies on the device
  pub read_low : (times page : ℕ) → IsLowAfter times page
  read_low zero page h place is = absurd (cc is)
  read_low (suc times) page h place is =
      in_blob times page place h (read_low times page) (map.get metas h) refl is

  -- a page that a volume has is shown as what is read there, or as zeros
  pub page_read : (image : Image) (h page : ℕ) → page < length (pages_shown s metas image h)
      → HoldsSo (pages_shown s metas image h) page
      (option_map_or image (place_read k (map.get metas) (s.md_len + 1) h page) zero_page)
  page_read image h page lt = by (map.get metas h) refl
    where
      in_volume : (m : Meta) → page < k * length m.map
          → slice_get (as_volume s metas placed held image h m).pages page
          ≡ Some (option_map_or image (place_read k (map.get metas) (s.md_len + 1) h page) zero_page)
      in_volume m below =
          let pages = (as_volume s metas placed held image h m).pages in
          let n = k * length m.map in
          got pages page [] (subst (λ x. page < x) (sym (pages_long s metas placed held image h m)) below)
          ∙ ap (λ x. Some x)
          (get_or-map-range_with_len (content k image (map.get metas) (suc s.md_len) h) 0 n page page [] below
          (omega arith) ∙ read_content k image (map.get metas) (suc s.md_len) page h
          ∙ ap (λ t. option_map_or image (place_read k (map.get metas) t h page) zero_page) (sym (add-one s.md_len)))

      by : (o : Option Meta) → map.get metas h ≡ o → HoldsSo (pages_shown s metas image h) page
          (option_map_or image (place_read k (map.get metas) (s.md_len + 1) h page) zero_page)
      by None is = absurd (let none : length (pages_shown s metas image h) ≡ 0 = rw (is) refl in omega (arith, lt, none))
      by (Some m) is =
          let whole = shown_there s metas placed held image h m is in
          let below : page < k * length m.map = subst (λ n. page < n) (ap length whole
          ∙ pages_long s metas placed held image h m) lt in
          ap (λ l. slice_get l page) whole ∙ in_volume m below

  -- the place that was found, by the pages of a cluster, is where the page is read
  pub found_place : (cluster_pages head page : ℕ) (found : Option ℕ) → cluster_pages ≡ k
      → (HeadsFit metas → found ≡ place_read cluster_pages (map.get metas) (s.md_len + 1) head page)
      → found ≡ place_read k (map.get metas) (s.md_len + 1) head page
  found_place cluster_pages head page found same is =
      is (heads_fit s metas placed held) ∙ ap (λ n. place_read n (map.get metas) (s.md_len + 1) head page) same

-- a page of zeros
pub zeros : replicate 4096 0 ≡ zero_page
unfolding zero_page
zeros = refl
