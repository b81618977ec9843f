-- The content of pages is by the maps and the parents of blobs alone.
use Rattle.std.proofs.Common.{◌≡◌, ℕ, zero, suc, ◌*◌, ◌/◌, List, length, Option, Some, None, refl, sym, ap, ◌∙◌}
use Rattle.std.specs.Prelude.{nat_lt, slice_get, if◌then◌else◌}
use Rattle.std.specs.Option.{option_map_or, option_and_then}
use Rattle.page_disk.specs.Disk.{Image}
use Rattle.volume_model.specs.Volumes.{zero_page}
use Rattle.blob_meta.specs.declared.meta.Meta.{Meta}
use Rattle.blob_meta.specs.Parents.{parent_of, slot}
use Rattle.store_model.specs.Maps.{Metas}
use Rattle.store_model.specs.Shown.{content, content_by}

-- metadata that is there in both places or in none, with one map and one parent
abbrev pub IsPlacedAlike : Option Meta → Option Meta → Type 0
IsPlacedAlike None None = Unit {0}
IsPlacedAlike (Some m) (Some n) = (m.map ≡ n.map) × (parent_of m ≡ parent_of n)
IsPlacedAlike _ _ = ⊥

module _ (k : ℕ) (image : Image) (metas others : Metas) (alike : (head : ℕ) → IsPlacedAlike (others head) (metas head))
  where
    -- so many steps through parents
    abbrev IsSameAfter : ℕ → Type 0
    IsSameAfter times = (head page : ℕ) → content k image others times head page ≡ content k image metas times head page

    from_parent : (times p page : ℕ) → IsSameAfter times → (o q : Option Meta) → IsPlacedAlike o q
        → option_map_or (λ (x : Meta). if nat_lt page (k * length x.map) then content k image others times p page
        else zero_page) o zero_page
        ≡ option_map_or (λ (x : Meta). if nat_lt page (k * length x.map) then content k image metas times p page
        else zero_page) q zero_page
    from_parent times p page same None None is = refl
    from_parent times p page same (Some m) (Some n) is =
        ap (λ (c : List ℕ). if nat_lt page (k * length m.map) then c else zero_page) (same p page)
        ∙ ap (λ (map : List (Option ℕ)). if nat_lt page (k * length map) then content k image metas times p page
        else zero_page) is.0
    from_parent times p page same None (Some n) is = absurd is
    from_parent times p page same (Some m) None is = absurd is

    through : (times page : ℕ) → IsSameAfter times → (o : Option ℕ)
        → option_map_or (λ p. option_map_or (λ (x : Meta). if nat_lt page (k * length x.map)
        then content k image others times p page else zero_page) (others p) zero_page) o zero_page
        ≡ option_map_or (λ p. option_map_or (λ (x : Meta). if nat_lt page (k * length x.map)
        then content k image metas times p page else zero_page) (metas p) zero_page) o zero_page
    through times page same None = refl
    through times page same (Some p) = from_parent times p page same (others p) (metas p) (alike p)

    in_slot : (times page : ℕ) → IsSameAfter times → (m n : Meta) → m.map ≡ n.map → parent_of m ≡ parent_of n
        → (o : Option ℕ) → slot m (page / k) ≡ o
        → content_by k image others (λ p r. content k image others times p r) page m
        ≡ content_by k image metas (λ p r. content k image metas times p r) page n
    in_slot times page same m n map parent o is =
        let slots : slot n (page / k) ≡ o =
        sym (ap (λ (xs : List (Option ℕ)). option_and_then (λ s. s) (slice_get xs (page / k))) map) ∙ is in
        by o is slots
      where
        by : (o : Option ℕ) → slot m (page / k) ≡ o → slot n (page / k) ≡ o
            → content_by k image others (λ p r. content k image others times p r) page m
            ≡ content_by k image metas (λ p r. content k image metas times p r) page n
        by None a b = rw (a, b, parent) (through times page same (parent_of n))
        by (Some cluster) a b = rw (a, b) refl

    one_more : (times page : ℕ) → IsSameAfter times → (o q : Option Meta) → IsPlacedAlike o q
        → option_map_or (content_by k image others (λ p r. content k image others times p r) page) o zero_page
        ≡ option_map_or (content_by k image metas (λ p r. content k image metas times p r) page) q zero_page
    one_more times page same None None is = refl
    one_more times page same (Some m) (Some n) is = in_slot times page same m n is.0 is.1 (slot m (page / k)) refl
    one_more times page same None (Some n) is = absurd is
    one_more times page same (Some m) None is = absurd is

    pub content_alike : (times : ℕ) → IsSameAfter times
    content_alike zero head page = refl
    content_alike (suc times) head page =
        one_more times page (content_alike times) (others head) (metas head) (alike head)
