-- What a blob shows doesn't depend on how many parents are followed at most, where these are enough.
use Rattle.std.proofs.Common.{◌≡◌, ℕ, zero, suc, ◌*◌, ◌/◌, ◌<◌, Option, Some, None, length, refl, ap, arith}
use Rattle.std.specs.Prelude.{nat_lt, if◌then◌else◌}
use Rattle.std.specs.Option.{option_map_or}
use Rattle.page_disk.specs.Disk.{Image}
use Rattle.volume_model.specs.Volumes.{Page, zero_page}
use Rattle.blob_meta.specs.declared.meta.Meta.{Meta}
use Rattle.blob_meta.specs.Parents.{parent_of, slot}
use Rattle.shown_volumes.specs.Maps.{Metas}
use Rattle.shown_volumes.specs.Shown.{content, content_by}
use Rattle.shown_volumes.proofs.Ranks.{Levels}

module _ (k : ℕ) (image : Image) (md_len : ℕ) (metas : Metas) (levels : Levels md_len metas) (page : ℕ) where
  abbrev IsSameAfter : ℕ → ℕ → Type 0
  IsSameAfter times more = (h : ℕ) → levels.level h < times → levels.level h < more
      → content k image metas times h page ≡ content k image metas more h page

  through : (times more h : ℕ) (m : Meta) → IsSameAfter times more → levels.level h < suc times
      → levels.level h < suc more → metas h ≡ Some m → (o : Option ℕ) → parent_of m ≡ o
      → option_map_or (λ p. option_map_or (λ parent. if nat_lt page (k * length parent.map)
      then content k image metas times p page else zero_page) (metas p) zero_page) o zero_page
      ≡ option_map_or (λ p. option_map_or (λ parent. if nat_lt page (k * length parent.map)
      then content k image metas more p page else zero_page) (metas p) zero_page) o zero_page
  through times more h m same a b there None of = refl
  through times more h m same a b there (Some p) of =
      let falls = levels.falls h p m there of in
      ap (λ (c : Page). option_map_or (λ (parent : Meta). if nat_lt page (k * length parent.map) then c else zero_page)
      (metas p) zero_page) (same p (omega (arith, a, falls)) (omega (arith, b, falls)))

  in_slot : (times more h : ℕ) (m : Meta) → IsSameAfter times more → levels.level h < suc times
      → levels.level h < suc more → metas h ≡ Some m → (o : Option ℕ) → slot m (page / k) ≡ o
      → content_by k image metas (λ p q. content k image metas times p q) page m
      ≡ content_by k image metas (λ p q. content k image metas more p q) page m
  in_slot times more h m same a b there None is = rw is (through times more h m same a b there (parent_of m) refl)
  in_slot times more h m same a b there (Some cluster) is = rw is refl

  one_more : (times more h : ℕ) → IsSameAfter times more → levels.level h < suc times → levels.level h < suc more
      → (o : Option Meta) → metas h ≡ o
      → option_map_or (content_by k image metas (λ p q. content k image metas times p q) page) o zero_page
      ≡ option_map_or (content_by k image metas (λ p q. content k image metas more p q) page) o zero_page
  one_more times more h same a b None there = refl
  one_more times more h same a b (Some m) there = in_slot times more h m same a b there (slot m (page / k)) refl

  -- more steps than the blob's rank are enough
  pub enough : (times more : ℕ) → IsSameAfter times more
  enough zero more h a b = absurd (omega (arith, a))
  enough (suc times) zero h a b = absurd (omega (arith, b))
  enough (suc times) (suc more) h a b = one_more times more h (enough times more) a b (metas h) refl
