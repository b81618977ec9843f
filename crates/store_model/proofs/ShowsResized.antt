-- What is shown with a blob of another number of slots: its volume is cut, or has slots of zeros more.
use Rattle.std.proofs.Common.{◌≡◌, ◌≢◌, ℕ, suc, ◌+◌, ◌-◌, ◌*◌, ◌/◌, ◌<◌, ◌≤◌, ◌++◌, false, List, length, map}
use Rattle.std.proofs.Common.{Option, Some, None, refl, sym, ap, ◌∙◌, subst, inl, inr, arith, mul_comm}
use Rattle.std.specs.Prelude.{if◌then◌else◌, nat_lt, replicate}
use Rattle.std.specs.List.{range_with_len}
use Rattle.std.specs.Option.{option_map_or}
use Rattle.std.proofs.lemmas.Bool.{cases_lt, le-ltb}
use Rattle.std.proofs.Math.Nat.{div-lt_iff_lt-mul, le-div_iff_mul-le, mul-le-mul_left}
use Rattle.std.proofs.lemmas.List.FromFn.{length-map-range_with_len, take-map-range_with_len}
use Rattle.page_disk.specs.Disk.{Image}
use Rattle.volume_model.specs.Volumes.{Fixed, Page, resized, zero_page}
use Rattle.volume_model.specs.Xattrs.{Xattrs}
use Rattle.blob_meta.specs.declared.meta.Meta.{Meta}
use Rattle.blob_meta.specs.Jobs.{resized_meta}
use Rattle.blob_meta.specs.Parents.{parent_of, slot}
use Rattle.store_model.specs.Maps.{Metas, with_entry}
use Rattle.store_model.specs.Shown.{content, content_by, volume_of}
use Rattle.store_model.proofs.Cut.{cut, is_cut, is_longer, length_cut, slot_kept, slot_past}
use Rattle.store_model.proofs.Elsewhere.{IsChildless, same_elsewhere, through}
use Rattle.shown_volumes.proofs.Ranges.{all_one, in_two, same_below}
use Rattle.shown_volumes.proofs.WithEntry.{given_here, given_elsewhere}

-- slots of pages
less_than : {k : ℕ} → 0 < k → (n q : ℕ) → q < 0 + k * n → q / k < n
less_than {k} some n q lt = (div-lt_iff_lt-mul some).1 (subst (λ m. q < m) (mul_comm k n) (omega (arith, lt)))

at_least : {k : ℕ} → 0 < k → (n q : ℕ) → k * n ≤ q → n ≤ q / k
at_least {k} some n q le = (le-div_iff_mul-le some).1 (subst (λ m. m ≤ q) (mul_comm k n) le)

-- its parent has no more slots than so many
abbrev pub IsNoLonger : Metas → Meta → ℕ → Type 0
IsNoLonger metas m slots = (p : ℕ) (parent : Meta) → parent_of m ≡ Some p → metas p ≡ Some parent
    → length parent.map ≤ slots

module _ (k : ℕ) (some : 0 < k) (metas : Metas) (head : ℕ) (old : Meta) (there : metas head ≡ Some old)
    (childless : IsChildless metas head) (image : Image) (md_len slots : ℕ) where
  abbrev next : Meta
  next = resized_meta old slots

  abbrev nexts : Metas
  nexts = with_entry metas head next

  abbrev len : ℕ
  len = length old.map

  -- the content of a page before and afterwards
  abbrev was : ℕ → Page
  was q = content k image metas (suc md_len) head q

  abbrev now : ℕ → Page
  now q = content k image nexts (suc md_len) head q

  others : (h : ℕ) → h ≢ head → nexts h ≡ metas h
  others h ne = given_elsewhere metas head next h ne

  by_slot : (q : ℕ) (o : Option ℕ) → slot next (q / k) ≡ o → slot old (q / k) ≡ o
      → content_by k image nexts (λ p r. content k image nexts md_len p r) q next
      ≡ content_by k image metas (λ p r. content k image metas md_len p r) q old
  by_slot q None e f = rw (e, f)
      (through k metas nexts head others childless image image (λ _ _ _ _ _ _ _. refl) md_len head q old
      (same_elsewhere k metas nexts head others childless image image (λ _ _ _ _ _ _ _. refl) md_len q) there
      (parent_of old) refl)
  by_slot q (Some cluster) e f = rw (e, f) refl

  -- in the slots that there are afterwards a page shows what it would have shown
  page_kept : (q : ℕ) → q / k < slots → now q ≡ was q
  page_kept q lt =
      ap (λ o. option_map_or (content_by k image nexts (λ p r. content k image nexts md_len p r) q) o zero_page)
      (given_here metas head next head refl)
      ∙ by_slot q (slot old (q / k)) (slot_kept old.map slots (q / k) lt) refl
      ∙ sym (ap
      (λ o. option_map_or (content_by k image metas (λ p r. content k image metas md_len p r) q) o zero_page) there)

  -- behind the slots that there were it would have shown zeros
  page_behind : IsNoLonger metas old len → (q : ℕ) → k * len ≤ q → was q ≡ zero_page
  page_behind short q le =
      ap (λ o. option_map_or (content_by k image metas (λ p r. content k image metas md_len p r) q) o zero_page) there
      ∙ rw (slot_past old.map (q / k) (at_least some len q le)) (by_parent (parent_of old) refl)
    where
      by_blob : (p : ℕ) → parent_of old ≡ Some p → (o : Option Meta) → metas p ≡ o
          → option_map_or (λ (parent : Meta). if nat_lt q (k * length parent.map)
          then content k image metas md_len p q else zero_page) o zero_page ≡ zero_page
      by_blob p of None is = refl
      by_blob p of (Some parent) is =
          let no : nat_lt q (k * length parent.map) ≡ false =
          let less = mul-le-mul_left k (short p parent of is) in
          le-ltb q (k * length parent.map) (omega (arith, less, le)) in
          rw no refl

      by_parent : (o : Option ℕ) → parent_of old ≡ o
          → option_map_or (λ p. option_map_or (λ (parent : Meta). if nat_lt q (k * length parent.map)
          then content k image metas md_len p q else zero_page) (metas p) zero_page) o zero_page ≡ zero_page
      by_parent None of = refl
      by_parent (Some p) of = by_blob p of (metas p) refl

  -- so a page of a slot that is added shows zeros
  pub page_added : IsNoLonger metas old len → (q : ℕ) → len ≤ q / k → q / k < slots → now q ≡ zero_page
  page_added short q behind lt =
      page_kept q lt ∙ page_behind short q (subst (λ m. m ≤ q) (mul_comm len k) ((le-div_iff_mul-le some).0 behind))

  -- ---- all its pages

  pages_now : map now (range_with_len 0 (k * length next.map)) ≡ map was (range_with_len 0 (k * slots))
  pages_now =
      ap (λ n. map now (range_with_len 0 (k * n))) (length_cut old.map slots None)
      ∙ same_below was now 0 (k * slots) (λ q lt. page_kept q (less_than some slots q lt))

  pages_were : length (map was (range_with_len 0 (k * len))) ≡ k * len
  pages_were = length-map-range_with_len was 0 (k * len)

  abbrev before : List Page
  before = map was (range_with_len 0 (k * len))

  pages_cut : slots ≤ len → map was (range_with_len 0 (k * slots)) ≡ cut before (k * slots) zero_page
  pages_cut le =
      let fewer : k * slots ≤ k * len = mul-le-mul_left k le in
      sym (is_cut before (k * slots) zero_page (omega (arith, fewer, pages_were))
      ∙ take-map-range_with_len was 0 (k * len) (k * slots) fewer)

  pages_longer : len ≤ slots → IsNoLonger metas old len
      → map was (range_with_len 0 (k * slots)) ≡ cut before (k * slots) zero_page
  pages_longer le short =
      let more : k * len ≤ k * slots = mul-le-mul_left k le in
      let split : k * slots ≡ k * len + (k * slots - k * len) = omega (arith, more) in
      ap (λ n. map was (range_with_len 0 n)) split
      ∙ in_two was 0 (k * len) (k * slots - k * len)
      ∙ ap (λ ps. before ++ ps) (all_one was zero_page (0 + k * len) (k * slots - k * len)
      (λ q behind. page_behind short q (omega (arith, behind))))
      ∙ ap (λ n. before ++ replicate (k * slots - n) zero_page) (sym pages_were)
      ∙ sym (is_longer before (k * slots) zero_page (omega (arith, more, pages_were)))

  -- longer than its parent it is no longer
  pages_resized : (len < slots → IsNoLonger metas old len)
      → map now (range_with_len 0 (k * length next.map)) ≡ cut before (k * slots) zero_page
  pages_resized short = pages_now ∙ elim (cases_lt len slots) [
    | inl longer ↦ pages_longer (omega (arith, longer)) (short longer)
    | inr le ↦ pages_cut le
  ]

  -- its volume is resized
  pub volume_resized : (f : Fixed) → f.cluster_pages ≡ k → (len < slots → IsNoLonger metas old len) → (live : Xattrs)
      → volume_of k image nexts md_len live head next ≡ record (volume_of k image metas md_len live head old) {
        pages = resized f (volume_of k image metas md_len live head old).pages slots;
      }
  volume_resized f pages_of short live =
      ap (λ (pages : List Page). record (volume_of k image metas md_len live head old) { pages = pages })
      (pages_resized short ∙ ap (λ n. cut before n zero_page) (mul_comm k slots)
      ∙ ap (λ n. cut before (slots * n) zero_page) (sym pages_of))
