-- The slots of all maps together, where one map is another, and those of the volumes that are shown.
use Rattle.std.proofs.Common.{◌≡◌, ◌≢◌, ℕ, zero, suc, ◌+◌, ◌*◌, ◌/◌, ◌^◌, ◌<◌, ◌≤◌, length, Option, Some, None}
use Rattle.std.proofs.Common.{[], refl, sym, ap, ◌∙◌, inl, inr, arith}
use Rattle.std.specs.List.{range_with_len, sum_by}
use Rattle.std.specs.Option.{option_map, option_map_or}
use Rattle.std.proofs.lemmas.Bool.{cases_eq}
use Rattle.std.proofs.lemmas.List.FromFn.{length-map-range_with_len}
use Rattle.std.proofs.lemmas.List.Sums.{sum_by-cons}
use Rattle.std.proofs.Math.Nat.{mul-div_cancel_left}
use Rattle.std.proofs.Math.Path.{fun_ext}
use Rattle.page_disk.specs.Disk.{Image}
use Rattle.volume_model.specs.Volumes.{all_slots, Fixed, heads, slots_at, slots_of}
use Rattle.volume_model.specs.Xattrs.{Xattrs}
use Rattle.blob_meta.specs.declared.meta.Meta.{Meta}
use Rattle.blob_meta.specs.Resolving.{slots_together}
use Rattle.shown_volumes.specs.Maps.{Map, Metas, with_entry, without_entry}
use Rattle.shown_volumes.specs.Shown.{content, shown_by, volume_of}
use Rattle.shown_volumes.proofs.WithEntry.{given_elsewhere, given_here, gone_elsewhere, gone_here}

-- ---- sums over a range

module _ (f g : ℕ → ℕ) where
  sum_from : (a n : ℕ) → ((q : ℕ) → a ≤ q → g q ≡ f q)
      → sum_by g (range_with_len a n) ≡ sum_by f (range_with_len a n)
  sum_from a zero same = refl
  sum_from a (suc n) same =
      sum_by-cons g a (range_with_len (a + 1) n)
      ∙ ap (λ x. x + sum_by g (range_with_len (a + 1) n)) (same a (omega arith))
      ∙ ap (λ x. f a + x) (sum_from (a + 1) n (λ q le. same q (omega (arith, le))))
      ∙ sym (sum_by-cons f a (range_with_len (a + 1) n))

  -- of two functions that differ at one number
  sum_but : (a n i : ℕ) → a ≤ i → i < a + n → ((q : ℕ) → q ≢ i → g q ≡ f q)
      → sum_by g (range_with_len a n) + f i ≡ sum_by f (range_with_len a n) + g i
  sum_but a zero i low below same = absurd (omega (arith, low, below))
  sum_but a (suc n) i low below same =
      let gs = sum_by-cons g a (range_with_len (a + 1) n) in
      let fs = sum_by-cons f a (range_with_len (a + 1) n) in
      elim (cases_eq a i) [
        | inl e ↦
            let rest = sum_from (a + 1) n (λ q le. same q (λ is. omega (arith, is, e, le))) in
            let gi : g a ≡ g i = ap g e in
            let fi : f a ≡ f i = ap f e in
            omega (arith, gs, fs, rest, gi, fi)
        | inr ne ↦
            let rest = sum_but (a + 1) n i (omega (arith, low, ne)) (omega (arith, below)) same in
            let here = same a ne in
            omega (arith, gs, fs, rest, here)
      ]

  -- smaller numbers have a smaller sum
  sum_at_most : (a n : ℕ) → ((q : ℕ) → g q ≤ f q) → sum_by g (range_with_len a n) ≤ sum_by f (range_with_len a n)
  sum_at_most a zero less = omega arith
  sum_at_most a (suc n) less =
      let gs = sum_by-cons g a (range_with_len (a + 1) n) in
      let fs = sum_by-cons f a (range_with_len (a + 1) n) in
      let rest = sum_at_most (a + 1) n less in
      let here = less a in
      omega (arith, gs, fs, rest, here)

-- ---- maps

-- how many slots a blob has
abbrev pub slots_in : Option Meta → ℕ
slots_in o = option_map_or (λ m. length m.map) o 0

pub slots_given : (md_len : ℕ) (metas : Metas) (head : ℕ) (new : Meta) → head < md_len
    → slots_together md_len (with_entry metas head new) + slots_in (metas head)
    ≡ slots_together md_len metas + length new.map
slots_given md_len metas head new low =
    sum_but (λ h. slots_in (metas h)) (λ h. slots_in (with_entry metas head new h)) 0 md_len head (omega arith)
    (omega (arith, low)) (λ q ne. ap slots_in (given_elsewhere metas head new q ne))
    ∙ ap (λ n. slots_together md_len metas + n) (ap slots_in (given_here metas head new head refl))

pub slots_gone : (md_len : ℕ) (metas : Metas) (head : ℕ) → head < md_len
    → slots_together md_len (without_entry metas head) + slots_in (metas head) ≡ slots_together md_len metas
slots_gone md_len metas head low =
    let sum = sum_but (λ h. slots_in (metas h)) (λ h. slots_in (without_entry metas head h)) 0 md_len head (omega arith)
    (omega (arith, low)) (λ q ne. ap slots_in (gone_elsewhere metas head q ne)) in
    let none : slots_in (without_entry metas head head) ≡ 0 = ap slots_in (gone_here metas head head refl) in
    omega (arith, sum, none)

-- maps of which none has more slots have no more together
pub slots_at_most : (md_len : ℕ) (metas other : Metas) → ((h : ℕ) → slots_in (other h) ≤ slots_in (metas h))
    → slots_together md_len metas ≤ 2 ^ 24 → slots_together md_len other ≤ 2 ^ 24
slots_at_most md_len metas other less few =
    let below = sum_at_most (λ h. slots_in (metas h)) (λ h. slots_in (other h)) 0 md_len less in
    omega (arith, below, few)

-- ---- volumes

module _ (f : Fixed) (image : Image) (metas : Metas) (some : 0 < f.cluster_pages) where
  pub slots_shown : (live : Xattrs) (h : ℕ) (m : Meta)
      → slots_of f (volume_of f.cluster_pages image metas f.md_len live h m) ≡ length m.map
  slots_shown live h m =
      ap (λ n. n / f.cluster_pages)
      (length-map-range_with_len (content f.cluster_pages image metas (suc f.md_len) h) 0
      (f.cluster_pages * length m.map))
      ∙ mul-div_cancel_left (length m.map) some

  pub slots_at_shown : (live : Map Xattrs) (h : ℕ) → slots_at f (shown_by f image metas live) h ≡ slots_in (metas h)
  slots_at_shown live h = by (metas h)
    where
      xattrs : Xattrs
      xattrs = option_map_or (λ xs. xs) (live h) []

      by : (o : Option Meta)
          → option_map_or (slots_of f) (option_map (volume_of f.cluster_pages image metas f.md_len xattrs h) o) 0
          ≡ slots_in o
      by None = refl
      by (Some m) = slots_shown xattrs h m

  pub all_shown : (live : Map Xattrs) → all_slots f (shown_by f image metas live) ≡ slots_together f.md_len metas
  all_shown live = ap (λ (g : ℕ → ℕ). sum_by g (heads f)) (fun_ext (slots_at_shown live))
