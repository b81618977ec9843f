-- The slots of all blobs, head by head.
use Rattle.std.proofs.Common.{◌≡◌, ℕ, ◌+◌, ◌^◌, ◌<◌, ◌≤◌, None, length, sym, ap, ◌∙◌, inl, inr, arith}
use Rattle.std.specs.Option.{option_map_or}
use Rattle.std.specs.Ordering.{nat_cmp}
use Rattle.std.specs.FinMap as map
use Rattle.std.proofs.lemmas.Bool.{cases_lt}
use Rattle.volume_model.proofs.Heads.{sum_more}
use Rattle.blob_meta.specs.declared.meta.Meta.{Meta}
use Rattle.blob_meta.specs.Heads.{IsNextFrom}
use Rattle.blob_meta.specs.Resolving.{slots_together}
use Rattle.blob_meta.specs.SlotCounts.{HasSlots, slots_at}
use Rattle.blob_meta.proofs.HeadsInRange.{none_of, sum_same}

module _ (metas : map.FinMap nat_cmp Meta) where
  no_slots : (h : ℕ) → map.get metas h ≡ None → slots_at metas h ≡ 0
  no_slots h none = ap (λ o. option_map_or (λ (m : Meta). length m.map) o 0) none

  -- up to the next head and it
  pub together_through : (from head slots : ℕ) → IsNextFrom metas from head → slots ≡ slots_at metas head
      → slots_together (head + 1) (map.get metas) ≡ slots_together from (map.get metas) + slots
  together_through from head slots next is =
      sum_more (slots_at metas) head
      ∙ ap (λ n. slots_together head (map.get metas) + n) (sym is)
      ∙ ap (λ n. n + slots) (sum_same (slots_at metas) from head next.above
      (λ k low lt. no_slots k (next.none_between k low lt)))

  -- behind the last head
  pub together_all : (from all : ℕ) → all ≡ slots_together from (map.get metas)
      → ((h : ℕ) → from ≤ h → h < 2 ^ 32 → map.get metas h ≡ None) → HasSlots metas all
  together_all from all is past md_len few below = elim (cases_lt from md_len) [
    | inl lt ↦ sum_same (slots_at metas) from md_len (omega arith)
        (λ k low high. no_slots k (past k low (omega arith))) ∙ sym is
    | inr le ↦ sym (is ∙ sum_same (slots_at metas) md_len from le
        (λ k low high. no_slots k (none_of (map.get metas k) (λ there. let lt = below k there in omega arith))))
  ]
