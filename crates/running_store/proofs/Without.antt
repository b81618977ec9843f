-- A store without one of its blobs.
use Rattle.std.proofs.Common.{◌≡◌, ℕ, ◌==◌, ◌<◌, Bool, true, false, if◌then◌else◌, List, Option, None, refl, sym, ap}
use Rattle.std.proofs.Common.{◌∙◌, subst, inl, inr, arith}
use Rattle.std.specs.Prelude.{IsSome, slice_set}
use Rattle.std.specs.Option.{option_or}
use Rattle.std.specs.Ordering.{nat_cmp}
use Rattle.std.specs.FinMap as map
use Rattle.std.proofs.Math.Path.{fun_ext}
use Rattle.std.proofs.lemmas.Bool.{cases_eq, eq-eqb, ne_eqb}
use Rattle.std.proofs.lemmas.List.{get_or-set_other, get_or-set_same, length-set}
use Rattle.bit_array.specs.Bits.{is_in}
use Rattle.blob_meta.specs.declared.meta.Meta.{Meta}
use Rattle.store_model.specs.Maps.{Metas, without_entry}
use Rattle.running_store.specs.Running.{AreHeadPlaces}
use Rattle.running_store.specs.StoreView.{base_of}
use Rattle.running_store.proofs.Maps.{remove_given}

module _ (metas marked : map.FinMap nat_cmp Meta) (head : ℕ) where
  -- the device's metadata behind an erasure
  pub base_gone : base_of (map.remove metas head) (map.remove marked head) ≡ without_entry (base_of metas marked) head
  base_gone = fun_ext (λ q.
      ap (λ (f : Metas). option_or (f q) (map.get (map.remove metas head) q)) (remove_given marked head)
      ∙ ap (λ (f : Metas). option_or (without_entry (map.get marked) head q) (f q)) (remove_given metas head)
      ∙ by (q == head) (map.get marked q) (map.get metas q))
    where
      by : (b : Bool) (x y : Option Meta)
          → option_or (if b then None else x) (if b then None else y) ≡ (if b then None else option_or x y)
      by true x y = refl
      by false x y = refl

-- its head is none any more
pub heads_gone : (md_len : ℕ) (m : Metas) (head : ℕ) (heads : List Bool) → head < md_len → AreHeadPlaces md_len m heads
    → AreHeadPlaces md_len (without_entry m head) (slice_set heads head false)
heads_gone md_len m head heads low are = record {
  count = length-set heads head false ∙ are.count;
  are = λ k lt. elim (cases_eq k head) [
    | inl e ↦
        let clear : is_in (slice_set heads head false) k ≡ false =
        ap (is_in (slice_set heads head false)) e
        ∙ get_or-set_same heads head false false (omega (arith, low, are.count)) in
        let none : without_entry m head k ≡ None = rw (eq-eqb k head e) refl in (
          λ set. absurd (let bad = sym clear ∙ set in cc bad),
          λ some. absurd (let bad = subst (λ (o : Option Meta). IsSome o) none some in cc bad),
        )
    | inr ne ↦
        let at : without_entry m head k ≡ m k = rw (ne_eqb k head ne) refl in
        let same : is_in (slice_set heads head false) k ≡ is_in heads k =
        get_or-set_other heads head k false false ne in (
          λ set. subst IsSome (sym at) ((are.are k lt).0 (sym same ∙ set)),
          λ some. same ∙ (are.are k lt).1 (subst IsSome at some),
        )
  ];
}
