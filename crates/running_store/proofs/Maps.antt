-- A finite map with one entry given or gone, as a function.
use Rattle.std.proofs.Common.{◌≡◌, ℕ, Bool, cond, eqb, List, None, Option, Some, refl, sym, ap, subst, ◌∙◌, arith}
use Rattle.std.proofs.Common.{inl, inr}
use Rattle.std.specs.Prelude.{◌<◌, IsSome, if◌then◌else◌, slice_set, true, false}
use Rattle.std.proofs.lemmas.List.{get_or-set_other, get_or-set_same, length-set}
use Rattle.bit_array.specs.Bits.{is_in}
use Rattle.std.specs.Ordering.{nat_cmp, eq_by_cmp}
use Rattle.std.specs.Cmp.{nat_cmp_total}
use Rattle.std.specs.FinMap.{FinMap, get, insert, get-insert, remove, get-remove}
use Rattle.std.proofs.Math.Path.{fun_ext}
use Rattle.std.proofs.lemmas.Bool.Decides.{nat_tests}
use Rattle.std.proofs.lemmas.Bool.{cases_eq}
use Rattle.blob_meta.specs.declared.meta.Meta.{Meta}
use Rattle.store_model.specs.Maps.{with_entry, with_option, without_entry, Metas}
use Rattle.store_model.proofs.WithEntry.{given_here, given_elsewhere}
use Rattle.running_store.specs.Places.{changed_at}
use Rattle.running_store.specs.Running.{AreHeadPlaces}

-- keys are the same by their order exactly where they are equal
pub is_key : (q k : ℕ) → eq_by_cmp nat_cmp q k ≡ eqb q k
is_key q k = grind (arith, nat_tests)

pub insert_given : {X : Type 0} (m : FinMap nat_cmp X) (head : ℕ) (x : X)
    → get (insert m head x) ≡ with_entry (get m) head x
insert_given m head x =
    fun_ext (λ q. get-insert nat_cmp_total m head x q ∙ ap (λ b. cond b (Some x) (get m q)) (is_key q head))

-- one entry is gone
pub remove_given : {X : Type 0} (m : FinMap nat_cmp X) (head : ℕ) → get (remove m head) ≡ without_entry (get m) head
remove_given m head =
    fun_ext (λ q. get-remove nat_cmp_total m head q ∙ ap (λ b. cond b None (get m q)) (is_key q head))

-- or one entry is another or gone
pub changed_given : {X : Type 0} (m : FinMap nat_cmp X) (head : ℕ) (o : Option X)
    → get (changed_at m head o) ≡ with_option (get m) head o
changed_given m head None = remove_given m head
changed_given m head (Some x) = insert_given m head x

-- the heads stay the same where a blob that is there has other metadata
heads_stay : (md_len : ℕ) (m : Metas) (head : ℕ) (new : Meta) (heads : List Bool) → IsSome (m head)
    → AreHeadPlaces md_len m heads → AreHeadPlaces md_len (with_entry m head new) heads
heads_stay md_len m head new heads there are = record {
  count = are.count;
  are = λ k lt. elim (cases_eq k head) [
    | inl e ↦ (
      λ set. subst IsSome (sym (given_here m head new k e)) refl,
      λ some. (are.are k lt).1 (subst (λ (h : ℕ). IsSome (m h)) (sym e) there),
    )
    | inr ne ↦
        let at : with_entry m head new k ≡ m k = given_elsewhere m head new k ne in
        (λ set. subst IsSome (sym at) ((are.are k lt).0 set), λ some. (are.are k lt).1 (subst IsSome at some))
  ];
}

-- of a new blob the head is set
heads_made : (md_len : ℕ) (m : Metas) (head : ℕ) (new : Meta) (heads : List Bool) → head < md_len
    → AreHeadPlaces md_len m heads → AreHeadPlaces md_len (with_entry m head new) (slice_set heads head true)
heads_made md_len m head new heads low are = record {
  count = length-set heads head true ∙ are.count;
  are = λ k lt. elim (cases_eq k head) [
    | inl e ↦
        let set : is_in (slice_set heads head true) k ≡ true =
        ap (is_in (slice_set heads head true)) e ∙ get_or-set_same heads head true false (omega
        (arith, low, are.count)) in
        (λ _. subst IsSome (sym (given_here m head new k e)) refl, λ _. set)
    | inr ne ↦
        let at : with_entry m head new k ≡ m k = given_elsewhere m head new k ne in
        let same : is_in (slice_set heads head true) k ≡ is_in heads k =
        get_or-set_other heads head k true false ne in (
          λ set. subst IsSome (sym at) ((are.are k lt).0 (sym same ∙ set)),
          λ some. same ∙ (are.are k lt).1 (subst IsSome at some),
        )
  ];
}

-- the heads once the blob is as it was planned, new or not
pub heads_adopted : (makes : Bool) (md_len : ℕ) (m : Metas) (head : ℕ) (new : Meta) (heads : List Bool)
    → (makes ≡ false → IsSome (m head)) → head < md_len → AreHeadPlaces md_len m heads
    → AreHeadPlaces md_len (with_entry m head new) (if makes then slice_set heads head true else heads)
heads_adopted true md_len m head new heads there low are = heads_made md_len m head new heads low are
heads_adopted false md_len m head new heads there low are = heads_stay md_len m head new heads (there refl) are
