-- What a map has at each head after one edit, and after each step of a loop of edits.
use Rattle.std.proofs.Common.{◌≡◌, ℕ, ◌+◌, ◌<◌, ◌==◌, ◌&&◌, ◌||◌, Bool, true, false, Option, Some, None, List, []}
use Rattle.std.proofs.Common.{length}
use Rattle.std.proofs.Common.{refl, sym, ap, ◌∙◌, get_or, take, inl, inr, arith}
use Rattle.std.specs.Prelude.{is_some, if◌then◌else◌}
use Rattle.std.specs.Ordering.{nat_cmp}
use Rattle.std.specs.FinMap as map
use Rattle.std.proofs.lemmas.Bool.{cases_Bool, eqb-true}
use Rattle.std.proofs.lemmas.Bool.Decides.{nat_tests}
use Rattle.std.proofs.lemmas.List.Folds.{list_any_more}
use Rattle.blob_meta.specs.declared.meta.Meta.{Meta}
use Rattle.blob_meta.specs.declared.job.Replacement.{Replacement}
use Rattle.blob_meta.specs.Repairs.{with_replacement}
use Rattle.blob_meta.proofs.HeadsListed.{among}

abbrev Metas : Type 0
Metas = map.FinMap nat_cmp Meta

get_inserted : (m : Metas) (head : ℕ) (value : Meta) (h : ℕ)
    → map.get (map.insert m head value) h ≡ (if h == head then Some value else map.get m h)
get_inserted m head value h = grind (arith, nat_tests, map.gets)

get_removed : (m : Metas) (head h : ℕ) → map.get (map.remove m head) h ≡ (if h == head then None else map.get m h)
get_removed m head h = grind (arith, nat_tests, map.gets)

-- a blob is replaced,
pub replaced_by : (old new : Metas) (x : Replacement) (value : Meta) → new ≡ map.insert old x.head value
    → x.new ≡ Some value → (h : ℕ) → map.get new h ≡ with_replacement (map.get old) x h
replaced_by old new x value is what h =
    ap (λ m. map.get m h) is ∙ get_inserted old x.head value h
    ∙ ap (λ (o : Option Meta). if h == x.head then o else map.get old h) (sym what)

-- or erased
pub replaced_by_none : (old new : Metas) (x : Replacement) → new ≡ map.remove old x.head → x.new ≡ None → (h : ℕ)
    → map.get new h ≡ with_replacement (map.get old) x h
replaced_by_none old new x is what h =
    ap (λ m. map.get m h) is ∙ get_removed old x.head h
    ∙ ap (λ (o : Option Meta). if h == x.head then o else map.get old h) (sym what)

-- a head is taken out of one map,
pub left_behind : (old new : Metas) (head : ℕ) → new ≡ map.remove old head → (h : ℕ)
    → map.get new h ≡ (if h == head then None else map.get old h)
left_behind old new head is h = ap (λ m. map.get m h) is ∙ get_removed old head h

-- and what it had put into another
pub moved_in : (from old new : Metas) (head : ℕ) (value : Meta) → map.get from head ≡ Some value
    → new ≡ map.insert old head value → (h : ℕ)
    → map.get new h ≡ (if (h == head) && is_some (map.get from h) then map.get from h else map.get old h)
moved_in from old new head value there is h =
    ap (λ m. map.get m h) is ∙ get_inserted old head value h ∙ elim (cases_Bool (h == head)) [
      | inl same ↦
          let here : map.get from h ≡ Some value = ap (map.get from) (eqb-true h head same) ∙ there in
          rw (same, here) refl
      | inr differs ↦ rw differs refl
    ]

-- ---- a loop that takes heads out

abbrev Both : Bool → Option Meta → Option Meta → Option Meta → Type 0
Both out first left taken = (left ≡ (if out then None else first)) × (taken ≡ (if out then first else None))

one_out : (out same : Bool) (first left taken : Option Meta) → Both out first left taken
    → Both (out || same) first (if same then None else left) (if same && is_some left then left else taken)
one_out true true first left taken (l, t) = rw l (refl, t)
one_out true false first left taken (l, t) = (l, t)
one_out false true None left taken (l, t) = rw l (refl, t)
one_out false true (Some m) left taken (l, t) = rw l (refl, refl)
one_out false false first left taken (l, t) = (l, t)

-- one head more is taken out
pub out_more : (heads : List ℕ) (i h : ℕ) → i < length heads → (first left taken left' taken' : Option Meta)
    → Both (among h (take i heads)) first left taken → left' ≡ (if h == get_or heads i 0 then None else left)
    → taken' ≡ (if (h == get_or heads i 0) && is_some left then left else taken)
    → Both (among h (take (i + 1) heads)) first left' taken'
out_more heads i h within first left taken left' taken' before left_is taken_is =
    let more : among h (take (i + 1) heads) ≡ (among h (take i heads) || (h == get_or heads i 0)) =
    list_any_more (λ y. h == y) heads i 0 within in
    let both = one_out (among h (take i heads)) (h == get_or heads i 0) first left taken before in (
      left_is ∙ both.0 ∙ ap (λ (b : Bool). if b then None else first) (sym more),
      taken_is ∙ both.1 ∙ ap (λ (b : Bool). if b then first else None) (sym more),
    )

-- none is at first
pub none_out : (metas taken : Metas) → taken ≡ map.empty → (h : ℕ)
    → Both (among h []) (map.get metas h) (map.get metas h) (map.get taken h)
none_out metas taken is h = (refl, ap (λ m. map.get m h) is ∙ grind (arith, nat_tests, map.gets))
