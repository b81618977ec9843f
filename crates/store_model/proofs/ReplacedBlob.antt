-- The chains, the pages in use and the generations behind a replacement, whether it gives a blob new metadata or erases
-- it.
use Rattle.std.proofs.Common.{◌≡◌, ◌⊎◌, ◌+◌, ◌++◌, ◌<◌, ◌≤◌, ℕ, Bool, List, [], ◌∷◌, length, Option, None, Some}
use Rattle.std.proofs.Common.{true, false, refl, sym, ap, ◌∙◌, inl, inr, arith}
use Rattle.std.specs.Prelude.{if◌then◌else◌, is_some, IsSome, slice_set}
use Rattle.std.specs.List.{AllByRecursion}
use Rattle.std.specs.Option.{option_map, option_map_or}
use Rattle.std.proofs.lemmas.Bool.{cases_Bool, cases_eq, false≢true}
use Rattle.super_block.specs.declared.page.Super.{Super}
use Rattle.blob_meta.specs.declared.meta.Meta.{Meta}
use Rattle.md_chain.specs.Chain.{is_among}
use Rattle.store_model.specs.Guarding.{all_renewed, AreGenerations}
use Rattle.store_model.specs.Jobs.{IsErasure}
use Rattle.store_model.specs.Maps.{Chains, Map, Metas, with_option, without_entry}
use Rattle.store_model.specs.Phases.{chain_before, rechained, replaced, Replacing, taken_by}
use Rattle.store_model.specs.Places.{AreDistinct, UsedPages}
use Rattle.store_model.specs.RunInvariant.{HaveChains}
use Rattle.store_model.specs.WithReplaced.{generations_with, made_by, pages_with}
use Rattle.store_model.proofs.CopiesCommitted.{renewed}
use Rattle.store_model.proofs.Erased.{chains_erased, erased_low, generations_erased, used_erased}
use Rattle.store_model.proofs.Guarding.{generations_more, generations_renewed}
use Rattle.store_model.proofs.LeftToDo.{chain_there, distinct_left}
use Rattle.store_model.proofs.Sets.{AllBelow, among_first}
use Rattle.store_model.proofs.UsedCommitted.{chains_committed, used_committed}
use Rattle.store_model.proofs.WithEntry.{given_here, option_elsewhere, option_here}

-- a blob that isn't made is there
pub there_before : (s : Super) (base : Metas) (chains : Chains) → HaveChains s base chains → (r : Replacing)
    → chains r.head ≡ chain_before r → r.makes ≡ false → is_some (base r.head) ≡ true
there_before s base chains have r stood not = by (base r.head) refl
  where
    by : (o : Option Meta) → base r.head ≡ o → is_some o ≡ true
    by None none = absurd (let bad = sym (have.none r.head none) ∙ stood ∙ chain_there r not in cc bad)
    by (Some m) is = refl

module _ (s : Super) (base : Metas) (chains : Chains) (have : HaveChains s base chains) (bits : List Bool)
    (r : Replacing) (later : List ℕ) (stood : chains r.head ≡ chain_before r) (unerased : r.makes ≡ true → r.old ≡ [])
    (gone : r.new ≡ None → IsErasure r) (used : UsedPages s.md_len bits chains (taken_by r ++ later)) where
  -- the head is one of the region, if that of new metadata is
  pub low_replaced : ((m : Meta) → r.new ≡ Some m → r.head < s.md_len) → r.head < s.md_len
  low_replaced new_low = by r.new refl
    where
      by : (o : Option Meta) → r.new ≡ o → r.head < s.md_len
      by None none = erased_low s base chains have bits r later stood (gone none) used
      by (Some new) is = new_low new is

  module _ (differ : AreDistinct (taken_by r ++ later)) where
    pub chains_replaced : AllBelow s.md_len (r.head ∷ r.fresh) → HaveChains s (replaced base r) (rechained chains r)
    chains_replaced low = by r.new refl
      where
        by : (o : Option Meta) → r.new ≡ o → HaveChains s (with_option base r.head o)
            (with_option chains r.head (option_map (λ m. r.head ∷ r.fresh) o))
        by None none = chains_erased s base chains have bits r later stood (gone none) used
        by (Some new) is = chains_committed s base chains have bits r later stood unerased used new
            (distinct_left (taken_by r) later differ) low

    pub pages_replaced : UsedPages s.md_len (pages_with bits r) (rechained chains r) (r.old ++ later)
    pages_replaced = by r.new refl
      where
        by : (o : Option Meta) → r.new ≡ o → UsedPages s.md_len
            (option_map_or (λ new. bits) o (slice_set bits r.head false))
            (with_option chains r.head (option_map (λ m. r.head ∷ r.fresh) o)) (r.old ++ later)
        by None none = used_erased s base chains have bits r later stood (gone none) used
        by (Some new) is = used_committed s base chains have bits r later stood unerased used differ

-- ---- generations

-- with blobs renewed that are there: that of the replacement among them, where it is new
pub generations_replaced : (base : Metas) (generations : Map ℕ) (drawn : ℕ) (r : Replacing) (heads : List ℕ)
    → (r.makes ≡ false → is_some (base r.head) ≡ true) → (r.makes ≡ true → is_among r.head heads ≡ true)
    → AllByRecursion (λ h. IsSome (replaced base r h)) heads → AreGenerations base generations drawn
    → AreGenerations (replaced base r) (generations_with generations drawn r heads) (drawn + length heads)
generations_replaced base generations drawn r heads there_if numbers there g = by r.new there
  where
    -- a blob that was there has a number, and one that is made gets it
    has_number : (is_some (base r.head) ≡ true) ⊎ (is_among r.head heads ≡ true)
    has_number = elim (cases_Bool r.makes) [ inl makes ↦ inr (numbers makes) | inr not ↦ inl (there_if not) ]

    by : (o : Option Meta) → AllByRecursion (λ h. IsSome (with_option base r.head o h)) heads
        → AreGenerations (with_option base r.head o)
        (all_renewed (option_map_or (λ new. generations) o (without_entry generations r.head)) drawn heads)
        (drawn + length heads)
    by None there = generations_more (with_option base r.head None) (without_entry generations r.head) drawn heads there
        (generations_erased base r.head generations drawn drawn (omega arith) g)
    by (Some new) there = generations_renewed base r.head new generations drawn heads g has_number there

-- the blob that a replacement makes is one that is there then
pub made_there : (base : Metas) (r : Replacing) → (r.new ≡ None → r.makes ≡ false)
    → AllByRecursion (λ h. IsSome (replaced base r h)) (made_by r)
made_there base r gone = by r.new refl r.makes refl
  where
    by : (o : Option Meta) → r.new ≡ o → (makes : Bool) → r.makes ≡ makes
        → AllByRecursion (λ h. IsSome (with_option base r.head o h)) (if makes then r.head ∷ [] else [])
    by o is false not = tt
    by None none true makes = absurd (false≢true (sym (gone none) ∙ makes))
    by (Some new) is true makes = (ap is_some (given_here base r.head new r.head refl), tt)

-- and gets a number
pub made_numbered : (r : Replacing) → r.makes ≡ true → is_among r.head (made_by r) ≡ true
made_numbered r makes = ap (λ b. is_among r.head (if b then r.head ∷ [] else [])) makes ∙ among_first r.head []

-- a generation that a replacement leaves was the blob's before
pub generation_kept : (generations : Map ℕ) (r : Replacing) (head number : ℕ)
    → option_map_or (λ new. generations) r.new (without_entry generations r.head) head ≡ Some number
    → generations head ≡ Some number
generation_kept generations r head number = by r.new
  where
    by : (o : Option Meta)
        → option_map_or (λ new. generations) o (without_entry generations r.head) head ≡ Some number
        → generations head ≡ Some number
    by None is = elim (cases_eq head r.head) [
      | inl e ↦ absurd (let bad = sym (option_here generations r.head None head e) ∙ is in cc bad)
      | inr ne ↦ sym (option_elsewhere generations r.head None head ne) ∙ is
    ]
    by (Some new) is = is

-- what is a generation then, and was drawn before, was it before
pub generation_before : (generations : Map ℕ) (drawn : ℕ) (r : Replacing) (heads : List ℕ) (head number : ℕ)
    → number ≤ drawn → generations_with generations drawn r heads head ≡ Some number → generations head ≡ Some number
generation_before generations drawn r heads head number low is =
    elim (renewed (option_map_or (λ new. generations) r.new (without_entry generations r.head)) drawn heads head number
    is) [
      | inl more ↦ absurd (omega (arith, low, more))
      | inr x ↦ generation_kept generations r head number x.1
    ]
