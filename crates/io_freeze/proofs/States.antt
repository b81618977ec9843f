-- The state that rows are seen as, after one head's row has changed.
use Rattle.std.proofs.Common.{◌≡◌, ℕ, Bool, true, false, cond, List, Option, Some, None, refl, sym, ap, ◌∙◌, inl, inr}
use Rattle.std.specs.Prelude.{◌&&◌, ◌||◌, not}
use Rattle.std.specs.Ordering.{nat_cmp}
use Rattle.std.specs.FinMap as map
use Rattle.std.specs.FinSet as set
use Rattle.std.specs.Cmp.{nat_cmp_total}
use Rattle.std.proofs.lemmas.Bool.{cases_eq}
use Rattle.io_freeze.specs.declared.rows.Row.{Row}
use Rattle.io_freeze.specs.Rows.{Rises, generations_in, frozen_in}
use Rattle.io_freeze.proofs.Found.{tied, tied-same, tied-apart, row_of, generation_of, is_marked, get-generations_in}
use Rattle.io_freeze.proofs.Found.{contains-frozen_in}
use Rattle.io_freeze.proofs.Edits.{Changes}

same_generations : (m n : map.FinMap nat_cmp ℕ) → ((q : ℕ) → map.get m q ≡ map.get n q) → m ≡ n
same_generations = map.same_map nat_cmp_total map.nat_cmp-IsAntisymmetric

same_frozen : (s t : set.FinSet nat_cmp) → ((q : ℕ) → set.contains s q ≡ set.contains t q) → s ≡ t
same_frozen = set.same_set nat_cmp_total set.nat_cmp-IsAntisymmetric

generation_of-cond : (b : Bool) (x y : Option Row)
    → generation_of (cond b x y) ≡ cond b (generation_of x) (generation_of y)
generation_of-cond true x y = refl
generation_of-cond false x y = refl

is_marked-cond : (b : Bool) (x y : Option Row) → is_marked (cond b x y) ≡ cond b (is_marked x) (is_marked y)
is_marked-cond true x y = refl
is_marked-cond false x y = refl

-- the rows of all heads stay but for one's: then so do the generations and the freezes
module _ (old new : List Row) (head : ℕ) (row : Option Row) (changes : Changes old new head row) where
  generation-new : (q : ℕ)
      → map.get (generations_in new) q ≡ cond (tied q head) (generation_of row) (map.get (generations_in old) q)
  generation-new q =
      get-generations_in new q ∙ ap generation_of (changes q) ∙ generation_of-cond (tied q head) row (row_of old q)
      ∙ ap (cond (tied q head) (generation_of row)) (sym (get-generations_in old q))

  -- a fact about the head's own value decides all
  pub generations_stay : generation_of row ≡ generation_of (row_of old head) → generations_in new ≡ generations_in old
  generations_stay same =
      same_generations _ _ (λ q.
      generation-new q
      ∙ elim (cases_eq q head) [
        | inl here ↦
            ap (λ (b : Bool). cond b (generation_of row) (map.get (generations_in old) q)) (tied-same q head here)
            ∙ same ∙ sym (get-generations_in old head) ∙ ap (map.get (generations_in old)) (sym here)
        | inr apart ↦
            ap (λ (b : Bool). cond b (generation_of row) (map.get (generations_in old) q)) (tied-apart q head apart)
      ])

  -- a row with a generation puts it into the map
  pub generations_put : (number : ℕ) → generation_of row ≡ Some number
      → generations_in new ≡ map.insert (generations_in old) head number
  generations_put number is =
      same_generations _ _ (λ q.
      generation-new q ∙ ap (λ (x : Option ℕ). cond (tied q head) x (map.get (generations_in old) q)) is
      ∙ sym (map.get-insert nat_cmp_total (generations_in old) head number q))

  -- a row that is gone takes its head out of the map
  pub generations_taken : generation_of row ≡ None → generations_in new ≡ map.remove (generations_in old) head
  generations_taken is =
      same_generations _ _ (λ q.
      generation-new q ∙ ap (λ (x : Option ℕ). cond (tied q head) x (map.get (generations_in old) q)) is
      ∙ sym (map.get-remove nat_cmp_total (generations_in old) head q))

  module _ (rises : Rises old) (still : Rises new) where
    frozen-new : (q : ℕ)
        → set.contains (frozen_in new) q ≡ cond (tied q head) (is_marked row) (set.contains (frozen_in old) q)
    frozen-new q =
        contains-frozen_in new q still ∙ ap is_marked (changes q) ∙ is_marked-cond (tied q head) row (row_of old q)
        ∙ ap (cond (tied q head) (is_marked row)) (sym (contains-frozen_in old q rises))

    -- a mark that stays leaves the frozen heads as they were
    pub frozen_stay : is_marked row ≡ is_marked (row_of old head) → frozen_in new ≡ frozen_in old
    frozen_stay same =
        same_frozen _ _ (λ q.
        frozen-new q
        ∙ elim (cases_eq q head) [
          | inl here ↦
              ap (λ (b : Bool). cond b (is_marked row) (set.contains (frozen_in old) q)) (tied-same q head here)
              ∙ same ∙ sym (contains-frozen_in old head rises) ∙ ap (set.contains (frozen_in old)) (sym here)
          | inr apart ↦
              ap (λ (b : Bool). cond b (is_marked row) (set.contains (frozen_in old) q)) (tied-apart q head apart)
        ])

    -- a mark puts its head among the frozen ones
    pub frozen_put : is_marked row ≡ true → frozen_in new ≡ set.insert (frozen_in old) head
    frozen_put on =
        same_frozen _ _ (λ q.
        frozen-new q
        ∙ ap (λ (x : Bool). cond (tied q head) x (set.contains (frozen_in old) q)) on
        ∙ elim (tied q head) as
        (λ b. cond b true (set.contains (frozen_in old) q) ≡
        (b || set.contains (frozen_in old) q)) [ true ↦ refl | false ↦ refl ]
        ∙ sym (set.contains-insert nat_cmp_total (frozen_in old) head q))

    -- no mark takes its head out of them
    pub frozen_taken : is_marked row ≡ false → frozen_in new ≡ set.remove (frozen_in old) head
    frozen_taken off =
        same_frozen _ _ (λ q.
        frozen-new q
        ∙ ap (λ (x : Bool). cond (tied q head) x (set.contains (frozen_in old) q)) off
        ∙ elim (tied q head) as
        (λ b. cond b false (set.contains (frozen_in old) q) ≡
        (not b && set.contains (frozen_in old) q)) [ true ↦ refl | false ↦ refl ]
        ∙ sym (set.contains-remove nat_cmp_total (frozen_in old) head q))

-- rows without the head
pub absent-Changes : (rows : List Row) (head : ℕ) → row_of rows head ≡ None → Changes rows rows head None
absent-Changes rows head none q =
    elim (cases_eq q head) [
      | inl here ↦
          ap (row_of rows) here ∙ none ∙ sym (ap (λ (b : Bool). cond b None (row_of rows q)) (tied-same q head here))
      | inr apart ↦ sym (ap (λ (b : Bool). cond b None (row_of rows q)) (tied-apart q head apart))
    ]
