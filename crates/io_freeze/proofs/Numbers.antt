-- The numbers that lists of calls draw.
use Rattle.std.proofs.Common.{◌≡◌, ℕ, suc, ◌+◌, ◌<◌, Bool, cond, List, [], ◌∷◌, Option, Some, None, ◌⊎◌, sym, ap, ◌∙◌}
use Rattle.std.proofs.Common.{arith, inl, inr}
use Rattle.std.specs.Prelude.{All, AllPairs, Contains}
use Rattle.std.specs.FinMap as map
use Rattle.std.specs.Cmp.{nat_cmp_total}
use Rattle.std.proofs.lemmas.Bool.{cases_eq}
use Rattle.std.proofs.lemmas.List.Elements.{All-cons, All-nil, All-weaker}
use Rattle.std.proofs.lemmas.List.Kept.{AllPairs-cons}
use Rattle.io_freeze.specs.Calls.{GuardsCall, guards_after_all, all_drawn_by}
use Rattle.io_freeze.specs.Calls.GuardsCall.{Add, Remove, Freeze, Release, Renew}
use Rattle.io_freeze.specs.Guards.{GuardsState, frozen_at, released, guard_removed, renewed}
use Rattle.io_freeze.proofs.Found.{tied, tied-same, tied-apart}

-- one number more
more_above : (g : GuardsState) (numbers : List ℕ) → All (λ n. g.drawn + 1 < n) numbers
    → All (λ n. g.drawn < n) ((g.drawn + 1) ∷ numbers)
more_above g numbers rest =
    All-cons (λ n. g.drawn < n) (g.drawn + 1) numbers (omega arith)
    (All-weaker (λ n. g.drawn + 1 < n) (λ n. g.drawn < n) (λ n lt. omega arith) numbers rest)

-- each number that is drawn is above all that were drawn before
pub drawn-above : (g : GuardsState) (calls : List GuardsCall) → All (λ number. g.drawn < number) (all_drawn_by g calls)
drawn-above g [] = All-nil (λ n. g.drawn < n)
drawn-above g (Add head ∷ calls) =
    more_above g (all_drawn_by (renewed g head) calls) (drawn-above (renewed g head) calls)
drawn-above g (Remove head ∷ calls) = drawn-above (guard_removed g head) calls
drawn-above g (Freeze head ∷ calls) = drawn-above (frozen_at g head) calls
drawn-above g (Release head ∷ calls) = drawn-above (released g head) calls
drawn-above g (Renew head ∷ calls) =
    more_above g (all_drawn_by (renewed g head) calls) (drawn-above (renewed g head) calls)

-- the numbers that are drawn rise
pub drawn-rises : (g : GuardsState) (calls : List GuardsCall)
    → AllPairs (λ earlier later. earlier < later) (all_drawn_by g calls)
drawn-rises g [] = λ i j d lt within. absurd (omega arith)
drawn-rises g (Add head ∷ calls) =
    AllPairs-cons (λ a b. a < b) (g.drawn + 1) (all_drawn_by (renewed g head) calls)
    (drawn-above (renewed g head) calls) (drawn-rises (renewed g head) calls)
drawn-rises g (Remove head ∷ calls) = drawn-rises (guard_removed g head) calls
drawn-rises g (Freeze head ∷ calls) = drawn-rises (frozen_at g head) calls
drawn-rises g (Release head ∷ calls) = drawn-rises (released g head) calls
drawn-rises g (Renew head ∷ calls) =
    AllPairs-cons (λ a b. a < b) (g.drawn + 1) (all_drawn_by (renewed g head) calls)
    (drawn-above (renewed g head) calls) (drawn-rises (renewed g head) calls)

-- a head has this generation at first, or it is among the numbers
abbrev HadOrDrawn : GuardsState → List ℕ → ℕ → ℕ → Type 0
HadOrDrawn g numbers head number = (map.get g.generations head ≡ Some number) ⊎ Contains numbers number

after_a_draw : (g : GuardsState) (at head number : ℕ) (numbers : List ℕ) → HadOrDrawn (renewed g at) numbers head number
    → HadOrDrawn g ((g.drawn + 1) ∷ numbers) head number
after_a_draw g at head number numbers (inr found) = inr (suc found.0, omega (arith, found.1), found.2)
after_a_draw g at head number numbers (inl has) =
    let put : map.get (map.insert g.generations at (g.drawn + 1)) head ≡ cond (tied head at) (Some (g.drawn + 1))
    (map.get g.generations head) =
    map.get-insert nat_cmp_total g.generations at (g.drawn + 1) head in
    elim (cases_eq head at) [
      | inl same ↦
          let is : Some (g.drawn + 1) ≡ Some number =
          sym (put ∙ ap (λ (b : Bool). cond b (Some (g.drawn + 1)) (map.get g.generations head))
          (tied-same head at same)) ∙ has in
          inr (0, omega arith, cc)
      | inr apart ↦
          inl (sym (put
          ∙ ap (λ (b : Bool). cond b (Some (g.drawn + 1)) (map.get g.generations head)) (tied-apart head at apart))
          ∙ has)
    ]

after_a_remove : (g : GuardsState) (at head number : ℕ) (numbers : List ℕ)
    → HadOrDrawn (guard_removed g at) numbers head number → HadOrDrawn g numbers head number
after_a_remove g at head number numbers (inr found) = inr found
after_a_remove g at head number numbers (inl has) =
    let put : map.get (map.remove g.generations at) head ≡ cond (tied head at) None (map.get g.generations head) =
    map.get-remove nat_cmp_total g.generations at head in
    elim (cases_eq head at) [
      | inl same ↦
          let is : ◌≡◌ {A = Option ℕ} None (Some number) =
          sym (put ∙ ap (λ (b : Bool). cond b None (map.get g.generations head)) (tied-same head at same)) ∙ has in
          absurd (cc)
      | inr apart ↦
          inl (sym (put ∙ ap (λ (b : Bool). cond b None (map.get g.generations head)) (tied-apart head at apart)) ∙ has)
    ]

-- a generation was there before the calls, or they drew it
pub had_or_drawn : (g : GuardsState) (calls : List GuardsCall) (head number : ℕ)
    → map.get (guards_after_all g calls).generations head ≡ Some number
    → HadOrDrawn g (all_drawn_by g calls) head number
had_or_drawn g [] head number has = inl has
had_or_drawn g (Add at ∷ calls) head number has =
    after_a_draw g at head number _ (had_or_drawn (renewed g at) calls head number has)
had_or_drawn g (Remove at ∷ calls) head number has =
    after_a_remove g at head number _ (had_or_drawn (guard_removed g at) calls head number has)
had_or_drawn g (Freeze at ∷ calls) head number has = had_or_drawn (frozen_at g at) calls head number has
had_or_drawn g (Release at ∷ calls) head number has = had_or_drawn (released g at) calls head number has
had_or_drawn g (Renew at ∷ calls) head number has =
    after_a_draw g at head number _ (had_or_drawn (renewed g at) calls head number has)
