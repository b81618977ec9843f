-- Values that are taken from the front, one by one.
use Rattle.std.proofs.Common.{◌≡◌, ◌-◌, ◌<◌, ◌≤◌, List, [], ◌∷◌, ◌++◌, length, Option, Some, None, refl, ap, ◌∙◌, arith}
use Rattle.std.specs.Prelude.{IsSome, ◌↔◌}
use Rattle.std.specs.Option.{option_to_list}
use Rattle.std.proofs.lemmas.Bool.{false≢true}
use Rattle.script_lang.specs.declared.form.Value.{Value}
use Rattle.script_lang.specs.Forms.{onto, listed}

no_more : (xs : List Value) → length xs ≡ 0 → xs ≡ []
no_more [] e = refl
no_more (x ∷ xs) e = absurd (omega (arith, e))

-- what one step took and left
pub record IsTaken (whole rest : List Value) (first : Option Value) : Type 0 where
  pub items : whole ≡ option_to_list first ++ rest
  pub variant : IsSome first ↔ (0 < length whole)

empty : (whole : List Value) → (0 < length whole → ⊥) → whole ≡ []
empty [] none = refl
empty (x ∷ xs) none = absurd (none (omega arith))

onto_is : (whole rest : List Value) (first : Option Value) → IsTaken whole rest first → whole ≡ onto first rest
onto_is whole rest None t = empty whole (λ some. false≢true (t.variant.1 some))
onto_is whole rest (Some value) t = t.items

fewer : (whole rest : List Value) (first : Option Value) → IsTaken whole rest first → length rest ≡ length whole - 1
fewer whole rest None t =
    let none : length whole ≡ 0 = ap length (empty whole (λ some. false≢true (t.variant.1 some))) in
    omega (arith, ap length t.items, none)
fewer whole rest (Some value) t = omega (arith, ap length t.items)

-- four at most are all that there are
pub all_taken : (whole one two three left : List Value) (first second third fourth : Option Value)
    → IsTaken whole one first → IsTaken one two second → IsTaken two three third → IsTaken three left fourth
    → length whole ≤ 4 → whole ≡ listed first second third fourth
all_taken whole one two three left first second third fourth a b c d few =
    let none : left ≡ [] = no_more left
    (omega (
      arith,
      fewer whole one first a,
      fewer one two second b,
      fewer two three third c,
      fewer three left
          fourth d,
    )) in
    onto_is whole one first a
    ∙ ap (onto first) (onto_is one two second b
    ∙ ap (onto second) (onto_is two three third c
    ∙ ap (onto third) (onto_is three left fourth d ∙ ap (onto fourth) none)))
