-- Rows of what `clap` found, each with a value.
use Rattle.std.proofs.Common.{◌≡◌, ◌<◌, Bool, true, false, if◌then◌else◌, List, [], ◌∷◌, ◌++◌, length, Option, Some}
use Rattle.std.proofs.Common.{None, is_some, refl, ap, subst, arith, length-append}
use Rattle.std.specs.Prelude.{find, option_and_then, slice_get, unwrap_or}
use Rattle.std.specs.Option.{option_map_or}
use Rattle.std.specs.Str.{bytes_eq}
use Rattle.clap.specs.Facts.{explicit_source}
use Rattle.clap.specs.Kinds.{Kinds, or_else}
use Rattle.clap.specs.Takes.{is_given}
use Rattle.clap.specs.Walk.{at_row, first_of, more_values, Row, Text, with_values, without}
use Rattle.clap.specs.declared.parser.matches.ValueSource.{ValueSource}
use Rattle.clap.specs.declared.builder.value_parser.Reading.{Reading}

-- two steps without error
pub both_none : (a b : Kinds) → or_else a b ≡ [] → (a ≡ []) × (b ≡ [])
both_none [] b none = (refl, none)
both_none (k ∷ ks) b none = cc none

-- what stands in two options that are the same is the same
pub some_same : {X : Type 0} {x y : X} → Some x ≡ Some y → x ≡ y
some_same {X} {x} {y} e = ap (λ (o : Option X). unwrap_or o x) e

-- ---- rows with values

-- each has a value
abbrev pub Full : List Row → Type 0
Full [] = Unit {0}
Full (r ∷ rows) = (0 < length r.values) × Full rows

full-append : (xs ys : List Row) → Full xs → Full ys → Full (xs ++ ys)
full-append [] ys first second = second
full-append (x ∷ xs) ys first second = (first.0, full-append xs ys first.1 second)

full-at_row : (id : Text) (change : Row → List Row) (missing : List Row)
    → ((r : Row) → 0 < length r.values → Full (change r)) → Full missing
    → (rows : List Row) → Full rows → Full (at_row id change missing rows)
full-at_row id change missing changed none [] full = none
full-at_row id change missing changed none (r ∷ rows) full =
    elim (bytes_eq r.id id) as (λ b. Full (if b then change r ++ rows else r ∷ at_row id change missing rows)) [
      | true ↦ full-append (change r) rows (changed r full.0) full.1
      | false ↦ (full.0, full-at_row id change missing changed none rows full.1)
    ]

pub full-with_values : (id : Text) (how : Reading) (source : ValueSource) (v : Text) (vs : List Text) (rows : List Row)
    → Full rows → Full (with_values id how source (v ∷ vs) rows)
full-with_values id how source v vs rows full =
    full-at_row id (more_values source (v ∷ vs))
    (record { id = id; values = v ∷ vs; count = None; source = Some source; reading = how } ∷ [])
    (λ r has. let more : 0 < length (r.values ++ v ∷ vs) = omega (arith, length-append r.values (v ∷ vs)) in (more, tt))
    (let one : 0 < length (v ∷ vs) = omega arith in (one, tt)) rows full

pub full-without : (id : Text) (rows : List Row) → Full rows → Full (without id rows)
full-without id rows full = full-at_row id (λ _. []) [] (λ r has. tt) tt rows full

full-find : (test : Row → Bool) (rows : List Row) (r : Row) → Full rows → find test rows ≡ Some r → 0 < length r.values
full-find test [] r full is = cc is
full-find test (x ∷ rows) r full is =
    (elim (test x) as (λ b. (if b then Some x else find test rows) ≡ Some r → 0 < length r.values) [
      | true ↦ λ e. subst (λ (y : Row). 0 < length y.values) (some_same e) full.0
      | false ↦ λ e. full-find test rows r full.1 e
    ]) is

first_value : (values : List Text) → 0 < length values → is_some (slice_get values 0) ≡ true
first_value [] has = absurd (omega arith)
first_value (v ∷ vs) has = refl

has_first : (found : Option Row) → ((r : Row) → found ≡ Some r → 0 < length r.values)
    → option_map_or (λ r. explicit_source r.source) found false ≡ true
    → is_some (option_and_then (λ r. slice_get r.values 0) found) ≡ true
has_first None full given = cc given
has_first (Some r) full given = first_value r.values (full r refl)

-- an argument that was used has a first value
pub given-first : (id : Text) (rows : List Row) → Full rows → is_given id rows ≡ true
    → is_some (first_of id rows) ≡ true
given-first id rows full given =
    has_first (find (λ r. bytes_eq r.id id) rows) (λ r is. full-find (λ x. bytes_eq x.id id) rows r full is) given
