use Rattle.std.proofs.Common.{◌≡◌, ◌-◌, ℕ, List, ◌∷◌, length, take, drop, Some, Result, Ok, Err, IfOk, IsSome, sym, ap}
use Rattle.std.proofs.Common.{◌∙◌, subst}
use Rattle.std.specs.Option.{option_copied}
use Rattle.std.specs.FinMap as map
use Rattle.job_begins.proofs.ChainFound.{is_some, rest_behind}
use Rattle.job_begins.proofs.preparing.places_behind.Goals as goal

so : {T E : Type 0} (P Q : T → Type 0) (r : Result T E) → ((x : T) → P x → Q x) → IfOk r P → IfOk r Q
so P Q (Ok x) by is = by x is
so P Q (Err e) by is = tt

pub slice_bounds-places_from-count : goal.slice_bounds-places_from-count
slice_bounds-places_from-count c =
    rw c.as_slice.ensures (is_some (map.get c.args.chains.now c.args.head) c.args.head c.in-Some.chain.now
    (sym c.get.ensures ∙ ap option_copied c.in-Some.is) c.requires)

pub returns-in-Some-clause-there : goal.returns-in-Some-clause-there
returns-in-Some-clause-there c =
    so (λ list. list ≡ take (length c.as_slice.result.now - 1) (drop 1 c.as_slice.result.now))
    (λ behind. IsSome (map.get c.args.chains.now c.args.head)
    → map.get c.args.chains.now c.args.head ≡ Some (c.args.head ∷ behind)) c.places_from.result
    (λ list is some. rest_behind (map.get c.args.chains.now c.args.head) c.args.head c.in-Some.chain.now
    (sym c.get.ensures ∙ ap option_copied c.in-Some.is) c.requires list
    (is ∙ ap (λ (l : List ℕ). take (length l - 1) (drop 1 l)) c.as_slice.ensures)) c.places_from.ensures

pub returns-in-None-clause-there : goal.returns-in-None-clause-there
returns-in-None-clause-there c = λ some.
    let none = sym c.get.ensures ∙ ap option_copied c.in-None.is in
    absurd (let bad = subst IsSome none some in cc bad)
