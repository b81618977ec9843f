-- An error that a call passes on.
use Rattle.std.proofs.Common.{◌≡◌, IfErr, Result, sym, subst}
use Rattle.std.specs.Result.{IsErrAnd}
use Rattle.std.proofs.lemmas.Result.{err_from_is_err_and}

-- what holds of the error that is given holds of the one that is passed on
pub passed_on : {T E : Type 0} (x : Result T E) {e : E} → IsErrAnd x (λ y. y ≡ e) → (P : E → Type 0) → P e → IfErr x P
passed_on {T = T} {E = E} x is P holds =
    let y = err_from_is_err_and x is in
    subst (λ (r : Result T E). IfErr r P) (sym y.1) (subst P (sym y.2) holds)
