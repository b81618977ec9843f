-- Plain facts of results and lists.
use Rattle.std.proofs.Common.{◌≡◌, ℕ, zero, suc, ◌<◌, true, false, List, [], ◌∷◌, length, get_or}
use Rattle.std.proofs.Common.{Result, Ok, Err, Some, refl, arith}
use Rattle.std.specs.Prelude.{OnOk, OnErr, slice_get, replicate}
use Rattle.std.specs.Result.{is_err}
use Rattle.volume_model.specs.Volumes.{zero_page}

pub on_err : {T E : Type 0} (x : Result T E) (F : Type 0) → is_err x ≡ true → OnErr x F → F
on_err (Ok v) F is f = absurd (cc is)
on_err (Err e) F is f = f

pub on_ok : {T E : Type 0} (x : Result T E) (F : Type 0) → is_err x ≡ false → OnOk x F → F
on_ok (Ok v) F is f = f
on_ok (Err e) F is f = absurd (cc is)

pub zeros : replicate 4096 0 ≡ zero_page
unfolding zero_page
zeros = refl

pub got : {A : Type 0} (l : List A) (k : ℕ) (d : A) → k < length l → slice_get l k ≡ Some (get_or l k d)
got [] k d lt = absurd (omega (arith, lt))
got (x ∷ xs) zero d lt = refl
got (x ∷ xs) (suc k) d lt = got xs k d (omega (arith, lt))
