-- What a message asks for, by the row that its channel has.
use Rattle.std.proofs.Common.{◌≡◌, ℕ, List, [], ◌∷◌, Some, None, refl, ap}
use Rattle.std.specs.Prelude.{slice_get}
use Rattle.volume_model.specs.declared.command.Command.{Command}
use Rattle.store_model.specs.Rows.{Stage, Claiming, Copying, Idle, Posted, InJob, Decided, Ended, Ready}
use Rattle.running_store.specs.Requests.{posted_in}

-- posted under the number that is told
pub posted_so : (stage : Stage) (serial : ℕ) → posted_in stage ≡ Some serial → stage ≡ Posted serial
posted_so (Posted n) serial is = ap Posted (cc is)
posted_so Idle serial is = absurd (cc is)
posted_so Claiming serial is = absurd (cc is)
posted_so (Copying count) serial is = absurd (cc is)
posted_so Ready serial is = absurd (cc is)
posted_so InJob serial is = absurd (cc is)
posted_so (Decided outcome) serial is = absurd (cc is)
posted_so Ended serial is = absurd (cc is)

pub first_got : (left : List Command) (command : Command) → slice_get left 0 ≡ Some command
    → (rest : List Command) × (left ≡ command ∷ rest)
first_got [] command is = absurd (cc is)
first_got (x ∷ rest) command is = let e : x ≡ command = cc is in (rest, ap (λ (c : Command). c ∷ rest) e)

pub none_got : (left : List Command) → slice_get left 0 ≡ None → left ≡ []
none_got [] is = refl
none_got (x ∷ rest) is = absurd (cc is)
