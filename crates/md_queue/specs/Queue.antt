-- A queue as the list of the messages that it holds, the oldest first, and what its calls make of it.
use Rattle.std.specs.Prelude.{◌≡◌, ℕ, ◌<◌, List, [], ◌∷◌, ◌++◌, length}
use Rattle.volume_model.specs.declared.reply.Msg.{Msg}

-- how many messages a queue holds at most
abbrev pub capacity : ℕ
capacity = 8

-- there is room for no message more
abbrev pub HasNoRoom : List Msg → Type 0
HasNoRoom queue = length queue ≡ capacity

-- there is no message
abbrev pub IsEmpty : List Msg → Type 0
IsEmpty queue = queue ≡ []

-- a message is sent: there was room for it, it stands behind the others, and these stay
pub record Appends (before : List Msg) (msg : Msg) (after : List Msg) : Type 0 where
  pub room : length before < capacity
  pub behind : after ≡ before ++ msg ∷ []

-- the oldest message is given, and the others stay
abbrev pub GivesOldest : List Msg → Msg → List Msg → Type 0
GivesOldest before msg after = before ≡ msg ∷ after
