-- What is told of a channel's first command: what it is read as, that it is logged, and that its blob is frozen.
use Rattle.std.proofs.Common.{◌≡◌, ℕ, List, ◌∷◌, sym, subst, ◌∙◌}
use Rattle.page_disk.specs.declared.disk.PageDisk.{Ghosts}
use Rattle.volume_model.specs.declared.command.Command.{Command}
use Rattle.volume_model.specs.declared.reply.Reply.{Reply}
use Rattle.store_model.specs.Rows.{Row, Stage}
use Rattle.channel_turns.specs.ChannelTurns.{IsFrozenFor}
use Rattle.running_store.specs.Steps.{Asks, logged_then}
use Rattle.running_store.specs.StoreView.{rows_of, state_of, StoreView}

-- in these rows the first command of a channel is this
abbrev pub IsFirstIn : List Row → ℕ → Command → Type 0
IsFirstIn rows channel first = (command : Command) (rest : List Command)
    → (rows_of rows channel).left ≡ command ∷ rest → first ≡ command

-- the first command of a channel is logged with this reply, and the channel goes to this stage
abbrev pub IsLogged : Stage → {D : Type 0} → Ghosts D → StoreView D → ℕ → Reply → StoreView D → Type 0
IsLogged next d p channel reply q = (command : Command) (rest : List Command)
    → (rows_of p.rows channel).left ≡ command ∷ rest
    → q ≡ logged_then next p channel command rest reply (d.clock q.disk)

-- what is told of the command that a channel begins with is told of its first command
pub frozen_first : {D : Type 0} (d : Ghosts D) (p : StoreView D) (channel : ℕ) (command : Command)
    (rest : List Command) → (rows_of p.rows channel).left ≡ command ∷ rest → IsFrozenFor (state_of d p) command
    → Asks p channel (IsFrozenFor (state_of d p))
frozen_first d p channel command rest left frozen other more is =
    let both = sym left ∙ is in
    let one : command ≡ other = cc both in
    subst (IsFrozenFor (state_of d p)) one frozen
