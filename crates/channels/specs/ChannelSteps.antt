-- What a channel's turn does, and what keeps a channel from making one.
use Rattle.std.specs.Prelude.{◌≡◌, ◌⊎◌, ℕ, Option, Some, None, Bool, List, ◌∷◌}
use Rattle.page_disk.specs.declared.disk.PageDisk.{Ghosts}
use Rattle.volume_model.specs.declared.command.Command.{Command}
use Rattle.volume_model.specs.declared.command.Command.TheVariants as c
use Rattle.volume_model.specs.declared.reply.Msg.{Msg}
use Rattle.store_model.specs.Rows.{Claiming, Ended, Idle, InJob, Posted}
use Rattle.store_model.specs.StoreState.{StoreState}
use Rattle.channel_turns.specs.ChannelTurns.{IsFrozenFor}
use Rattle.running_store.specs.StoreView.{state_of, StoreView, WithOpening}
use Rattle.md_queue.specs.Queue.{Appends, HasNoRoom}
use Rattle.channels.specs.ChannelState.{ChannelState}
use Rattle.run_moves.specs.DriverSteps.{ChannelTurn, PostingTurn}

-- A turn that posts the row of a channel, by this message.
pub record PostsRow {D : Type 0} (d : Ghosts D) (p q : StoreView D) (channel : ℕ) (msg : Msg) : Type 0 where
  pub turn : PostingTurn d.tells (state_of d p) (state_of d q) channel
  pub message : msg ≡ record { channel = channel; serial = p.serial }

-- One turn of a channel's own, behind which it has this still to send: nothing, or the message of what it has posted.
pub data TurnsOrPosts (told : Bool) (p q : StoreState) (channel : ℕ) (unsent : Option ℕ) : Type 0 where
  turned : ChannelTurn told p q channel → unsent ≡ None → TurnsOrPosts told p q channel unsent
  posted : PostingTurn told p q channel → unsent ≡ Some p.serial → TurnsOrPosts told p q channel unsent

-- ---- no turn

-- a read or a write of a page
abbrev pub IsOfPage : Command → Type 0
IsOfPage (c.Read volume page) = Unit {0}
IsOfPage (c.Write volume page word) = Unit {0}
IsOfPage _ = ⊥

-- The first command of a channel is a read or a write of a page of a blob that is frozen.
pub record MeetsFrozen (p : StoreState) (channel : ℕ) : Type 0 where
  pub command : Command
  pub rest : List Command
  pub left : (p.rows channel).left ≡ command ∷ rest
  pub page : IsOfPage command
  pub frozen : IsFrozenFor p command

-- Why a channel can make no turn: its blob is frozen where it would be read or written, or a cluster claimed for it;
-- its request is posted; the running job serves it; or it has ended.
pub data IsHeldUp (p : StoreState) (channel : ℕ) : Type 0 where
  by_frozen : MeetsFrozen p channel → ((p.rows channel).stage ≡ Idle) ⊎ ((p.rows channel).stage ≡ Claiming)
      → IsHeldUp p channel
  by_posting : (serial : ℕ) → (p.rows channel).stage ≡ Posted serial → IsHeldUp p channel
  by_job : (p.rows channel).stage ≡ InJob → IsHeldUp p channel
  by_end : (p.rows channel).stage ≡ Ended → IsHeldUp p channel

-- ---- a step

-- What a channel does in a step of a driver: a turn, or none where it is held up or has ended; or it sends its message,
-- or keeps it where the queue is full.
pub data MadeStep {D : Type 0} (d : Ghosts D) (p q : WithOpening D) (c e : ChannelState)
    (queue later : List Msg) : Type 0 where
  made_turn : c.unsent ≡ None
      → TurnsOrPosts d.tells (state_of d p.at) (state_of d q.at) c.channel e.unsent → later ≡ queue
      → MadeStep d p q c e queue later
  was_held : c.unsent ≡ None → e.unsent ≡ None → IsHeldUp (state_of d p.at) c.channel → q ≡ p → later ≡ queue
      → MadeStep d p q c e queue later
  was_sent : (serial : ℕ) → c.unsent ≡ Some serial → e.unsent ≡ None
      → Appends queue (record { channel = c.channel; serial = serial }) later → q ≡ p → MadeStep d p q c e queue later
  was_kept : (serial : ℕ) → c.unsent ≡ Some serial → e.unsent ≡ c.unsent → HasNoRoom queue → q ≡ p → later ≡ queue
      → MadeStep d p q c e queue later
