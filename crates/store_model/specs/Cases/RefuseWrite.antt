-- The turn refuses a write.
use Rattle.std.specs.Prelude.{◌≡◌, ℕ, List, ◌∷◌, None, Some}
use Rattle.volume_model.specs.Refusals.{refusal}
use Rattle.volume_model.specs.declared.command.Command.{Command}
use Rattle.volume_model.specs.declared.command.Command.TheVariants as c
use Rattle.volume_model.specs.declared.command.VolumeRef.{VolumeRef}
use Rattle.volume_model.specs.declared.command.PageWord.{PageWord}
use Rattle.volume_model.specs.declared.reply.Reply.{Reply}
use Rattle.store_model.specs.Rows.{Idle}
use Rattle.store_model.specs.Shown.{fixed_of}
use Rattle.store_model.specs.StoreState.{logged_here, StoreState, shown}
use Rattle.store_model.specs.Turning.{IsCauseReply, IsNotFrozen}
use Rattle.store_model.specs.Touches.{TurnKind, untouched}

-- A channel's write of a page is refused, by the first cause that holds, where the blob isn't frozen. No device call; a
-- job may run.
pub record RefusesWrite (p q : StoreState) : Type 0 where
  pub channel : ℕ
  pub volume : VolumeRef
  pub page : ℕ
  pub word : PageWord
  pub rest : List Command
  pub row : p.rows channel ≡ record { left = c.Write volume page word ∷ rest; stage = Idle; claim = None }
  pub runs : p.stopped ≡ None
  pub free : IsNotFrozen p volume
  pub reply : Reply
  pub caused : IsCauseReply reply
  pub cause : refusal (fixed_of p.super) (shown p) (c.Write volume page word) ≡ Some reply
  pub next : q ≡ logged_here p channel (c.Write volume page word) rest reply p.device

abbrev pub kind : TurnKind
kind = record { Case = λ told p q. RefusesWrite p q; touch = λ told p q t. untouched; OfJob = ⊥ }
