-- The turn refuses_claim.
use Rattle.std.specs.Prelude.{◌≡◌, ◌⊎◌, ℕ, None, Some}
use Rattle.bit_array.specs.Bits.{IsFull}
use Rattle.volume_model.specs.declared.command.Command.TheVariants as c
use Rattle.volume_model.specs.declared.reply.Reply.{Reply}
use Rattle.volume_model.specs.declared.reply.Reply.TheVariants as r
use Rattle.store_model.specs.Claiming.{IsWriting, MeansSlot, refused_by}
use Rattle.store_model.specs.Rows.{Claiming}
use Rattle.store_model.specs.Turning.{IsCauseReply, IsNotFrozen}
use Rattle.store_model.specs.StoreState.{logged_here, StoreState}
use Rattle.store_model.specs.Touches.{TurnKind, untouched}

-- By then the write is refused, or no cluster is clear, while the blob isn't frozen and the slot isn't filled.
pub record RefusesClaim (p q : StoreState) : Type 0 where
  pub write : IsWriting p Claiming None
  pub runs : p.stopped ≡ None
  pub free : IsNotFrozen p write.volume
  pub unfilled : (cluster : ℕ) → MeansSlot p write (Some cluster) → ⊥
  pub reply : Reply
  pub why : (IsCauseReply reply × (refused_by p write ≡ Some reply))
      ⊎ ((reply ≡ r.Full) × (refused_by p write ≡ None) × IsFull p.clusters)
  pub next : q ≡ logged_here p write.channel (c.Write write.volume write.page write.word) write.rest reply p.device

abbrev pub kind : TurnKind
kind = record { Case = λ told p q. RefusesClaim p q; touch = λ told p q t. untouched; OfJob = ⊥ }
