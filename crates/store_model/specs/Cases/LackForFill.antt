-- The turn lacks_for_fill.
use Rattle.std.specs.Prelude.{◌≡◌}
use Rattle.bit_array.specs.Bits.{IsFull}
use Rattle.volume_model.specs.declared.reply.Reply.TheVariants as r
use Rattle.store_model.specs.Filling.{HasToFill}
use Rattle.store_model.specs.StoreState.{logged, StoreState}
use Rattle.store_model.specs.Touches.{TurnKind, untouched}

-- No cluster is clear for the slot that is to be filled next: the command is logged as that.
pub record LacksForFill (p q : StoreState) : Type 0 where
  pub fill : HasToFill p
  pub full : IsFull p.clusters
  pub next : q ≡ logged p fill.posted.channel fill.posted.command fill.posted.rest r.Full p.device

abbrev pub kind : TurnKind
kind = record { Case = λ told p q. LacksForFill p q; touch = λ told p q t. untouched; OfJob = ⊥ }
