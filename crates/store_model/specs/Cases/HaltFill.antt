-- The turn halts_fill.
use Rattle.std.specs.Prelude.{◌≡◌, ◌⊎◌, ℕ, None, Some}
use Rattle.volume_model.specs.declared.reply.Reply.TheVariants as r
use Rattle.store_model.specs.Claiming.{given_back}
use Rattle.store_model.specs.Filling.{AsksForFill, unused_row}
use Rattle.store_model.specs.Rows.{fill_row}
use Rattle.store_model.specs.StoreState.{logged, StoreState}
use Rattle.store_model.specs.Turning.{IsPosted}
use Rattle.store_model.specs.Cases.Halt.{MayLog, stage_after}
use Rattle.store_model.specs.Touches.{TurnKind, untouched}

-- On a stopped store an inflate or a decouple is logged as that, where its next slot would be claimed, or by a turn of
-- the fill's row that works for it: the row gives its claim back, if it has one, and works for no command any more.
pub record HaltsFill (p q : StoreState) : Type 0 where
  pub posted : IsPosted p
  pub asks : AsksForFill posted.command
  pub works : (p.rows fill_row ≡ unused_row) ⊎ (p.filling ≡ Some posted.channel)
  pub may : MayLog (p.rows fill_row).stage
  pub at : ℕ
  pub stands : p.stopped ≡ Some at
  pub next : q ≡ logged (record (given_back p fill_row (stage_after (p.rows fill_row).stage)) { filling = None })
      posted.channel posted.command posted.rest (r.Stopped at) p.device

abbrev pub kind : TurnKind
kind = record { Case = λ told p q. HaltsFill p q; touch = λ told p q t. untouched; OfJob = ⊥ }
