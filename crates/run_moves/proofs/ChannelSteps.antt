-- What a channel of a driven store does is a move of the run.
use Rattle.std.proofs.Common.{◌≡◌, ◌≢◌, ℕ, ◌<◌, ◌∙◌, Bool, List, sym, subst, arith}
use Rattle.super_block.specs.Numbers.{cluster_pages_of}
use Rattle.super_block.specs.declared.page.Super.{Super}
use Rattle.volume_model.specs.Volumes.{Volumes}
use Rattle.volume_model.specs.declared.command.Command.{Command}
use Rattle.store_model.specs.RunInvariant.{RunInvariant}
use Rattle.store_model.specs.Rows.{fill_row}
use Rattle.store_model.specs.StoreState.{StoreState}
use Rattle.run_work.specs.ChannelMoves.{ChannelMove}
use Rattle.run_moves.specs.ChannelTurns.{IsChannelMove, IsRowMove, with_unsent}
use Rattle.run_moves.specs.DrivenStore.{DrivenStore, run_of}
use Rattle.run_moves.specs.DriverSteps.{by_posting, by_sending, by_turn, ChannelActsOn, ChannelTurn, PostingTurn}
use Rattle.run_moves.specs.DriverSteps as turn
use Rattle.run_moves.specs.Projection.{RunMessages}
use Rattle.run_moves.specs.Sizes.{sizes_of}
use Rattle.run_moves.proofs.ChannelLogs.{logging_turns}
use Rattle.run_moves.proofs.ChannelWrites.{message_moves, row_moves, waiting_turns, writing_turns}

module _ (s : Super) (first : Volumes) (script : ℕ → List Command) (told : Bool) (p : StoreState)
    (has : RunInvariant s first script p) (some : 0 < cluster_pages_of s) (q : StoreState) (d : RunMessages) where
  -- the move of the channel that a turn names
  at : (channel k : ℕ) → k ≡ channel → IsChannelMove p d k q d → IsChannelMove p d channel q d
  at channel k is move = subst (λ n. IsChannelMove p d n q d) is move

  at_row : (channel k : ℕ) → k ≡ channel → IsRowMove p d k q d → IsChannelMove p d channel q d
  at_row channel k is move = at channel k is (row_moves p q d d k move)

  -- whose row isn't the fill's
  apart : (channel : ℕ) → channel < 16 → (k : ℕ) → k ≡ channel → k ≢ fill_row
  apart channel low k is fills = let same = sym is ∙ fills in omega (arith, low, same)

  -- a turn of a channel
  pub turn_moves : (channel : ℕ) → channel < 16 → ChannelTurn told p q channel → IsChannelMove p d channel q d
  turn_moves channel low (turn.reads t is) = at channel _ is ((logging_turns p q d).reads t)
  turn_moves channel low (turn.refuses_write t is) = at channel _ is ((logging_turns p q d).refuses_write t)
  turn_moves channel low (turn.writes_page t is) = at channel _ is ((logging_turns p q d).writes_page told t)
  turn_moves channel low (turn.fails_to_write t is) = at channel _ is ((logging_turns p q d).fails_to_write t)
  turn_moves channel low (turn.finds_empty t is) = at channel _ is ((writing_turns p q d).finds_empty t)
  turn_moves channel low (turn.finds_filled t is) = at channel _ is
      ((writing_turns p q d).finds_filled (has.well t.runs).generations t)
  turn_moves channel low (turn.claims t is) = at_row channel _ is
      ((writing_turns p q d).claims (subst (λ x. 0 < cluster_pages_of x) (sym has.super) some) t)
  turn_moves channel low (turn.refuses_claim t is) = at channel _ is ((logging_turns p q d).refuses_claim t)
  turn_moves channel low (turn.copies t is) = at_row channel _ is ((writing_turns p q d).copies told t)
  turn_moves channel low (turn.loses_copy t is) = at_row channel _ is ((writing_turns p q d).loses_copy t)
  turn_moves channel low (turn.copy_not_read t is) = at channel _ is
      ((logging_turns p q d).copy_not_read t (apart channel low _ is))
  turn_moves channel low (turn.copy_fails t is) = at channel _ is
      ((logging_turns p q d).copy_fails t (apart channel low _ is))
  turn_moves channel low (turn.flushes t is) = at channel _ is ((logging_turns p q d).flush t)
  turn_moves channel low (turn.flush_fails t is) = at channel _ is ((logging_turns p q d).flush_fails t)
  turn_moves channel low (turn.settles t is) = at_row channel _ is ((waiting_turns p q d).settles t)
  turn_moves channel low (turn.ends t is) = at channel _ is ((waiting_turns p q d).ends t)
  turn_moves channel low (turn.halts t is logs) = at channel _ is ((logging_turns p q d).halts t logs)

  posted_at : (channel k : ℕ) → k ≡ channel → IsRowMove p d k q (with_unsent d k p.serial)
      → IsChannelMove p d channel q (with_unsent d channel p.serial)
  posted_at channel k is move = row_moves p q d (with_unsent d channel p.serial) channel
      (subst (λ n. IsRowMove p d n q (with_unsent d n p.serial)) is move)

  -- its posting
  pub posting_moves : (channel : ℕ) → PostingTurn told p q channel
      → IsChannelMove p d channel q (with_unsent d channel p.serial)
  posting_moves channel (turn.posts t is) = posted_at channel _ is ((waiting_turns p q d).posts t)
  posting_moves channel (turn.sends t is) = posted_at channel _ is ((writing_turns p q d).sends t)

module _ (s : Super) (first : Volumes) (script : ℕ → List Command) (told : Bool) (w v : DrivenStore)
    (has : RunInvariant s first script w.store) (some : 0 < cluster_pages_of s) where
  channel_acts : (channel : ℕ) → channel < 16 → ChannelActsOn told w channel v
      → ChannelMove (sizes_of w.store.super) (run_of w) channel (run_of v)
  channel_acts channel low (by_turn t same) =
      subst (λ d. IsChannelMove w.store w.messages channel v.store d) (sym same)
      (turn_moves s first script told w.store has some v.store w.messages channel low t)
  channel_acts channel low (by_posting t same) =
      subst (λ d. IsChannelMove w.store w.messages channel v.store d) (sym same)
      (posting_moves s first script told w.store has some v.store w.messages channel t)
  channel_acts channel low (by_sending serial waits room next) =
      subst (λ x. ChannelMove (sizes_of w.store.super) (run_of w) channel (run_of x)) (sym next)
      (message_moves w.store w.messages channel serial waits room)

  -- what a channel does
  pub channel_moves : (channel : ℕ) → channel < 16 → ChannelActsOn told w channel v
      → ChannelMove (sizes_of s) (run_of w) channel (run_of v)
  channel_moves channel low acts = subst (λ x. ChannelMove (sizes_of x) (run_of w) channel (run_of v)) has.super
      (channel_acts channel low acts)
