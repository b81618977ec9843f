-- What holds a channel up, by what its row waits for.
use Rattle.std.proofs.Common.{◌≡◌, ◌≢◌, ℕ, sym, ◌∙◌, ap, subst}
use Rattle.page_disk.specs.declared.disk.PageDisk.{Ghosts}
use Rattle.volume_model.specs.declared.reply.Msg.{Msg}
use Rattle.store_model.specs.Rows.{Answered, Claiming, Decided, Decision, Lost, Row, Won}
use Rattle.channel_turns.specs.ChannelTurns.{IsFrozenFor}
use Rattle.channel_turns.specs.ClaimTurns.{told_as}
use Rattle.channel_turns.specs.declared.settling.SettleTurn.{SettleTurn}
use Rattle.channel_turns.specs.declared.settling.SettleTurn.TheVariants as settle
use Rattle.data_path.specs.declared.reading.Stage.{Stage}
use Rattle.data_path.specs.declared.reading.Stage.TheVariants.{Send}
use Rattle.running_store.specs.Stages.{is_stage}
use Rattle.running_store.specs.Steps.{Asks}
use Rattle.store_core.specs.StoreInvariant.{StoreInvariant}
use Rattle.running_store.specs.StoreView.{rows_of, state_of, StoreView, WithOpening}
use Rattle.running_store.specs.declared.rows.RowStage.{RowStage}
use Rattle.running_store.specs.declared.rows.RowStage.TheVariants as waits
use Rattle.super_block.specs.Numbers.{cluster_pages_of}
use Rattle.store_core.proofs.Staged.{HasWrite, IsStagedAt, staged}
use Rattle.channels.specs.ChannelSteps.{by_end, by_frozen, by_job, by_posting, IsHeldUp}
use Rattle.channels.proofs.Stages.{at_page, IsAtPage, IsHeldByFreeze, stage_of}

module _ {D : Type 0} (d : Ghosts D) (p : WithOpening D) (kept : StoreInvariant d p) (channel : ℕ) where
  abbrev row : Row
  row = rows_of p.at.rows channel

  writes : row.stage ≡ Claiming → HasWrite row.left
  writes is = subst (IsStagedAt (cluster_pages_of p.at.super) row.left row.claim) is (staged d p kept channel)

  -- the blob of its page is frozen
  pub frozen_there : (w : RowStage) → is_stage row channel ≡ w → IsHeldByFreeze w
      → Asks p.at channel (IsFrozenFor (state_of d p.at)) → IsHeldUp (state_of d p.at) channel
  frozen_there w is may frozen =
      let x : IsAtPage row.left row.stage = at_page row channel w writes is may in
      by_frozen (record {
        command = x.command;
        rest = x.rest;
        left = x.is;
        page = x.page;
        frozen = frozen x.command x.rest x.is;
      }) x.stage_is

-- its request is at the metadata thread, or it has ended
abbrev pub IsOut : RowStage → Type 0
IsOut (waits.Posted msg) = Unit {0}
IsOut waits.InJob = Unit {0}
IsOut waits.Ended = Unit {0}
IsOut _ = ⊥

module _ {D : Type 0} (d : Ghosts D) (p : StoreView D) (channel : ℕ) where
  pub out_there : (w : RowStage) → is_stage (rows_of p.rows channel) channel ≡ w → IsOut w
      → IsHeldUp (state_of d p) channel
  out_there (waits.Posted msg) is out =
      by_posting msg.serial (stage_of (rows_of p.rows channel) channel (waits.Posted msg) is)
  out_there waits.InJob is out = by_job (stage_of (rows_of p.rows channel) channel waits.InJob is)
  out_there waits.Ended is out = by_end (stage_of (rows_of p.rows channel) channel waits.Ended is)
  out_there _ is out = absurd out

-- a row of which something is decided has the word of it
told_never : (outcome : Decision) → told_as outcome ≡ settle.Waiting → ⊥
told_never Answered bad = cc bad
told_never Won bad = cc bad
told_never Lost bad = cc bad

pub settled : (row : Row) (channel : ℕ) (turn : SettleTurn) → is_stage row channel ≡ waits.Decided
    → ((outcome : Decision) → row.stage ≡ Decided outcome → turn ≡ told_as outcome) → turn ≢ settle.Waiting
settled row channel turn is told bad =
    let x = stage_of row channel waits.Decided is in told_never x.0 (sym (told x.0 x.1) ∙ bad)

-- the message that a turn hands on
pub posts_as : (own msg : Msg) → Send own ≡ Send msg → {other : Msg} → own ≡ other → msg ≡ other
posts_as own msg is same = sym (ap (message own) is) ∙ same
  where
    message : Msg → Stage → Msg
    message none (Send x) = x
    message none _ = none
