-- The turns of a channel, and those of the fill's row, leave the running job as it is.
use Rattle.std.proofs.Common.{◌≡◌, ◌≢◌, ◌⊎◌, ℕ, inl, inr, Option, None, Some, ap, refl, subst, sym}
use Rattle.std.specs.Prelude.{IsSome}
use Rattle.page_disk.specs.declared.disk.PageDisk.{Ghosts}
use Rattle.volume_model.specs.declared.reply.Msg.{Msg}
use Rattle.store_model.specs.Cases.{Kind}
use Rattle.store_model.specs.Cases as kind
use Rattle.channel_turns.specs.declared.claiming.ClaimTurn.{ClaimTurn}
use Rattle.channel_turns.specs.declared.claiming.ClaimTurn.TheVariants as claim
use Rattle.channel_turns.specs.declared.page_writing.WriteTurn.{WriteTurn}
use Rattle.channel_turns.specs.declared.page_writing.WriteTurn.TheVariants as write
use Rattle.channel_turns.specs.declared.copying.CopyTurn.{CopyTurn}
use Rattle.channel_turns.specs.declared.copying.CopyTurn.TheVariants as copy
use Rattle.channel_turns.specs.declared.sending.SendTurn.{SendTurn}
use Rattle.channel_turns.specs.declared.sending.SendTurn.TheVariants as send
use Rattle.channel_turns.specs.declared.settling.SettleTurn.{SettleTurn}
use Rattle.channel_turns.specs.declared.settling.SettleTurn.TheVariants as settle
use Rattle.channel_turns.specs.ChannelTurns.{IsOfFlush, IsOfRead, IsOfWrite}
use Rattle.running_store.specs.TurnMade.{TurnMade, TurnsAs}
use Rattle.channel_turns.specs.ClaimTurns.{IsOfClaim, IsOfCopy, IsOfSend}
use Rattle.channel_turns.specs.FillTurns.{ClaimsFillOrNot}
use Rattle.running_store.specs.StoreView.{state_of, StoreView}
use Rattle.turn_columns.specs.Columns.{leaves}
use Rattle.turn_columns.specs.KindColumns.{job_column}
use Rattle.turn_columns.proofs.JobLeft.{job_stays}

-- the turns of a channel, and of the fill's row
abbrev pub LeavesJob : Kind → Type 0
LeavesJob k = job_column k ≡ leaves

of_flush : (k : Kind) → IsOfFlush k → LeavesJob k
of_flush kind.halts is = refl
of_flush kind.flushes is = refl
of_flush kind.flush_fails is = refl
of_flush _ is = absurd is

of_read : (k : Kind) → IsOfRead k → LeavesJob k
of_read kind.halts is = refl
of_read kind.reads is = refl
of_read _ is = absurd is

of_write : (k : Kind) → IsOfWrite k → LeavesJob k
of_write kind.halts is = refl
of_write kind.refuses_write is = refl
of_write kind.writes_page is = refl
of_write kind.fails_to_write is = refl
of_write _ is = absurd is

of_claim : (k : Kind) → IsOfClaim k → LeavesJob k
of_claim kind.halts is = refl
of_claim kind.refuses_claim is = refl
of_claim _ is = absurd is

of_copy : (k : Kind) → IsOfCopy k → LeavesJob k
of_copy kind.halts is = refl
of_copy kind.halts_fill is = refl
of_copy kind.copy_not_read is = refl
of_copy kind.copy_fails is = refl
of_copy _ is = absurd is

of_send : (k : Kind) → IsOfSend k → LeavesJob k
of_send kind.halts is = refl
of_send kind.halts_fill is = refl
of_send kind.copy_fails is = refl
of_send _ is = absurd is

module _ {D : Type 0} (d : Ghosts D) (p q : StoreView D) where
  stays : (which : Kind → Type 0) → ((k : Kind) → which k → LeavesJob k) → TurnsAs d which p q → q.job ≡ p.job
  stays which of x = job_stays d.tells (state_of d p) (state_of d q) x.kind (of x.kind x.is) x.made.0

  pub over_flush : TurnsAs d IsOfFlush p q → q.job ≡ p.job
  over_flush x = stays IsOfFlush of_flush x

  pub over_read : (q ≡ p) ⊎ TurnsAs d IsOfRead p q → q.job ≡ p.job
  over_read (inl same) = ap (λ (a : StoreView D). a.job) same
  over_read (inr x) = stays IsOfRead of_read x

  -- one of its turns, or nothing is done
  pub over_channel : (q ≡ p) ⊎ TurnsAs d LeavesJob p q → q.job ≡ p.job
  over_channel (inl same) = ap (λ (a : StoreView D). a.job) same
  over_channel (inr x) = stays LeavesJob (λ k is. is) x

  wider : (which : Kind → Type 0) → ((k : Kind) → which k → LeavesJob k) → TurnsAs d which p q
      → TurnsAs d LeavesJob p q
  wider which of x = record { kind = x.kind; is = of x.kind x.is; made = x.made }

  pub by_write : (turn : WriteTurn) → (turn ≡ write.Frozen → q ≡ p)
      → (turn ≡ write.Empty → TurnMade d p q kind.finds_empty) → (turn ≡ write.Logged → TurnsAs d IsOfWrite p q)
      → (q ≡ p) ⊎ TurnsAs d LeavesJob p q
  by_write write.Frozen same empty logged = inl (same refl)
  by_write write.Empty same empty logged = inr (record { kind = kind.finds_empty; is = refl; made = empty refl })
  by_write write.Logged same empty logged = inr (wider IsOfWrite of_write (logged refl))

  pub by_claim : (turn : ClaimTurn) → (turn ≡ claim.Frozen → q ≡ p)
      → (turn ≡ claim.Filled → TurnMade d p q kind.finds_filled)
      → (turn ≡ claim.Claimed → TurnMade d p q kind.claims) → (turn ≡ claim.Logged → TurnsAs d IsOfClaim p q)
      → (q ≡ p) ⊎ TurnsAs d LeavesJob p q
  by_claim claim.Frozen same filled claimed logged = inl (same refl)
  by_claim claim.Filled same filled claimed logged =
      inr (record { kind = kind.finds_filled; is = refl; made = filled refl })
  by_claim claim.Claimed same filled claimed logged =
      inr (record { kind = kind.claims; is = refl; made = claimed refl })
  by_claim claim.Logged same filled claimed logged = inr (wider IsOfClaim of_claim (logged refl))

  pub by_copy : (turn : CopyTurn) → (turn ≡ copy.Lost → TurnMade d p q kind.loses_copy)
      → ((left : ℕ) → turn ≡ copy.Copied left → TurnMade d p q kind.copies)
      → (turn ≡ copy.Logged → TurnsAs d IsOfCopy p q) → (q ≡ p) ⊎ TurnsAs d LeavesJob p q
  by_copy copy.Lost lost copied logged = inr (record { kind = kind.loses_copy; is = refl; made = lost refl })
  by_copy (copy.Copied left) lost copied logged =
      inr (record { kind = kind.copies; is = refl; made = copied left refl })
  by_copy copy.Logged lost copied logged = inr (wider IsOfCopy of_copy (logged refl))

  pub by_send : (turn : SendTurn) → ((msg : Msg) → turn ≡ send.Post msg → TurnMade d p q kind.sends)
      → (turn ≡ send.Logged → TurnsAs d IsOfSend p q) → (q ≡ p) ⊎ TurnsAs d LeavesJob p q
  by_send (send.Post msg) sent logged = inr (record { kind = kind.sends; is = refl; made = sent msg refl })
  by_send send.Logged sent logged = inr (wider IsOfSend of_send (logged refl))

  -- a claim on the fill's row, by whether the store is stopped
  pub by_fill : (turn : ClaimTurn) → (p.stopped ≡ None → ClaimsFillOrNot d p q turn)
      → (IsSome p.stopped → (turn ≡ claim.Logged) × TurnMade d p q kind.halts_fill)
      → (q ≡ p) ⊎ TurnsAs d LeavesJob p q
  by_fill turn runs stops = by p.stopped refl
    where
      made : (t : ClaimTurn) → ClaimsFillOrNot d p q t → (q ≡ p) ⊎ TurnsAs d LeavesJob p q
      made claim.Claimed x = inr (record { kind = kind.claims_fill; is = refl; made = x })
      made claim.Logged x = inr (record { kind = kind.lacks_for_fill; is = refl; made = x })
      made _ x = absurd x

      by : (o : Option ℕ) → p.stopped ≡ o → (q ≡ p) ⊎ TurnsAs d LeavesJob p q
      by None is = made turn (runs is)
      by (Some at) is = inr (record {
        kind = kind.halts_fill;
        is = refl;
        made = (stops (subst IsSome (sym is) refl)).1;
      })

  pub by_settle : (turn : SettleTurn) → (turn ≡ settle.Waiting → q ≡ p)
      → (turn ≢ settle.Waiting → TurnMade d p q kind.settles) → (q ≡ p) ⊎ TurnsAs d LeavesJob p q
  by_settle settle.Waiting same settles = inl (same refl)
  by_settle settle.Won same settles =
      inr (record { kind = kind.settles; is = refl; made = settles (λ e. cc e) })
  by_settle settle.Lost same settles =
      inr (record { kind = kind.settles; is = refl; made = settles (λ e. cc e) })
  by_settle settle.Logged same settles =
      inr (record { kind = kind.settles; is = refl; made = settles (λ e. cc e) })
