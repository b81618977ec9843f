-- A channel that makes a turn can move: its stage lets it, and its blob isn't frozen.
use Rattle.std.proofs.Common.{◌≡◌, ℕ, ◌<◌, Bool, true, false, List, [], ◌∷◌, Option, Some, None, refl, sym, ap, ◌∙◌}
use Rattle.std.proofs.Common.{subst, not}
use Rattle.std.specs.Prelude.{map}
use Rattle.std.proofs.lemmas.Bool.{lt-ltb}
use Rattle.volume_model.specs.declared.command.VolumeRef.{VolumeRef}
use Rattle.store_model.specs.Cases.CopyFail.{copy, flush, TriedCopy}
use Rattle.store_model.specs.Cases.Halt.{Halts}
use Rattle.store_model.specs.Claiming.{IsWriting, MeansSlot}
use Rattle.store_model.specs.Guarding.{IsGuarded}
use Rattle.store_model.specs.Rows.{OpenClaim, Row, Stage}
use Rattle.store_model.specs.StoreState.{StoreState}
use Rattle.store_model.specs.Turning.{IsNotFrozen}
use Rattle.run_work.specs.ChannelMoves.{logs_itself}
use Rattle.run_work.specs.Reading.{is_frozen_at, meets_frozen}
use Rattle.run_work.specs.RunState.{AtClaiming, AtCopying, AtDecided, AtEnded, AtIdle, AtInJob, AtPosted, AtReady}
use Rattle.run_work.specs.RunState.{CommandInRun, DeviceFlush, FoundHeads, MetadataCommand, PageRead, PageWrite}
use Rattle.run_work.specs.RunState.{RunState, StageInRun}
use Rattle.run_work.specs.Steps.{can_at, can_channel, can_send, is_free_at}
use Rattle.run_moves.specs.DriverSteps.{ChannelTurn, PostingTurn}
use Rattle.run_moves.specs.DriverSteps as turn
use Rattle.run_moves.specs.Projection.{command_in_run, run_state_of, RunMessages, stage_in_run}
use Rattle.run_moves.proofs.ChannelWrites.{asks}

-- at a stage at which a channel logs itself nothing holds it but a frozen blob
logs_can : (sends : Bool) (s : StageInRun) → logs_itself s ≡ true → can_at true sends s ≡ true
logs_can sends AtIdle logs = refl
logs_can sends AtClaiming logs = refl
logs_can sends (AtCopying left) logs = refl
logs_can sends AtReady logs = refl
logs_can sends (AtPosted serial) logs = absurd (cc logs)
logs_can sends AtInJob logs = absurd (cc logs)
logs_can sends AtDecided logs = refl
logs_can sends AtEnded logs = absurd (cc logs)

none_meets : (frozen : ℕ → Bool) (finds : FoundHeads) → ((h : ℕ) → frozen h ≡ false) → (l : List CommandInRun)
    → meets_frozen frozen finds l ≡ false
none_meets frozen finds none [] = refl
none_meets frozen finds none (PageRead volume ∷ l) = none_at (finds volume)
  where
    none_at : (o : Option ℕ) → is_frozen_at frozen o ≡ false
    none_at None = refl
    none_at (Some head) = none head
none_meets frozen finds none (PageWrite volume slot ∷ l) = none_at (finds volume)
  where
    none_at : (o : Option ℕ) → is_frozen_at frozen o ≡ false
    none_at None = refl
    none_at (Some head) = none head
none_meets frozen finds none (DeviceFlush ∷ l) = refl
none_meets frozen finds none (MetadataCommand ∷ l) = refl

-- what is tried of a copy is tried at a stage that waits for nothing
tried_can : (p : StoreState) (claim : OpenClaim) (stage : Stage) (free sends : Bool) → TriedCopy p claim stage
    → can_at free sends (stage_in_run stage) ≡ true
tried_can p claim stage free sends (copy left page content at current next) = rw at refl
tried_can p claim stage free sends (flush at) = rw at refl

module _ (p : StoreState) (d : RunMessages) where
  abbrev w : RunState
  w = run_state_of p d

  -- the blob that a reference means isn't frozen
  not_frozen : (volume : VolumeRef) → IsNotFrozen p volume → is_frozen_at p.frozen (w.finds volume) ≡ false
  not_frozen volume free = go (w.finds volume) free
    where
      go : (o : Option ℕ) → ((head : ℕ) → o ≡ Some head → p.frozen head ≡ false) → is_frozen_at p.frozen o ≡ false
      go None free = refl
      go (Some head) free = free head refl

  means_free : (stage : Stage) (claim : Option OpenClaim) (write : IsWriting p stage claim) (cluster : Option ℕ)
      → (means : MeansSlot p write cluster) → is_frozen_at p.frozen (w.finds write.volume) ≡ false
  means_free stage claim write cluster means = ap (is_frozen_at p.frozen) means.found ∙ means.free

  module _ (channel : ℕ) (low : channel < 16) where
    can_by : can_at (is_free_at w channel) (can_send w channel) (stage_in_run (p.rows channel).stage) ≡ true
        → can_channel w channel ≡ true
    can_by may = rw (lt-ltb channel 16 low) may

    -- at a stage at which its blob doesn't matter
    can_at_stage : (stage : Stage) → (p.rows channel).stage ≡ stage
        → ((free sends : Bool) → can_at free sends (stage_in_run stage) ≡ true) → can_channel w channel ≡ true
    can_at_stage stage is may = can_by (
        ap (λ x. can_at (is_free_at w channel) (can_send w channel) (stage_in_run x)) is
        ∙ may (is_free_at w channel) (can_send w channel))

    -- and at another where that isn't frozen
    can_free : (row : Row) → p.rows channel ≡ row
        → meets_frozen p.frozen w.finds (map (command_in_run p.super) row.left) ≡ false
        → ((sends : Bool) → can_at true sends (stage_in_run row.stage) ≡ true) → can_channel w channel ≡ true
    can_free row is free may = can_by (
        ap (λ (r : Row). can_at (not (meets_frozen p.frozen w.finds (map (command_in_run p.super) r.left)))
        (can_send w channel) (stage_in_run r.stage)) is
        ∙ ap (λ b. can_at (not b) (can_send w channel) (stage_in_run row.stage)) free
        ∙ may (can_send w channel))

  halts_can : IsGuarded p → (q : StoreState) (t : Halts p q) → t.channel < 16
      → logs_itself (stage_in_run t.stage) ≡ true → can_channel w t.channel ≡ true
  halts_can guarded q t low logs = can_free t.channel low _ t.row
      (none_meets p.frozen w.finds (guarded.stopped t.at t.stands) (map (command_in_run p.super) (t.command ∷ t.rest)))
      (λ sends. logs_can sends (stage_in_run t.stage) logs)

  module _ (channel : ℕ) (low : channel < 16) where
    at : (k : ℕ) → k ≡ channel → (k < 16 → can_channel w k ≡ true) → can_channel w channel ≡ true
    at k is can = subst (λ n. can_channel w n ≡ true) is (can (subst (λ n. n < 16) (sym is) low))

    -- a turn of a channel
    pub turn_can : (told : Bool) (q : StoreState) → IsGuarded p → ChannelTurn told p q channel
        → can_channel w channel ≡ true
    turn_can told q guarded (turn.reads t is) = at t.channel is (λ l.
        can_free t.channel l _ t.row (not_frozen t.volume t.free) (λ sends. refl))
    turn_can told q guarded (turn.refuses_write t is) = at t.channel is (λ l.
        can_free t.channel l _ t.row (not_frozen t.volume t.free) (λ sends. refl))
    turn_can told q guarded (turn.writes_page t is) = at t.at.channel is (λ l.
        can_free t.at.channel l _ t.at.row (not_frozen t.at.volume t.at.free) (λ sends. refl))
    turn_can told q guarded (turn.fails_to_write t is) = at t.at.channel is (λ l.
        can_free t.at.channel l _ t.at.row (not_frozen t.at.volume t.at.free) (λ sends. refl))
    turn_can told q guarded (turn.finds_empty t is) = at t.write.channel is (λ l.
        can_free t.write.channel l _ t.write.row (means_free _ _ t.write _ t.means) (λ sends. refl))
    turn_can told q guarded (turn.finds_filled t is) = at t.write.channel is (λ l.
        can_free t.write.channel l _ t.write.row (means_free _ _ t.write _ t.means) (λ sends. refl))
    turn_can told q guarded (turn.claims t is) = at t.write.channel is (λ l.
        can_free t.write.channel l _ t.write.row (means_free _ _ t.write _ t.means) (λ sends. refl))
    turn_can told q guarded (turn.refuses_claim t is) = at t.write.channel is (λ l.
        can_free t.write.channel l _ t.write.row (not_frozen t.write.volume t.free) (λ sends. refl))
    turn_can told q guarded (turn.copies t is) = at t.copying.row is (λ l.
        can_at_stage t.copying.row l _ (ap (λ (r : Row). r.stage) t.copying.is) (λ free sends. refl))
    turn_can told q guarded (turn.loses_copy t is) = at t.copying.row is (λ l.
        can_at_stage t.copying.row l _ (ap (λ (r : Row). r.stage) t.copying.is) (λ free sends. refl))
    turn_can told q guarded (turn.copy_not_read t is) = at t.copying.row is (λ l.
        can_at_stage t.copying.row l _ (ap (λ (r : Row). r.stage) t.copying.is) (λ free sends. refl))
    turn_can told q guarded (turn.copy_fails t is) = at t.copying.row is (λ l.
        can_at_stage t.copying.row l t.stage (ap (λ (r : Row). r.stage) t.copying.is)
        (λ free sends. tried_can p t.copying.claim t.stage free sends t.tried))
    turn_can told q guarded (turn.flushes t is) = at t.channel is (λ l.
        can_free t.channel l _ t.row refl (λ sends. refl))
    turn_can told q guarded (turn.flush_fails t is) = at t.channel is (λ l.
        can_free t.channel l _ t.row refl (λ sends. refl))
    turn_can told q guarded (turn.settles t is) = at t.channel is (λ l.
        can_at_stage t.channel l _ t.decided (λ free sends. refl))
    turn_can told q guarded (turn.ends t is) = at t.channel is (λ l.
        can_free t.channel l _ t.over refl (λ sends. refl))
    turn_can told q guarded (turn.halts t is logs) = at t.channel is (λ l. halts_can guarded q t l logs)

    -- its posting
    pub posting_can : (told : Bool) (q : StoreState) → PostingTurn told p q channel → can_channel w channel ≡ true
    posting_can told q (turn.posts t is) = at t.channel is (λ l. can_free t.channel l _ t.row
        (ap (λ x. meets_frozen p.frozen w.finds (x ∷ map (command_in_run p.super) t.rest))
        (asks p.super t.command t.is_meta)) (λ sends. refl))
    posting_can told q (turn.sends t is) = at t.copying.row is (λ l.
        can_at_stage t.copying.row l _ (ap (λ (r : Row). r.stage) t.copying.is) (λ free sends. refl))
