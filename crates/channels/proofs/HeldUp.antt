-- Which channels can move: one that is held up can't, and one with a message to send can where the queue has room.
use Rattle.std.proofs.Common.{◌≡◌, inl, inr, ℕ, ◌<◌, nat_lt, Option, Some, None, Bool, true, false, ◌&&◌, not, List}
use Rattle.std.proofs.Common.{◌∷◌, length, refl, ◌∙◌, ap, arith}
use Rattle.std.specs.Prelude.{map}
use Rattle.std.proofs.lemmas.Bool.Decides.{nat_tests}
use Rattle.volume_model.specs.declared.command.Command.{Command}
use Rattle.volume_model.specs.declared.command.Command.TheVariants as c
use Rattle.store_model.specs.Rows.{Claiming, Ended, Idle, InJob, Posted, Stage}
use Rattle.store_model.specs.StoreState.{StoreState}
use Rattle.channel_turns.specs.ChannelTurns.{IsFrozenFor}
use Rattle.run_work.specs.Reading.{is_frozen_at, is_there, meets_frozen}
use Rattle.run_work.specs.RunState.{RunState}
use Rattle.run_work.specs.Steps.{can_at, can_channel, can_send, is_free_at}
use Rattle.run_moves.specs.Projection.{command_in_run, run_state_of, RunMessages, stage_in_run}
use Rattle.channels.specs.ChannelSteps.{by_end, by_frozen, by_job, by_posting, IsHeldUp, IsOfPage, MeetsFrozen}

and_false : (b : Bool) → (b && false) ≡ false
and_false true = refl
and_false false = refl

module _ (p : StoreState) (d : RunMessages) (ch : ℕ) where
  abbrev w : RunState
  w = run_state_of p d

  at_stage : (stage : Stage) (can : Bool) → (p.rows ch).stage ≡ stage
      → can_at (is_free_at w ch) (can_send w ch) (stage_in_run stage) ≡ can
      → can_channel w ch ≡ (nat_lt ch 16 && can)
  at_stage stage can is at =
      ap (λ (s : Stage). nat_lt ch 16 && can_at (is_free_at w ch) (can_send w ch) (stage_in_run s)) is
      ∙ ap (λ b. nat_lt ch 16 && b) at

  cannot : (stage : Stage) → (p.rows ch).stage ≡ stage
      → can_at (is_free_at w ch) (can_send w ch) (stage_in_run stage) ≡ false → can_channel w ch ≡ false
  cannot stage is at = at_stage stage false is at ∙ and_false (nat_lt ch 16)

  -- its blob is frozen
  frozen_by : (command : Command) (rest : List Command) → IsOfPage command → IsFrozenFor p command
      → not (meets_frozen p.frozen w.finds (map (command_in_run p.super) (command ∷ rest))) ≡ false
  frozen_by (c.Read volume page) rest of f = ap (λ o. not (is_frozen_at p.frozen o)) f.named ∙ ap not f.frozen
  frozen_by (c.Write volume page word) rest of f = ap (λ o. not (is_frozen_at p.frozen o)) f.named ∙ ap not f.frozen
  frozen_by _ rest of f = absurd of

  frozen_at : MeetsFrozen p ch → is_free_at w ch ≡ false
  frozen_at x =
      ap (λ (l : List Command). not (meets_frozen p.frozen w.finds (map (command_in_run p.super) l))) x.left
      ∙ frozen_by x.command x.rest x.page x.frozen

  -- a channel that is held up can't move, unless it has a message to send
  pub held_up : d.unsent ch ≡ None → IsHeldUp p ch → can_channel w ch ≡ false
  held_up none (by_frozen x (inl idle)) = cannot Idle idle (frozen_at x)
  held_up none (by_frozen x (inr claiming)) = cannot Claiming claiming (frozen_at x)
  held_up none (by_posting serial at) =
      cannot (Posted serial) at (ap (λ (o : Option ℕ). is_there o && nat_lt (length d.queue) 8) none)
  held_up none (by_job at) = cannot InJob at refl
  held_up none (by_end at) = cannot Ended at refl

  -- a message is to be sent, and the queue is full
  pub full : (serial : ℕ) → (p.rows ch).stage ≡ Posted serial → length d.queue ≡ 8 → can_channel w ch ≡ false
  full serial at many = cannot (Posted serial) at
      (ap (λ n. is_there (d.unsent ch) && nat_lt n 8) many ∙ and_false (is_there (d.unsent ch)))

  -- or it isn't
  pub sends : (serial own : ℕ) → ch < 16 → (p.rows ch).stage ≡ Posted serial → d.unsent ch ≡ Some own
      → length d.queue < 8 → can_channel w ch ≡ true
  sends serial own low at some room =
      let below : nat_lt ch 16 ≡ true = grind (arith, nat_tests) in
      let less : nat_lt (length d.queue) 8 ≡ true = grind (arith, nat_tests) in
      at_stage (Posted serial) true at (ap (λ (o : Option ℕ). is_there o && nat_lt (length d.queue) 8) some ∙ less)
      ∙ ap (λ b. b && true) below
