-- A round lowers the work unless all have ended; so a run of rounds ends.
use Rattle.std.proofs.Common.{if◌then◌else◌, Option, None, Bool, ◌≡◌, ◌⊎◌, inl, inr, ℕ, zero, suc, ◌+◌, ◌<◌, ◌≤◌, true}
use Rattle.std.proofs.Common.{false, ◌&&◌, List, [], ◌∷◌, refl, sym, ◌∙◌, ap, subst, arith, nat_lt, Some}
use Rattle.std.specs.Prelude.{not}
use Rattle.std.proofs.lemmas.Bool.{eqb-true, lt-ltb}
use Rattle.std.proofs.lemmas.Bool.Decides.{eqb_tells}
use Rattle.volume_model.specs.declared.reply.Msg.{Msg}
use Rattle.run_work.specs.RunState.{AtClaiming, AtCopying, AtDecided, AtEnded, AtIdle, AtInJob, AtPosted, AtReady}
use Rattle.run_work.specs.RunState.{JobInRun, RunSizes, RunState, StageInRun}
use Rattle.run_work.specs.Work.{one_if, work}
use Rattle.run_work.specs.ServingMoves.{WaitsInJob}
use Rattle.run_work.specs.Following.{ActorInRun, ChannelActs, MetadataActs, Passes, Round, Rounds, Scheduled}
use Rattle.run_work.specs.Steps.{all_ended, can_channel, can_metadata, can_move, RunFollows, StepOf}
use Rattle.run_work.specs.RunFacts.{at_start, awaited, comes_from, in_queue, is_filled_for, is_held, is_waiting}
use Rattle.run_work.specs.RunFacts.{IsOnTheWay, not_sent, RunFacts, serial_posted}
use Rattle.run_work.specs.Reading.{is_there}
use Rattle.run_work.proofs.Keeping.{step_keeps}
use Rattle.run_work.proofs.Lowering.{channel_below, step_lowers}
use Rattle.run_work.proofs.Progress.{some_actor}

module _ (z : RunSizes) where
  -- the channels that were passed have lowered the work, or none of them can move
  passed : (n : ℕ) (w v : RunState) → 16 < z.rows → Passes (StepOf z) all_ended n w v
      → (work z v < work z w) ⊎ ((v ≡ w) × ((ch : ℕ) → ch < n → can_channel w ch ≡ false))
  passed zero w v enough is = inr (is, λ ch low. absurd (omega (arith, low)))
  passed (suc n) w v enough run =
      let mid = run.0 in
      elim (passed n w mid enough run.1.0) [
        | inl less ↦ elim (step_lowers z (ChannelActs n) mid v enough run.1.1) [
          | inl more ↦ inl (omega (arith, less, more))
          | inr b ↦ inl (subst (λ x. work z x < work z w) (sym b.1) less)
        ]
        | inr same ↦ elim (step_lowers z (ChannelActs n) mid v enough run.1.1) [
          | inl more ↦ inl (subst (λ x. work z v < work z x) same.0 more)
          | inr b ↦ inr (
            b.1 ∙ same.0,
            λ ch low. elim (eqb_tells ch n) [
              | inl e ↦
                  subst (λ k. can_channel w k ≡ false) (sym e.1)
                  (subst (λ x. can_channel x n ≡ false) same.0 b.0)
              | inr e ↦ let ne = e.1 in same.1 ch (omega (arith, low, ne))
            ],
          )
        ]
      ]

  -- a round lowers the work unless all have ended
  pub round_lowers : (w v : RunState) → 16 < z.rows → RunFacts w → all_ended w ≡ false
      → Round (StepOf z) all_ended w v → work z v < work z w
  round_lowers w v enough f live run =
      let mid = run.0 in
      elim (passed 16 w mid enough run.1.0) [
        | inl less ↦ elim (step_lowers z MetadataActs mid v enough run.1.1) [
          | inl more ↦ omega (arith, less, more)
          | inr b ↦ subst (λ x. work z x < work z w) (sym b.1) less
        ]
        | inr same ↦ elim (step_lowers z MetadataActs mid v enough run.1.1) [
          | inl more ↦ subst (λ x. work z v < work z x) same.0 more
          | inr b ↦
              let some = some_actor w f live in
              absurd (stuck_by some.0 some.1 same.1 (subst (λ x. can_metadata x ≡ false) same.0 b.0))
        ]
      ]
    where
      stuck_by : (actor : ActorInRun) → can_move w actor ≡ true
          → ((ch : ℕ) → ch < 16 → can_channel w ch ≡ false) → can_metadata w ≡ false → ⊥
      stuck_by (ChannelActs ch) can none stuck = absurd (cc (sym can ∙ none ch (channel_below z w ch can)))
      stuck_by MetadataActs can none stuck = absurd (cc (sym can ∙ stuck))

  -- ---- facts over steps

  passes_keep : (n : ℕ) (w v : RunState) → RunFacts w → Passes (StepOf z) all_ended n w v → RunFacts v
  passes_keep zero w v f is = subst RunFacts (sym is) f
  passes_keep (suc n) w v f run =
      step_keeps z (ChannelActs n) run.0 v (passes_keep n w run.0 f run.1.0) run.1.1

  -- a round keeps the facts
  pub round_keeps : (w v : RunState) → RunFacts w → Round (StepOf z) all_ended w v → RunFacts v
  round_keeps w v f run = step_keeps z MetadataActs run.0 v (passes_keep 16 w run.0 f run.1.0) run.1.1

  rounds_keep : (n : ℕ) (w v : RunState) → RunFacts w → Rounds (StepOf z) all_ended n w v → RunFacts v
  rounds_keep zero w v f is = subst RunFacts (sym is) f
  rounds_keep (suc n) w v f run = round_keeps run.0 v (rounds_keep n w run.0 f run.1.0) run.1.1.1

  -- there are no more rounds than there is work
  pub rounds_lower : (n : ℕ) (w v : RunState) → 16 < z.rows → RunFacts w → Rounds (StepOf z) all_ended n w v
      → n + work z v ≤ work z w
  rounds_lower zero w v enough f is = let same = ap (work z) is in omega (arith, same)
  rounds_lower (suc n) w v enough f run =
      let first = rounds_lower n w run.0 enough f run.1.0 in
      let next = round_lowers run.0 v enough (rounds_keep n w run.0 f run.1.0) run.1.1.0 run.1.1.1 in
      omega (arith, first, next)

  scheduled_keep : (l : List ActorInRun) (w v : RunState) → RunFacts w → Scheduled (StepOf z) all_ended l w v
      → RunFacts v
  scheduled_keep [] w v f is = subst RunFacts (sym is) f
  scheduled_keep (a ∷ l) w v f run = scheduled_keep l run.0 v (step_keeps z a w run.0 f run.1.0) run.1.1

  scheduled_lower : (l : List ActorInRun) (w v : RunState) → 16 < z.rows → Scheduled (StepOf z) all_ended l w v
      → work z v ≤ work z w
  scheduled_lower [] w v enough is = let same = ap (work z) is in omega (arith, same)
  scheduled_lower (a ∷ l) w v enough run =
      let rest = scheduled_lower l run.0 v enough run.1.1 in
      elim (step_lowers z a w run.0 enough run.1.0) [
        | inl less ↦ omega (arith, rest, less)
        | inr same ↦ let is = ap (work z) same.1 in omega (arith, rest, is)
      ]

  -- a run that follows a schedule
  pub follows_lower : (schedule : List ActorInRun) (w v : RunState) → 16 < z.rows → RunFacts w
      → (run : RunFollows z schedule w v) → (run.count + work z v ≤ work z w) × RunFacts v
  follows_lower schedule w v enough f run =
      let mid = scheduled_keep schedule w run.mid f run.scheduled in
      let first = scheduled_lower schedule w run.mid enough run.scheduled in
      let next = rounds_lower run.count run.mid v enough mid run.rounds in
      (omega (arith, first, next), rounds_keep run.count run.mid v mid run.rounds)

-- ---- the start

-- a message that a channel has still to send at the start
abbrev sent_at_start : RunState → ℕ → Bool → Option ℕ
sent_at_start w k t = if t then serial_posted (w.rows k).stage else None

awaited_at_start : (k : ℕ) (s : StageInRun) (t : Bool) → nat_lt k 16 ≡ t
    → one_if (is_there (if t then serial_posted s else None)) ≡ awaited k s
awaited_at_start k (AtPosted n) true is = ap one_if (sym is)
awaited_at_start k (AtPosted n) false is = ap one_if (sym is)
awaited_at_start k AtIdle true is = refl
awaited_at_start k AtClaiming true is = refl
awaited_at_start k (AtCopying n) true is = refl
awaited_at_start k AtReady true is = refl
awaited_at_start k AtInJob true is = refl
awaited_at_start k AtDecided true is = refl
awaited_at_start k AtEnded true is = refl
awaited_at_start k AtIdle false is = refl
awaited_at_start k AtClaiming false is = refl
awaited_at_start k (AtCopying n) false is = refl
awaited_at_start k AtReady false is = refl
awaited_at_start k AtInJob false is = refl
awaited_at_start k AtDecided false is = refl
awaited_at_start k AtEnded false is = refl

-- one message is on its way of each channel that is posted: the one that is held, or the one that is to be sent
counted_at_start : (k : ℕ) (s : StageInRun) (t c : Bool) → nat_lt k 16 ≡ t
    → (c ≡ true → (n : ℕ) × (t ≡ true) × (s ≡ AtPosted n))
    → one_if (is_there (if t && not c then serial_posted s else None)) + one_if c ≡ awaited k s
counted_at_start k s true false is held = let one = awaited_at_start k s true is in omega (arith, one)
counted_at_start k s false false is held = let one = awaited_at_start k s false is in omega (arith, one)
counted_at_start k s true true is held =
    sym (ap (awaited k) (held refl).2 ∙ ap one_if is)
counted_at_start k s false true is held = absurd (cc (held refl).1)

-- what is held is on its way for the channel that it comes from
held_posted : (w : RunState) (held : Option Msg)
    → ((m : Msg) → held ≡ Some m → (m.channel < 16) × ((w.rows m.channel).stage ≡ AtPosted m.serial))
    → (k : ℕ) → comes_from k held ≡ true → (n : ℕ) × (nat_lt k 16 ≡ true) × ((w.rows k).stage ≡ AtPosted n)
held_posted w None posted k from = absurd (cc from)
held_posted w (Some m) posted k from =
    let same : k ≡ m.channel = eqb-true k m.channel from in
    let x = posted m refl in (
      m.serial,
      ap (λ j. nat_lt j 16) same ∙ lt-ltb m.channel 16 x.0,
      ap (λ j. (w.rows j).stage) same ∙ x.1,
    )

serial_is : (s : StageInRun) (n : ℕ) → serial_posted s ≡ Some n → s ≡ AtPosted n
serial_is (AtPosted x) n is = ap (λ o. AtPosted (or_zero o)) is
  where
    or_zero : Option ℕ → ℕ
    or_zero None = 0
    or_zero (Some y) = y
serial_is AtIdle n is = absurd (cc is)
serial_is AtClaiming n is = absurd (cc is)
serial_is (AtCopying x) n is = absurd (cc is)
serial_is AtReady n is = absurd (cc is)
serial_is AtInJob n is = absurd (cc is)
serial_is AtDecided n is = absurd (cc is)
serial_is AtEnded n is = absurd (cc is)

current_at_start : (w : RunState) (held : Option Msg)
    → ((m : Msg) → held ≡ Some m → (m.channel < 16) × ((w.rows m.channel).stage ≡ AtPosted m.serial))
    → (m : Msg) → IsOnTheWay (at_start w held) m → (w.rows m.channel).stage ≡ AtPosted m.serial
current_at_start w held posted m (not_sent is) = go (nat_lt m.channel 16 && not (comes_from m.channel held)) is
  where
    go : (t : Bool) → sent_at_start w m.channel t ≡ Some m.serial → (w.rows m.channel).stage ≡ AtPosted m.serial
    go true at = serial_is (w.rows m.channel).stage m.serial at
    go false at = absurd (cc at)
current_at_start w held posted m (in_queue none) = absurd none
current_at_start w held posted m (is_held is) = (posted m is).1
current_at_start w held posted m (is_waiting none) = absurd none
current_at_start w held posted m (is_filled_for is) = absurd (cc is)

-- two facts of a store are enough for a driver to start, and one of what is held
pub starts : (w : RunState) (held : Option Msg)
    → ((m : Msg) → held ≡ Some m → (m.channel < 16) × ((w.rows m.channel).stage ≡ AtPosted m.serial))
    → ((h : ℕ) → w.frozen h ≡ true → (job : JobInRun) × (w.job ≡ Some job) × (job.freeze ≡ Some h))
    → ((ch : ℕ) → (w.rows ch).stage ≡ AtInJob → WaitsInJob w ch) → RunFacts (at_start w held)
starts w held posted frozen in_job = record {
  frozen = frozen;
  in_job = in_job;
  counted = λ k.
      let one = counted_at_start k (w.rows k).stage (nat_lt k 16) (comes_from k held) refl (held_posted w held posted k)
      in omega (arith, one);
  current = current_at_start w held posted;
}
