-- How a driver starts.
use Rattle.std.proofs.Common.{◌≡◌, inl, inr, ℕ, ◌<◌, nat_lt, Option, Some, None, Bool, true, false, List, [], ◌∷◌}
use Rattle.std.proofs.Common.{if◌then◌else◌, length, refl, sym, ◌∙◌, ap, subst, arith}
use Rattle.std.specs.Prelude.{slice_get, slice_set, ◌+◌, ◌&&◌, ◌==◌, not}
use Rattle.store_model.proofs.Inserted.{get_set_here}
use Rattle.store_model.proofs.Ranges.{get_set_other}
use Rattle.std.specs.Option.{option_and_then, option_map}
use Rattle.std.proofs.Math.Path.{fun_ext}
use Rattle.std.proofs.lemmas.Bool.Decides.{nat_tests}
use Rattle.std.proofs.lemmas.Option.{slice_get_past, slice_get_within}
use Rattle.std.proofs.lemmas.Bool.{cases_eq, cases_lt}
use Rattle.page_disk.specs.declared.disk.PageDisk.{Ghosts}
use Rattle.volume_model.specs.declared.command.Command.{Command}
use Rattle.volume_model.specs.declared.command.Command.TheVariants as c
use Rattle.store_model.specs.Repairing.{IsRepaired}
use Rattle.store_model.specs.Rows.{Claiming, Copying, Decided, Ended, Idle, InJob, OpenClaim, Posted, Ready}
use Rattle.store_model.specs.Rows.{Row, Stage}
use Rattle.store_model.specs.StateLaws.{StateLaws}
use Rattle.store_model.specs.StoreState.{StoreState}
use Rattle.md_thread.specs.Holding.{at_first, driven_by, MetadataState}
use Rattle.channels.proofs.Keeping.{laws_on, of_channels, stands}
use Rattle.running_store.specs.Stages.{is_stage, waits_for}
use Rattle.store_core.specs.StoreInvariant.{StoreInvariant}
use Rattle.running_store.specs.StoreView.{rows_of, state_of}
use Rattle.run_work.specs.RunFacts.{comes_from, RunFacts}
use Rattle.run_moves.specs.DrivenStore.{driven_at_start, DrivenStore, message_filled_for, run_of, serial_in}
use Rattle.run_moves.specs.DriverLaws.{DriverLaws}
use Rattle.run_moves.specs.FillTurns.{HoldsFill}
use Rattle.channels.specs.ChannelState.{channel_at, ChannelState, fills_for, sent_at, serial_at, starting_at}
use Rattle.channels.specs.Driving.{AreChannelsOf, AreStarting, driven, IsChannelOf, IsDriven, unsent_of}
use Rattle.channels.specs.declared.driver.Driver.{Driver}
use Rattle.channels.proofs.StepsMade.{ended_stage}

none_posted : (command : Command) → serial_at (waits_for command) ≡ None
none_posted (c.Read volume page) = refl
none_posted (c.Write volume page word) = refl
none_posted c.Flush = refl
none_posted _ = refl

serial_by : (left : List Command) (stage : Stage) (claim : Option OpenClaim) (channel : ℕ)
    → serial_at (is_stage (record { left = left; stage = stage; claim = claim }) channel) ≡ serial_in stage
serial_by [] Idle claim channel = refl
serial_by (command ∷ rest) Idle claim channel = none_posted command
serial_by left Claiming claim channel = refl
serial_by left (Copying count) claim channel = refl
serial_by left Ready claim channel = refl
serial_by left (Posted serial) claim channel = refl
serial_by left InJob claim channel = refl
serial_by left (Decided outcome) claim channel = refl
serial_by left Ended claim channel = refl

-- what a channel has to send at the start
sends_at : (filled : Bool) (row : Row) (k : ℕ)
    → (if filled then sent_at k else channel_at k (is_stage row k)).unsent
    ≡ (if true && not filled then serial_in row.stage else None)
sends_at true row k = refl
sends_at false row k = serial_by row.left row.stage row.claim k

module _ (filling : Option ℕ) (rows : List Row) (channels : List ChannelState)
    (are : AreStarting filling rows channels) where
  -- the message that each channel has still to send, where slots are filled for the command of one or of none
  abbrev to_send : ℕ → Option ℕ
  to_send k = if nat_lt k 16 && not (fills_for filling k) then serial_in (rows_of rows k).stage else None

  serial_there : (k : ℕ) → unsent_of channels k ≡ to_send k
  serial_there k = elim (cases_lt k 16) [
    | inl low ↦
        let below : nat_lt k 16 ≡ true = grind (arith, nat_tests) in
        ap (option_and_then (λ (x : ChannelState). x.unsent)) (are.each k low)
        ∙ sends_at (fills_for filling k) (rows_of rows k) k
        ∙ sym (ap (λ b. if b && not (fills_for filling k) then serial_in (rows_of rows k).stage else None) below)
    | inr high ↦
        let above : nat_lt k 16 ≡ false = grind (arith, nat_tests) in
        ap (option_and_then (λ (x : ChannelState). x.unsent))
        (slice_get_past channels k (omega (arith, high, are.sixteen)))
        ∙ sym (ap (λ b. if b && not (fills_for filling k) then serial_in (rows_of rows k).stage else None) above)
  ]

  each_own : (k : ℕ) (x : ChannelState) → slice_get channels k ≡ Some x → IsChannelOf rows k x
  each_own k x at =
      let low : k < 16 = let within = slice_get_within channels k x at in omega (arith, within, are.sixteen) in
      let both : Some (starting_at filling k (is_stage (rows_of rows k) k)) ≡ Some x = sym (are.each k low) ∙ at in
      let same : starting_at filling k (is_stage (rows_of rows k) k) ≡ x = cc both in
      subst (IsChannelOf rows k) same (own (fills_for filling k))
    where
      own : (filled : Bool)
          → IsChannelOf rows k (if filled then sent_at k else channel_at k (is_stage (rows_of rows k) k))
      own true = record { number = refl; ended = λ is. absurd (cc is) }
      own false = record { number = refl; ended = λ is. ended_stage (rows_of rows k) k is }

  pub own_then : AreChannelsOf rows channels
  own_then = record { sixteen = are.sixteen; each = each_own }

-- the metadata thread has the message of the channel for whose command slots are filled
held_from : (p : StoreState) → HoldsFill p (driven_at_start p).messages → (k : ℕ)
    → comes_from k (message_filled_for p) ≡ fills_for p.filling k
held_from p holds k = go p.filling refl
  where
    go : (o : Option ℕ) → p.filling ≡ o → comes_from k (message_filled_for p) ≡ fills_for p.filling k
    go None none =
        ap (λ (o : Option ℕ). comes_from k (option_and_then (λ channel.
        option_map (λ serial. record { channel = channel; serial = serial }) (serial_in (p.rows channel).stage)) o))
        none
        ∙ sym (ap (λ (o : Option ℕ). fills_for o k) none)
    go (Some channel) works =
        let x = holds channel works in
        ap (comes_from k) x.1 ∙ ap (λ n. k == n) x.2 ∙ sym (ap (λ (o : Option ℕ). fills_for o k) works)

-- a driver that starts on a store is that store with the messages of its posted rows
module _ {D : Type 0} (d : Ghosts D) (laws : DriverLaws) (w : Driver D) (kept : StoreInvariant d w.plant)
    (state : StateLaws) (are : AreStarting w.plant.at.filling w.plant.at.rows w.channels) (queue : w.queue ≡ [])
    (begins : w.metadata ≡ at_first (message_filled_for (state_of d w.plant.at))) where
  abbrev p : StoreState
  p = state_of d w.plant.at

  holds : HoldsFill p (driven_at_start p).messages
  holds = (laws_on d laws w.plant).start_fill p (stands d state w.plant kept)

  unsent_then : unsent_of w.channels ≡ (driven_at_start p).messages.unsent
  unsent_then = fun_ext (λ k. serial_there p.filling w.plant.at.rows w.channels are k
      ∙ sym (ap (λ b. if nat_lt k 16 && not b then serial_in (p.rows k).stage else None) (held_from p holds k)))

  pub starts_as : driven d w ≡ driven_at_start p
  starts_as = λ i. driven_by p (begins i) (unsent_then i) (queue i)

  pub starts_driven : w.right ≡ w.plant.right → length w.plant.opening.rows ≡ 17 → IsRepaired p → IsDriven d w
  starts_driven right seventeen repaired = record {
    right = right;
    seventeen = seventeen;
    channels = own_then p.filling w.plant.at.rows w.channels are;
    repaired = repaired;
    run = subst (λ (x : DrivenStore). RunFacts (run_of x)) (sym starts_as)
        ((laws_on d laws w.plant).start p (of_channels d w.plant kept seventeen) kept.facts
        (stands d state w.plant kept));
    fill = record {
      looks = ap (λ (s : MetadataState). s.found_none) begins;
      asked = λ msg is. let bad : None ≡ Some msg = sym (ap (λ (s : MetadataState). s.fill) begins) ∙ is in
          absurd (cc bad);
    };
    works = subst (λ (x : DrivenStore). HoldsFill x.store x.messages) (sym starts_as) holds;
  }

-- ---- one channel after the other

pub record StartsSoFar (filling : Option ℕ) (rows : List Row) (count : ℕ) (channels : List ChannelState) : Type 0 where
  pub sixteen : length channels ≡ 16
  pub each : (k : ℕ) → k < count → slice_get channels k ≡ Some (starting_at filling k (is_stage (rows_of rows k) k))

module _ (filling : Option ℕ) (rows : List Row) (count : ℕ) (channels : List ChannelState)
    (so : StartsSoFar filling rows count channels) (low : count < 16) (e : ChannelState)
    (is : e ≡ starting_at filling count (is_stage (rows_of rows count) count)) where
  next_each : (k : ℕ) → k < count + 1
      → slice_get (slice_set channels count e) k ≡ Some (starting_at filling k (is_stage (rows_of rows k) k))
  next_each k below = elim (cases_eq k count) [
    | inl same ↦
        let within : count < length channels = omega (arith, low, so.sixteen) in
        ap (slice_get (slice_set channels count e)) same ∙ get_set_here channels count e within ∙ ap (λ x. Some x) is
        ∙ ap (λ n. Some (starting_at filling n (is_stage (rows_of rows n) n))) (sym same)
    | inr ne ↦ get_set_other channels count k e ne ∙ so.each k (omega (arith, below, ne))
  ]
