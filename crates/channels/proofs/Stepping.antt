-- A step of a driver as one of its run, and what the driver keeps.
use Rattle.std.proofs.Common.{◌≡◌, inl, inr, ℕ, ◌<◌, List, length, Some, sym, ◌∙◌, ap, subst, arith}
use Rattle.std.proofs.Common.{get_or}
use Rattle.std.specs.Prelude.{slice_get, slice_set}
use Rattle.std.proofs.lemmas.Bool.{cases_eq}
use Rattle.std.proofs.lemmas.Option.{slice_get-get_or, slice_get_within}
use Rattle.std.proofs.lemmas.List.{length-set}
use Rattle.page_disk.specs.declared.disk.PageDisk.{Ghosts}
use Rattle.volume_model.specs.declared.reply.Msg.{Msg}
use Rattle.md_queue.specs.Queue.{Appends}
use Rattle.store_model.specs.Repairing.{IsRepaired}
use Rattle.store_model.specs.Rows.{Row}
use Rattle.store_model.specs.RunInvariant.{RunInvariant}
use Rattle.store_model.specs.StateLaws.{StateLaws}
use Rattle.store_model.specs.StoreState.{shown}
use Rattle.store_model.proofs.Inserted.{get_set_here}
use Rattle.store_model.proofs.Ranges.{get_set_other}
use Rattle.store_core.specs.StoreInvariant.{opening_script, StoreInvariant}
use Rattle.running_store.specs.StoreView.{rows_of, state_of, StoreView, WithOpening}
use Rattle.run_work.specs.Following.{ActorInRun, ChannelActs}
use Rattle.run_work.specs.RunFacts.{is_filled_for, RunFacts}
use Rattle.run_work.specs.RunLaws.{FactLaws}
use Rattle.run_work.specs.Steps.{StepOf}
use Rattle.run_moves.specs.DrivenStore.{run_of}
use Rattle.run_moves.specs.DriverLaws.{DriverLaws, PlainRowLaws}
use Rattle.run_moves.specs.DriverSteps.{DriverStep}
use Rattle.run_moves.specs.Sizes.{sizes_of}
use Rattle.md_thread.proofs.TurnsRepaired.{turned}
use Rattle.channels.specs.ChannelState.{ChannelState}
use Rattle.channels.specs.ChannelSteps.{IsHeldUp, made_turn, MadeStep, TurnsOrPosts, was_held, was_kept, was_sent}
use Rattle.channels.specs.Driving.{AreChannelsOf, driven, IsChannelOf, IsDriven, IsOfSameStore, KeepsFill}
use Rattle.channels.specs.Driving.{StillKeepsFill}
use Rattle.channels.specs.Driving.{Steps}
use Rattle.channels.specs.declared.driver.Driver.{Driver}
use Rattle.channels.proofs.Acting.{held_acts, keeping_acts, posted_stage, sending_acts, turn_acts}
use Rattle.channels.specs.Driving.{driven_of}
use Rattle.md_thread.specs.Holding.{MetadataState}
use Rattle.channels.proofs.Keeping.{filled_still, laws_on, of_channels, rows_step, stands, still_own, turn_or_none}
use Rattle.turn_columns.proofs.RowSteps.{RowStep}

-- ---- the same store

pub same_then : {D : Type 0} (a b c : Driver D) → IsOfSameStore a b → IsOfSameStore b c → IsOfSameStore a c
same_then a b c first next = record {
  opening = next.opening ∙ first.opening;
  right = next.right ∙ first.right;
  name = next.name ∙ first.name;
}

-- ---- any step

module _ {D : Type 0} (d : Ghosts D) (laws : DriverLaws) (plain : PlainRowLaws) (fact : FactLaws) (w v : Driver D)
    (is : IsDriven d w) (kept : StoreInvariant d w.plant) (later : StoreInvariant d v.plant) (store : IsOfSameStore w v)
    (actor : ActorInRun) (step : DriverStep d.tells actor (driven d w) (driven d v)) (state : StateLaws) where
  later_facts : RunInvariant w.plant.opening.super (shown (state_of d w.plant.opening))
      (opening_script w.plant.opening) (state_of d v.plant.at)
  later_facts = subst (λ (o : StoreView D). RunInvariant o.super (shown (state_of d o)) (opening_script o)
      (state_of d v.plant.at)) store.opening later.facts

  in_run : StepOf (sizes_of w.plant.opening.super) actor (run_of (driven d w)) (run_of (driven d v))
  in_run = (laws_on d laws w.plant).step d.tells actor (driven d w) (driven d v) kept.placed.some_pages
      (of_channels d w.plant kept is.seventeen) kept.facts
      later_facts
      (plain d.tells kept.run.0 (state_of d w.plant.opening) (state_of d w.plant.at) kept.began kept.run.1)
      (stands d state w.plant kept) is.works is.run step

  -- it is one of the run
  pub steps : Steps d.tells w.plant.opening.super actor (driven d w) (driven d v)
  steps = record { driver = step; run = in_run }

  -- and what the driver keeps is kept
  along : (k : ℕ) → RowStep (rows_of w.plant.at.rows k) (rows_of v.plant.at.rows k)
  along = rows_step d.tells (driven d w) (driven d v) (stands d state w.plant kept) actor step

  in_run_then : RunFacts (run_of (driven d v))
  in_run_then =
      fact.step (sizes_of w.plant.opening.super) actor (run_of (driven d w)) (run_of (driven d v)) is.run in_run

  -- the row of the fill's command is as it was, since its message is on its way still
  keeps_fill : StillKeepsFill w v → KeepsFill v
  keeps_fill (inl fill) = fill
  keeps_fill (inr same) = record {
    looks = ap (λ (s : MetadataState). s.found_none) same ∙ is.fill.looks;
    asked = λ msg fills.
        let at = fact.posted (run_of (driven d v)) msg in_run_then (is_filled_for fills) in
        filled_still d w.plant v.plant along msg.channel msg.serial
        (posted_stage (rows_of v.plant.at.rows msg.channel).stage msg.serial at.1)
        (is.fill.asked msg (ap (λ (s : MetadataState). s.fill) (sym same) ∙ fills));
  }

  pub still_driven : AreChannelsOf v.plant.at.rows v.channels → StillKeepsFill w v → IsDriven d v
  still_driven channels fill = record {
    right = store.right ∙ is.right ∙ sym store.name;
    seventeen = ap (λ (o : StoreView D). length o.rows) store.opening ∙ is.seventeen;
    channels = channels;
    repaired = elim (turn_or_none d.tells (driven d w) (driven d v) actor step) [
      | inl turn ↦ turned d state w.plant v.plant kept turn is.repaired
      | inr same ↦ subst IsRepaired (sym same) is.repaired
    ];
    run = in_run_then;
    fill = keeps_fill fill;
    works = (laws_on d laws w.plant).fill
        d.tells actor (driven d w) (driven d v) (stands d state w.plant kept) is.works step;
  }

-- ---- a step of a channel

module _ {D : Type 0} (d : Ghosts D) (laws : DriverLaws) (p q : WithOpening D) (kept : StoreInvariant d p)
    (channels : List ChannelState) (queue later : List Msg) (held : MetadataState)
    (facts : RunFacts (run_of (driven_of (state_of d p.at) channels queue held))) (k : ℕ) (low : k < 16)
    (c e : ChannelState) (at : slice_get channels k ≡ Some c) (number : c.channel ≡ k) where
  abbrev Acts : WithOpening D → List Msg → Type 0
  Acts after l = DriverStep d.tells (ChannelActs k) (driven_of (state_of d p.at) channels queue held)
      (driven_of (state_of d after.at) (slice_set channels k e) l held)

  pub made_acts : MadeStep d p q c e queue later → Acts q later
  made_acts (made_turn none turn same) = subst (Acts q) (sym same)
      (turn_acts d.tells p.opening.super (shown (state_of d p.opening)) (opening_script p.opening) (laws _ _ _)
      (state_of d p.at) (state_of d q.at) kept.facts channels queue held k low c e at none
      (subst (λ n. TurnsOrPosts d.tells (state_of d p.at) (state_of d q.at) n e.unsent) number turn))
  made_acts (was_held none still up stays same) = subst (Acts q) (sym same)
      (subst (λ (x : WithOpening D). Acts x queue) (sym stays)
      (held_acts d.tells p.opening.super (shown (state_of d p.opening)) (opening_script p.opening) (laws _ _ _)
      (state_of d p.at) (state_of d p.at) kept.facts channels queue held k low c e at none still
      (subst (IsHeldUp (state_of d p.at)) number up)))
  made_acts (was_sent serial some none sent stays) = subst (λ (x : WithOpening D). Acts x later) (sym stays)
      (sending_acts d.tells p.opening.super (shown (state_of d p.opening)) (opening_script p.opening) (laws _ _ _)
      (state_of d p.at) (state_of d p.at) kept.facts channels queue held k low c e at facts serial some later none
      (subst (λ n. Appends queue (record { channel = n; serial = serial }) later) number sent))
  made_acts (was_kept serial some still many stays same) = subst (Acts q) (sym same)
      (subst (λ (x : WithOpening D). Acts x queue) (sym stays)
      (keeping_acts d.tells p.opening.super (shown (state_of d p.opening)) (opening_script p.opening) (laws _ _ _)
      (state_of d p.at) (state_of d p.at) kept.facts channels queue held k low c e at facts serial some still many))

-- the channels then
module _ (rows later : List Row) (steps : (k : ℕ) → RowStep (rows_of rows k) (rows_of later k))
    (channels : List ChannelState) (are : AreChannelsOf rows channels) (k : ℕ) (c e : ChannelState)
    (at : slice_get channels k ≡ Some c) (own : IsChannelOf later k e) where
  set_each : (j : ℕ) (x : ChannelState) → slice_get (slice_set channels k e) j ≡ Some x → IsChannelOf later j x
  set_each j x is = elim (cases_eq j k) [
    | inl same ↦
        let here : slice_get (slice_set channels k e) j ≡ Some e =
        ap (slice_get (slice_set channels k e)) same ∙ get_set_here channels k e (slice_get_within channels k c at) in
        let both : Some e ≡ Some x = sym here ∙ is in
        let e_is : e ≡ x = cc both in
        subst (λ n. IsChannelOf later n x) (sym same) (subst (IsChannelOf later k) e_is own)
    | inr ne ↦ still_own rows later steps j x (are.each j x (sym (get_set_other channels k j e ne) ∙ is))
  ]

  pub set_channels : AreChannelsOf later (slice_set channels k e)
  set_channels = record { sixteen = length-set channels k e ∙ are.sixteen; each = set_each }

-- the channel of a number
module _ (rows : List Row) (channels : List ChannelState) (are : AreChannelsOf rows channels) (k : ℕ) (low : k < 16)
    (at : ℕ) (c : ChannelState) (is : at ≡ k) where
  pub channel_there : slice_get channels k ≡ Some (get_or channels at c)
  channel_there = slice_get-get_or channels k c (omega (arith, low, are.sixteen))
      ∙ ap (λ n. Some (get_or channels n c)) (sym is)

  pub is_its : IsChannelOf rows (get_or channels at c).channel (get_or channels at c)
  is_its =
      let own = are.each k (get_or channels at c) channel_there in
      subst (λ n. IsChannelOf rows n (get_or channels at c)) (sym own.number) own
