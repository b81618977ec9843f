-- Each turn of the metadata thread, with what becomes of its messages, is the step that is due.
use Rattle.std.proofs.Common.{◌≡◌, ◌≢◌, ◌⊎◌, ℕ, ◌<◌, Bool, true, false, ◌&&◌, List, [], ◌∷◌, Option, Some, None, refl}
use Rattle.std.proofs.Common.{sym}
use Rattle.std.proofs.Common.{ap, ◌∙◌, subst, inl, inr, arith}
use Rattle.std.specs.Prelude.{if◌then◌else◌, is_none as is_empty, is_some, IsSome, not, length, nat_lt}
use Rattle.std.proofs.lemmas.Bool.{lt-ltb}
use Rattle.volume_model.specs.declared.reply.Msg.{Msg}
use Rattle.store_model.specs.Cases.EndFill.{EndsFill}
use Rattle.store_model.specs.StoreState.{JobState, StoreState}
use Rattle.run_work.specs.Reading.{has_any, is_in_use, is_there}
use Rattle.run_work.specs.ServingMoves.{the_first, the_held}
use Rattle.run_work.specs.Steps.{due_in, FillStep, TakeStep}
use Rattle.run_moves.specs.DrivenStore.{DrivenStore, run_of}
use Rattle.run_moves.specs.DriverSteps as acts
use Rattle.run_moves.specs.DriverSteps.{driven_at_turn, FillActsOn, MetadataActsOn}
use Rattle.run_moves.specs.Projection.{stage_in_run}
use Rattle.md_thread.specs.Holding.{driven_by, looks_first, LooksForMessage, MakesStep, messages_by, MetadataState}
use Rattle.md_thread.specs.Turns as made
use Rattle.md_thread.specs.Turns.{ActsNow, FillMade, HasJoined, JobMade, ServiceMade}
use Rattle.md_thread.proofs.StepsDue.{close_due, closing, fill_due, first_due, held_due, in_job, job_due, nothing_left}
use Rattle.md_thread.proofs.StepsDue.{take_due}

-- something is there, or nothing is
pub some_of : {A : Type 0} (o : Option A) → is_some o ≡ true → IsSome o
some_of None is = absurd (cc is)
some_of (Some x) is = refl

pub none_of : {A : Type 0} (o : Option A) → is_some o ≡ false → o ≡ None
none_of None is = refl
none_of (Some x) is = absurd (cc is)

module _ (told : Bool) (p q : StoreState) where
  abbrev in_use : Bool
  in_use = is_in_use (stage_in_run (p.rows 16).stage)

  -- the running job's turn
  pub by_job : (s t : MetadataState) → IsSome p.job → JobMade told p q s t → MakesStep told p s q t
  by_job s t some done unsent queue empty =
      subst (λ (x : DrivenStore). MetadataActsOn told x (driven_by q t unsent queue))
      (sym (in_job p s unsent queue some)) (go done)
    where
      go : JobMade told p q s t → MetadataActsOn told (driven_by p s unsent queue) (driven_by q t unsent queue)
      go (made.goes_on turn same) = acts.by_job (job_due p s unsent queue some) turn
          (ap (λ (x : MetadataState). messages_by x unsent queue) same)
      go (made.failed turn same) = acts.by_failed_fill (job_due p s unsent queue some) turn
          (ap (λ (x : MetadataState). messages_by x unsent queue) same)

  is_none : (o : Option Msg) → o ≡ None → is_there o ≡ false
  is_none None is = refl
  is_none (Some x) is = absurd (cc is)

  -- the end of the fill's row
  pub by_closing : (s : MetadataState) → p.job ≡ None → s.fill ≡ None → in_use ≡ true → EndsFill p q
      → MakesStep told p s q s
  by_closing s none fill in_hand turn unsent queue empty =
      subst (λ (x : DrivenStore). MetadataActsOn told x (driven_by q s unsent queue))
      (sym (closing p s unsent queue (is_none s.fill fill) in_hand))
      (acts.by_closing (close_due p s unsent queue none fill in_hand) turn refl)

  -- what is made once no command has to wait
  pub by_joining : (s m t : MetadataState) → HasJoined p s m → m.found_none ≡ s.found_none → ActsNow told p q m t
      → MakesStep told p s q t
  by_joining s m t joined same now unsent queue empty =
      subst (λ (x : DrivenStore). MetadataActsOn told x (driven_by q t unsent queue)) (joined unsent queue)
      (now unsent queue (λ e. empty (sym same ∙ e)))

  module _ (m t : MetadataState) (none : p.job ≡ None) where
    abbrev as_messages : (x : MetadataState) → t ≡ x → (unsent : ℕ → Option ℕ) (queue : List Msg)
        → messages_by t unsent queue ≡ messages_by x unsent queue
    as_messages x same unsent queue = ap (λ (y : MetadataState). messages_by y unsent queue) same

    -- what is held is served
    pub by_held : (msg : Msg) → m.held ≡ Some msg → (m.fill ≡ None → in_use ≡ false)
        → ServiceMade told p q msg (record m { held = None }) t → ActsNow told p q m t
    by_held msg held free (made.served turn same) unsent queue empty =
        acts.by_message msg None m.waiting (held_due p m unsent queue none msg held free) (the_held held refl refl) turn
        (as_messages (record m { held = None }) same unsent queue)
    by_held msg held free (made.filled unfilled (made.goes_on turn same)) unsent queue empty =
        acts.by_taking_up msg None m.waiting (held_due p m unsent queue none msg held free) unfilled
        (the_held held refl refl)
        (acts.fill_goes_on turn (as_messages (record m { held = None; fill = Some msg }) same unsent queue))
    by_held msg held free (made.filled unfilled (made.ended turn same)) unsent queue empty =
        acts.by_taking_up msg None m.waiting (held_due p m unsent queue none msg held free) unfilled
        (the_held held refl refl)
        (acts.fill_ends turn (as_messages (record m { held = None; fill = None }) same unsent queue))

    -- the first that waits is
    pub by_first : (msg : Msg) (rest : List Msg) → m.held ≡ None → m.fill ≡ None → in_use ≡ false
        → m.waiting ≡ msg ∷ rest → ServiceMade told p q msg (record m { waiting = rest }) t → ActsNow told p q m t
    by_first msg rest held fill in_hand waiting (made.served turn same) unsent queue empty =
        acts.by_message msg m.held rest (first_due p m unsent queue none msg rest held fill in_hand waiting)
        (the_first refl waiting) turn (as_messages (record m { waiting = rest }) same unsent queue)
    by_first msg rest held fill in_hand waiting (made.filled unfilled (made.goes_on turn same)) unsent queue empty =
        acts.by_taking_up msg m.held rest (first_due p m unsent queue none msg rest held fill in_hand waiting) fill
        (the_first refl waiting)
        (acts.fill_goes_on turn (as_messages (record m { waiting = rest; fill = Some msg }) same unsent queue))
    by_first msg rest held fill in_hand waiting (made.filled unfilled (made.ended turn same)) unsent queue empty =
        acts.by_taking_up msg m.held rest (first_due p m unsent queue none msg rest held fill in_hand waiting) fill
        (the_first refl waiting)
        (acts.fill_ends turn (as_messages (record m { waiting = rest; fill = None }) same unsent queue))

    not_taken : (found_none : Bool) (queue : List Msg) (few : Bool) → (found_none ≡ true → queue ≡ [])
        → (found_none ≡ true) ⊎ (few ≡ false) → (if has_any queue && few then TakeStep else FillStep) ≡ FillStep
    not_taken found_none queue few empty (inl found) =
        ap (λ (l : List Msg). if has_any l && few then TakeStep else FillStep) (empty found)
    not_taken found_none [] few empty (inr full) = refl
    not_taken found_none (x ∷ l) few empty (inr full) = ap (λ b. if b then TakeStep else FillStep) full

    -- the fill makes its turn, where no message was found or no more can wait
    pub by_fill : (msg : Msg) → m.held ≡ None → m.fill ≡ Some msg
        → (m.found_none ≡ true) ⊎ (nat_lt (length m.waiting) 16 ≡ false) → FillMade told p q msg m t
        → ActsNow told p q m t
    by_fill msg held fill looked done unsent queue empty =
        acts.by_fill msg (fill_due p m unsent queue none msg held fill
        ∙ not_taken m.found_none queue (nat_lt (length m.waiting) 16) empty looked) fill (go done)
      where
        go : FillMade told p q msg m t
            → FillActsOn told (driven_by p m unsent queue) msg (driven_by q t unsent queue)
        go (made.goes_on turn same) = acts.fill_goes_on turn
            (as_messages (record m { fill = Some msg }) same unsent queue
            ∙ ap (λ o. messages_by (record m { fill = o }) unsent queue) (sym fill))
        go (made.ended turn same) = acts.fill_ends turn
            (as_messages (record m { fill = None }) same unsent queue)

-- Nothing was made before the queue is looked at.
module _ (p : StoreState) (s m : MetadataState) (none : p.job ≡ None) (joined : HasJoined p s m)
    (alone : m.waiting ≡ [] → m ≡ s) (held : m.held ≡ None)
    (free : m.fill ≡ None → is_in_use (stage_in_run (p.rows 16).stage) ≡ false) where
  taken : (queue : List Msg) (waiting : ℕ) → has_any queue ≡ true → waiting < 16
      → (if has_any queue && nat_lt waiting 16 then TakeStep else FillStep) ≡ TakeStep
  taken queue waiting some few = ap (λ b. if b && nat_lt waiting 16 then TakeStep else FillStep) some
      ∙ ap (λ b. if b then TakeStep else FillStep) (lt-ltb waiting 16 few)

  pub looks : ((m.fill ≡ None) × (m.waiting ≡ []))
      ⊎ ((s.found_none ≡ false) × (m.fill ≢ None) × (length m.waiting < 16)) → LooksForMessage p s m
  looks (inl x) = record {
    joined = joined;
    takes = λ unsent queue some. ap (λ (y : DrivenStore). due_in (run_of y)) (sym (joined unsent queue))
        ∙ take_due p m unsent queue none held x.0 (free x.0) x.1;
    ends = λ found unsent.
        let same = alone x.1 in
        nothing_left p s unsent [] none (ap (λ (y : MetadataState). y.held) (sym same) ∙ held)
        (ap (λ (y : MetadataState). y.fill) (sym same) ∙ x.0) (free x.0)
        (ap (λ (y : MetadataState). y.waiting) (sym same) ∙ x.1) refl;
  }
  looks (inr x) = record {
    joined = joined;
    takes = λ unsent queue some. ap (λ (y : DrivenStore). due_in (run_of y)) (sym (joined unsent queue))
        ∙ go unsent queue some m.fill refl;
    ends = λ found. let bad = sym found ∙ x.0 in absurd (cc bad);
  }
    where
      go : (unsent : ℕ → Option ℕ) (queue : List Msg) → has_any queue ≡ true → (o : Option Msg) → m.fill ≡ o
          → due_in (run_of (driven_by p m unsent queue)) ≡ TakeStep
      go unsent queue some None fill = absurd (x.1 fill)
      go unsent queue some (Some msg) fill =
          fill_due p m unsent queue none msg held fill ∙ taken queue (length m.waiting) some x.2

-- fewer than 16 commands wait then
pub few_wait : (x : MetadataState) → ((x.fill ≡ None) × (x.waiting ≡ []))
    ⊎ ((x.found_none ≡ false) × (x.fill ≢ None) × (length x.waiting < 16)) → length x.waiting < 16
few_wait x (inl none) =
    let e : length x.waiting ≡ 0 = ap (λ (l : List Msg). length l) none.1 in omega (arith, e)
few_wait x (inr few) = few.2

-- nothing is held where a message is looked for first
pub first_held : (job : Option JobState) (x : MetadataState) → looks_first job x ≡ true → x.held ≡ None
first_held job x is = go (not (is_some job)) x.held (is_some x.fill) (nat_lt (length x.waiting) 16) is
  where
    go : (j : Bool) (o : Option Msg) (f w : Bool) → (j && is_empty o && f && w) ≡ true → o ≡ None
    go j None f w is = refl
    go true (Some msg) f w is = absurd (cc is)
    go false (Some msg) f w is = absurd (cc is)
