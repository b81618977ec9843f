-- The step of the metadata thread, by what its calls answer.
use Rattle.std.proofs.Common.{◌≡◌, ℕ, Bool, true, false, ◌||◌, List, [], ◌∷◌, ◌++◌, Option, Some, None, refl, sym}
use Rattle.std.proofs.Common.{ap, ◌∙◌}
use Rattle.std.proofs.Common.{subst, inl, inr}
use Rattle.std.specs.Prelude.{if◌then◌else◌}
use Rattle.std.proofs.lemmas.Bool.{cases_Bool, false≢true}
use Rattle.volume_model.specs.declared.reply.Msg.{Msg}
use Rattle.store_model.specs.StoreState.{StoreState}
use Rattle.run_work.specs.Following.{MetadataActs}
use Rattle.run_work.specs.Reading.{has_any, is_in_use, is_there}
use Rattle.run_work.specs.RunLaws.{DueLaws, FactLaws}
use Rattle.run_work.specs.RunState.{JobInRun, RunState}
use Rattle.run_work.specs.Steps.{at_turn, can_metadata, has_to_wait, queued_behind}
use Rattle.run_moves.specs.DrivenStore.{DrivenStore, run_of}
use Rattle.run_moves.specs.DriverSteps.{by_closing, by_failed_fill, by_fill, by_job, by_message, by_taking}
use Rattle.run_moves.specs.DriverSteps.{by_taking_up, driven_at_turn, DriverStep, MetadataActsOn}
use Rattle.run_moves.proofs.DriverMoves.{turn_is}
use Rattle.md_thread.specs.Holding.{driven_by, IsKept, KeepsMessage, LooksForMessage, MakesStep, messages_by}
use Rattle.md_thread.specs.Holding.{MetadataState}
use Rattle.page_disk.specs.declared.disk.PageDisk.{Ghosts}
use Rattle.store_model.specs.Filling.{IsFilledFor}
use Rattle.running_store.specs.StoreView.{rows_of, state_of, StoreView}
use Rattle.run_work.specs.RunFacts.{in_queue, is_filled_for, is_held, is_waiting, IsOnTheWay, not_sent, RunFacts}
use Rattle.run_moves.specs.FillTurns.{HoldsFill}
use Rattle.channels.proofs.Acting.{none_joins, posted_stage}

-- ---- a step that is due can be made: one of six is there

second : (a c d e f : Bool) → (a || true || c || d || e || f) ≡ true
second true c d e f = refl
second false c d e f = refl

third : (a b d e f : Bool) → (a || b || true || d || e || f) ≡ true
third true b d e f = refl
third false true d e f = refl
third false false d e f = refl

fourth : (a b c e f : Bool) → (a || b || c || true || e || f) ≡ true
fourth true b c e f = refl
fourth false true c e f = refl
fourth false false true e f = refl
fourth false false false e f = refl

fifth : (a b c d f : Bool) → (a || b || c || d || true || f) ≡ true
fifth true b c d f = refl
fifth false true c d f = refl
fifth false false true d f = refl
fifth false false false true f = refl
fifth false false false false f = refl

sixth : (a b c d e : Bool) → (a || b || c || d || e || true) ≡ true
sixth true b c d e = refl
sixth false true c d e = refl
sixth false false true d e = refl
sixth false false false true e = refl
sixth false false false false true = refl
sixth false false false false false = refl

last_some : (l : List Msg) (m : Msg) → has_any (l ++ m ∷ []) ≡ true
last_some [] m = refl
last_some (x ∷ xs) m = refl

module _ (w : RunState) where
  abbrev used : Bool
  used = is_in_use (w.rows 16).stage

  by_held : (m : Msg) → w.held ≡ Some m → can_metadata w ≡ true
  by_held m is = ap (λ (o : Option Msg). is_there w.job || is_there o || has_any w.queue || has_any w.waiting
      || is_there w.fill || used) is
      ∙ second (is_there w.job) (has_any w.queue) (has_any w.waiting) (is_there w.fill) used

  by_queue : has_any w.queue ≡ true → can_metadata w ≡ true
  by_queue is = ap (λ b. is_there w.job || is_there w.held || b || has_any w.waiting || is_there w.fill || used) is
      ∙ third (is_there w.job) (is_there w.held) (has_any w.waiting) (is_there w.fill) used

  by_waiting : has_any w.waiting ≡ true → can_metadata w ≡ true
  by_waiting is = ap (λ b. is_there w.job || is_there w.held || has_any w.queue || b || is_there w.fill || used) is
      ∙ fourth (is_there w.job) (is_there w.held) (has_any w.queue) (is_there w.fill) used

  by_filling : (m : Msg) → w.fill ≡ Some m → can_metadata w ≡ true
  by_filling m is = ap (λ (o : Option Msg). is_there w.job || is_there w.held || has_any w.queue || has_any w.waiting
      || is_there o || used) is
      ∙ fifth (is_there w.job) (is_there w.held) (has_any w.queue) (has_any w.waiting) used

  pub by_use : used ≡ true → can_metadata w ≡ true
  by_use is = ap
      (λ b. is_there w.job || is_there w.held || has_any w.queue || has_any w.waiting || is_there w.fill || b)
      is ∙ sixth (is_there w.job) (is_there w.held) (has_any w.queue) (has_any w.waiting) (is_there w.fill)

  by_running : (job : JobInRun) → w.job ≡ Some job → can_metadata w ≡ true
  by_running job is = ap (λ (o : Option JobInRun). is_there o || is_there w.held || has_any w.queue || has_any w.waiting
      || is_there w.fill || used) is

  -- that a command comes to wait changes nothing of it
  pub before_turn : can_metadata (at_turn w) ≡ true → can_metadata w ≡ true
  before_turn = go (has_to_wait w) w.held refl
    where
      go : (b : Bool) (o : Option Msg) → w.held ≡ o
          → can_metadata (if b then queued_behind w o else w) ≡ true → can_metadata w ≡ true
      go true None is can = can
      go true (Some m) is can = by_held m is
      go false o is can = can

-- a step that is due
can_by : (laws : DueLaws) (told : Bool) (w v : DrivenStore) → MetadataActsOn told w v → can_metadata (run_of w) ≡ true
can_by laws told w v (by_job due t same) = let x = laws.job (run_of w) due in by_running (run_of w) x.0 x.1
can_by laws told w v (by_failed_fill due t same) = let x = laws.job (run_of w) due in by_running (run_of w) x.0 x.1
can_by laws told w v (by_closing due t same) = by_use (run_of w) (laws.close (run_of w) due).2
can_by laws told w v (by_fill message due fill acts) = by_filling (run_of w) message fill
can_by laws told w v (by_message message held waiting due takes t same) =
    elim (laws.message (run_of w) message due).1 [
      | inl x ↦ by_held (run_of w) message x
      | inr x ↦ by_waiting (run_of w) (ap (λ (l : List Msg). has_any l) x.2)
    ]
can_by laws told w v (by_taking_up message held waiting due none takes acts) =
    elim (laws.message (run_of w) message due).1 [
      | inl x ↦ by_held (run_of w) message x
      | inr x ↦ by_waiting (run_of w) (ap (λ (l : List Msg). has_any l) x.2)
    ]
can_by laws told w v (by_taking front rest due queue next) =
    by_queue (run_of w) (ap (λ (l : List Msg). has_any l) queue)

-- ---- the step

module _ (laws : DueLaws) (told : Bool) (w v : DrivenStore) where
  -- a turn was made
  pub acts_due : MetadataActsOn told (driven_at_turn w) v → DriverStep told MetadataActs w v
  acts_due acts = inl (
    before_turn (run_of w) (subst (λ x. can_metadata x ≡ true) (turn_is w)
        (can_by laws told (driven_at_turn w) v acts)),
    acts,
  )

module _ (laws : DueLaws) (told : Bool) (p : StoreState) (s t : MetadataState) (unsent : ℕ → Option ℕ)
    (looks : LooksForMessage p s t) (none : t.held ≡ None) where
  abbrev w : List Msg → DrivenStore
  w queue = driven_by p s unsent queue

  -- none was, and the front message is taken, behind which this is kept
  pub takes_front : (u : MetadataState) (front : Msg) (rest : List Msg)
      → u.held ≡ Some front → u.waiting ≡ t.waiting → u.fill ≡ t.fill
      → DriverStep told MetadataActs (w (front ∷ rest)) (driven_by p u unsent rest)
  takes_front u front rest held waiting fill = acts_due laws told (w (front ∷ rest)) (driven_by p u unsent rest)
      (by_taking front rest (looks.takes unsent (front ∷ rest) refl)
      (ap (λ (x : DrivenStore). x.messages.queue) (sym (looks.joined unsent (front ∷ rest))))
      ((λ i. record {
        store = p;
        messages = record { unsent = unsent; queue = rest; held = held i; waiting = waiting i; fill = fill i };
      }) ∙ ap (λ (x : DrivenStore). record x {
        messages = record x.messages { queue = rest; held = Some front };
      }) (looks.joined unsent (front ∷ rest))))

  module _ (u : MetadataState) (held : u.held ≡ None) (waiting : u.waiting ≡ t.waiting) (fill : u.fill ≡ t.fill) where
    -- the messages then, where none was queued
    same_then : driven_by p u unsent [] ≡ driven_at_turn (w [])
    same_then = (λ i. record {
      store = p;
      messages = record {
        unsent = unsent;
        queue = [];
        held = (held ∙ sym none) i;
        waiting = waiting i;
        fill = fill i;
      };
    }) ∙ looks.joined unsent []

    -- a turn of the fill was made
    pub fills_then : (q : StoreState) (after : MetadataState) → MakesStep told p u q after
        → DriverStep told MetadataActs (w []) (driven_by q after unsent [])
    fills_then q after makes = acts_due laws told (w []) (driven_by q after unsent [])
        (subst (λ (x : DrivenStore). MetadataActsOn told x (driven_by q after unsent []))
        (none_joins (driven_by p u unsent []) held ∙ same_then) (makes unsent [] (λ _. refl)))

    -- nothing could be done
    pub rests_then : (after : MetadataState) → u.found_none ≡ true → LooksForMessage p u after
        → DriverStep told MetadataActs (w []) (driven_by p after unsent [])
    rests_then after found again = inr (
      cannot,
      again.joined unsent [] ∙ none_joins (driven_by p u unsent []) held ∙ same_then ∙ none_joins (w []) free,
    )
      where
        after_turn : can_metadata (run_of (w [])) ≡ true → can_metadata (run_of (driven_at_turn (w []))) ≡ true
        after_turn can = subst (λ x. can_metadata x ≡ true) (sym (turn_is (w [])))
            (go (has_to_wait (run_of (w []))) s.held refl)
          where
            go : (b : Bool) (o : Option Msg) → s.held ≡ o
                → can_metadata (if b then queued_behind (run_of (w [])) o else run_of (w [])) ≡ true
            go true None is = can
            go true (Some m) is = by_waiting (queued_behind (run_of (w [])) (Some m)) (last_some s.waiting m)
            go false o is = can

        cannot : can_metadata (run_of (w [])) ≡ false
        cannot = elim (cases_Bool (can_metadata (run_of (w [])))) [
          | inl can ↦ absurd (false≢true (sym (again.ends found unsent)
              ∙ ap (λ (x : DrivenStore). can_metadata (run_of x)) same_then ∙ after_turn can))
          | inr not ↦ not
        ]

        free : s.held ≡ None
        free = by s.held refl
          where
            by : (o : Option Msg) → s.held ≡ o → s.held ≡ None
            by None is = is
            by (Some m) is = absurd (false≢true (sym cannot ∙ by_held (run_of (w [])) m is))

-- ---- what is known of its messages

-- a message that it keeps is on its way
kept_way : (p : StoreState) (s : MetadataState) (unsent : ℕ → Option ℕ) (queue : List Msg) (m : Msg) → KeepsMessage s m
    → IsOnTheWay (run_of (driven_by p s unsent queue)) m
kept_way p s unsent queue m (not_sent is) = absurd (cc is)
kept_way p s unsent queue m (in_queue is) = absurd is
kept_way p s unsent queue m (is_held is) = is_held is
kept_way p s unsent queue m (is_waiting is) = is_waiting is
kept_way p s unsent queue m (is_filled_for is) = is_filled_for is

module _ {D : Type 0} (d : Ghosts D) (p : StoreView D) (s : MetadataState) (unsent : ℕ → Option ℕ) (queue : List Msg)
    (laws : FactLaws) (facts : RunFacts (run_of (driven_by (state_of d p) s unsent queue))) where
  pub is_kept : ((msg : Msg) → s.fill ≡ Some msg → IsFilledFor (rows_of p.rows msg.channel))
      → HoldsFill (state_of d p) (messages_by s unsent queue) → IsKept d p s
  is_kept asked works = record {
    current = λ msg keeps.
        let x = laws.posted (run_of (driven_by (state_of d p) s unsent queue)) msg facts
        (kept_way (state_of d p) s unsent queue msg keeps) in
        (x.0, posted_stage (rows_of p.rows msg.channel).stage msg.serial x.1);
    asked = asked;
    works = works;
  }
