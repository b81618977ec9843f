-- While an actor hasn't ended, some actor can move; and behind that none can.
use Rattle.std.proofs.Common.{◌≡◌, ◌⊎◌, inl, inr, ℕ, zero, suc, ◌<◌, nat_lt, Option, Some, None, Bool, true, false}
use Rattle.std.proofs.Common.{◌&&◌, ◌||◌, not, List, [], ◌∷◌, length, refl, sym, ◌∙◌, ap, subst, arith}
use Rattle.std.proofs.lemmas.Bool.Decides.{eqb_tells, nat_tests}
use Rattle.volume_model.specs.declared.reply.Msg.{Msg}
use Rattle.run_work.specs.Steps.{all_ended, can_at, can_channel, can_metadata, can_move, can_send, ended_below}
use Rattle.run_work.specs.Steps.{has_ended, is_free_at}
use Rattle.run_work.specs.RunState.{AtClaiming, AtCopying, AtDecided, AtEnded, AtIdle, AtInJob, AtPosted, AtReady}
use Rattle.run_work.specs.RunState.{CommandInRun, DeviceFlush, FoundHeads, MetadataCommand, PageRead, PageWrite}
use Rattle.run_work.specs.RunState.{RowsInRun, RunState, StageInRun}
use Rattle.run_work.specs.Reading.{has_any, is_frozen_at, is_in_use, is_there, meets_frozen}
use Rattle.run_work.specs.Work.{one_if}
use Rattle.run_work.specs.Following.{ActorInRun, ChannelActs, MetadataActs}
use Rattle.run_work.specs.RunFacts.{awaited, is_from, occurs, RunFacts}

-- what holds of a metadata thread that can't move
record IsIdle (w : RunState) : Type 0 where
  job : w.job ≡ None
  held : w.held ≡ None
  queue : w.queue ≡ []
  waiting : w.waiting ≡ []
  fill : w.fill ≡ None

idle_by : (a b c d e f : Bool) → (a || b || c || d || e || f) ≡ false
    → (a ≡ false) × (b ≡ false) × (c ≡ false) × (d ≡ false) × (e ≡ false)
idle_by false false false false false f is = (refl, refl, refl, refl, refl)
idle_by true b c d e f is = absurd (cc is)
idle_by false true c d e f is = absurd (cc is)
idle_by false false true d e f is = absurd (cc is)
idle_by false false false true e f is = absurd (cc is)
idle_by false false false false true f is = absurd (cc is)

none_there : {X : Type 0} → (o : Option X) → is_there o ≡ false → o ≡ None
none_there None is = refl
none_there (Some x) is = absurd (cc is)

none_in : (l : List Msg) → has_any l ≡ false → l ≡ []
none_in [] is = refl
none_in (x ∷ l) is = absurd (cc is)

idle : (w : RunState) → can_metadata w ≡ false → IsIdle w
idle w is =
    let all = idle_by (is_there w.job) (is_there w.held) (has_any w.queue) (has_any w.waiting) (is_there w.fill)
    (is_in_use (w.rows 16).stage) is in
    record {
      job = none_there w.job all.0;
      held = none_there w.held all.1;
      queue = none_in w.queue all.2;
      waiting = none_in w.waiting all.3;
      fill = none_there w.fill all.4;
    }

-- ---- a channel

free_at : (frozen : ℕ → Bool) → ((h : ℕ) → frozen h ≡ false) → (o : Option ℕ) → is_frozen_at frozen o ≡ false
free_at frozen none None = refl
free_at frozen none (Some head) = none head

free_by : (frozen : ℕ → Bool) (finds : FoundHeads) → ((h : ℕ) → frozen h ≡ false) → (l : List CommandInRun)
    → not (meets_frozen frozen finds l) ≡ true
free_by frozen finds none [] = refl
free_by frozen finds none (PageRead v ∷ l) = ap not (free_at frozen none (finds v))
free_by frozen finds none (PageWrite v s ∷ l) = ap not (free_at frozen none (finds v))
free_by frozen finds none (DeviceFlush ∷ l) = refl
free_by frozen finds none (MetadataCommand ∷ l) = refl

isnt_true : (t : Bool) → (t ≡ true → ⊥) → t ≡ false
isnt_true true no_true = absurd (no_true refl)
isnt_true false no_true = refl

able : (free sends : Bool) (s : StageInRun) → free ≡ true → ((n : ℕ) → s ≡ AtPosted n → sends ≡ true)
    → (s ≡ AtInJob → ⊥) → has_ended s ≡ false → can_at free sends s ≡ true
able free sends AtIdle w p j e = w
able free sends AtClaiming w p j e = w
able free sends (AtCopying n) w p j e = refl
able free sends AtReady w p j e = refl
able free sends (AtPosted n) w p j e = p n refl
able free sends AtInJob w p j e = absurd (j refl)
able free sends AtDecided w p j e = refl
able free sends AtEnded w p j e = absurd (cc e)

below_is : (ch n : ℕ) → ch < n → nat_lt ch n ≡ true
below_is ch n low = grind (arith, nat_tests)

is_one : (t : Bool) → one_if t ≡ 1 → t ≡ true
is_one true is = refl
is_one false is = absurd (cc is)

-- a channel that hasn't ended can move while the metadata thread can't
pub can_go : (w : RunState) (ch : ℕ) → RunFacts w → can_metadata w ≡ false → ch < 16
    → has_ended (w.rows ch).stage ≡ false → can_channel w ch ≡ true
can_go w ch f stuck low goes =
    let i = idle w stuck in
    let free = free_by w.frozen w.finds
    (λ h. isnt_true (w.frozen h) (λ is. absurd (cc (sym (f.frozen h is).1 ∙ i.job)))) (w.rows ch).left in
    let in_job : (w.rows ch).stage ≡ AtInJob → ⊥ = λ is. absurd (cc (sym (f.in_job ch is).1 ∙ i.job)) in
    let sends : (n : ℕ) → (w.rows ch).stage ≡ AtPosted n
    → can_send w ch ≡ true = λ n is.
    let one = f.counted ch ∙ ap (awaited ch) is ∙ ap one_if (below_is ch 16 low) in
    let queue = ap (occurs ch) i.queue in
    let held = ap (is_from ch) i.held in
    let waiting = ap (occurs ch) i.waiting in
    let fill = ap (is_from ch) i.fill in
    let unsent : is_there (w.unsent ch) ≡ true =
    is_one (is_there (w.unsent ch)) (omega (arith, one, queue, held, waiting, fill)) in
    ap (λ t. t && nat_lt (length w.queue) 8) unsent ∙ ap (λ q. nat_lt (length q) 8) i.queue in
    ap (λ t. t && can_at (is_free_at w ch)
    (can_send w ch) (w.rows ch).stage) (below_is ch 16 low)
    ∙ able (is_free_at w ch) (can_send w ch)
    (w.rows ch).stage free sends in_job goes

-- ---- some actor, or none

first_live : (rows : RowsInRun) (n : ℕ)
    → (ended_below rows n ≡ true) ⊎ ((ch : ℕ) × ((ch < n) × (has_ended (rows ch).stage ≡ false)))
first_live rows zero = inl refl
first_live rows (suc n) = elim (first_live rows n) [
  | inl all ↦ by_last (has_ended (rows n).stage) refl all
  | inr one ↦ let low = one.1.0 in inr (one.0, (omega (arith, low), one.1.1))
]
  where
    by_last : (t : Bool) → has_ended (rows n).stage ≡ t → ended_below rows n ≡ true
        → (ended_below rows (suc n) ≡ true) ⊎ ((ch : ℕ) × ((ch < suc n) × (has_ended (rows ch).stage ≡ false)))
    by_last true is all = inl (ap (λ t. t && has_ended (rows n).stage) all ∙ is)
    by_last false is all = inr (n, (omega arith, is))

-- some actor can move while not all have ended
pub some_actor : (w : RunState) → RunFacts w → all_ended w ≡ false → (actor : ActorInRun) × (can_move w actor ≡ true)
some_actor w f live = go (can_metadata w) refl
  where
    go : (t : Bool) → can_metadata w ≡ t → (actor : ActorInRun) × (can_move w actor ≡ true)
    go true can = (MetadataActs, can)
    go false stuck = elim (first_live w.rows 16) [
      | inl all ↦ absurd (cc (sym live ∙ (ap (λ a. a && not (can_metadata w)) all ∙ ap not stuck)))
      | inr one ↦ (ChannelActs one.0, can_go w one.0 f stuck one.1.0 one.1.1)
    ]

both : (a b : Bool) → (a && b) ≡ true → (a ≡ true) × (b ≡ true)
both true b is = (refl, is)
both false b is = absurd (cc is)

not_true : (t : Bool) → not t ≡ true → t ≡ false
not_true true is = absurd (cc is)
not_true false is = refl

ended_at : (rows : RowsInRun) (n ch : ℕ) → ch < n → ended_below rows n ≡ true → has_ended (rows ch).stage ≡ true
ended_at rows zero ch low all = absurd (omega (arith, low))
ended_at rows (suc n) ch low all =
    let parts = both (ended_below rows n) (has_ended (rows n).stage) all in
    elim (eqb_tells ch n) [
      | inl e ↦ subst (λ k. has_ended (rows k).stage ≡ true) (sym e.1) parts.1
      | inr e ↦ let ne = e.1 in ended_at rows n ch (omega (arith, low, ne)) parts.0
    ]

cannot_at : (free sends : Bool) (s : StageInRun) → has_ended s ≡ true → can_at free sends s ≡ false
cannot_at free sends AtEnded is = refl
cannot_at free sends AtIdle is = absurd (cc is)
cannot_at free sends AtClaiming is = absurd (cc is)
cannot_at free sends (AtCopying n) is = absurd (cc is)
cannot_at free sends AtReady is = absurd (cc is)
cannot_at free sends (AtPosted n) is = absurd (cc is)
cannot_at free sends AtInJob is = absurd (cc is)
cannot_at free sends AtDecided is = absurd (cc is)

-- and none can once all have
pub no_actor : (w : RunState) (actor : ActorInRun) → all_ended w ≡ true → can_move w actor ≡ false
no_actor w MetadataActs all =
    not_true (can_metadata w) (both (ended_below w.rows 16) (not (can_metadata w)) all).1
no_actor w (ChannelActs ch) all = go (nat_lt ch 16) refl
  where
    go : (t : Bool) → nat_lt ch 16 ≡ t → (t
        && can_at (is_free_at w ch) (can_send w ch)
        (w.rows ch).stage) ≡ false
    go false is = refl
    go true is =
        cannot_at (is_free_at w ch) (can_send w ch)
        (w.rows ch).stage
        (ended_at w.rows 16 ch (grind (arith, nat_tests)) (both (ended_below w.rows 16) (not (can_metadata w)) all).0)
