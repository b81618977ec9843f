-- A driver's loops: what was followed so far, and one step more.
use Rattle.std.proofs.Common.{◌≡◌, ℕ, suc, ◌+◌, ◌<◌, false, true, List, [], ◌∷◌, ◌++◌, refl, sym, ap, subst, arith}
use Rattle.page_disk.specs.declared.disk.PageDisk.{Ghosts}
use Rattle.super_block.specs.declared.page.Super.{Super}
use Rattle.running_store.specs.StoreView.{StoreView}
use Rattle.run_work.specs.Following.{ActorInRun, ChannelActs, MetadataActs, Passes, Round, Rounds, Scheduled}
use Rattle.run_work.specs.RunLaws.{EndLaws}
use Rattle.run_work.specs.Steps.{all_ended, StepOf}
use Rattle.run_work.specs.Work.{work}
use Rattle.run_moves.specs.DrivenStore.{DrivenStore, run_of}
use Rattle.run_moves.specs.DriverSteps.{DriverStep, has_all_ended, StoreFollows}
use Rattle.run_moves.specs.Sizes.{sizes_of}
use Rattle.channels.specs.Driving.{driven, IsDriven, IsOfSameStore, Steps}
use Rattle.channels.specs.declared.driver.Driver.{Driver}
use Rattle.channels.proofs.Runs.{follows_as, joined, round_as}
use Rattle.channels.proofs.Stepping.{same_then}

module _ {D : Type 0} (d : Ghosts D) (first : Driver D) where
  -- steps of the store with which it began
  abbrev pub Step : ActorInRun → DrivenStore → DrivenStore → Type 0
  Step = Steps d.tells first.plant.opening.super

  same_super : (w : Driver D) → IsOfSameStore first w → w.plant.opening.super ≡ first.plant.opening.super
  same_super w store = ap (λ (o : StoreView D). o.super) store.opening

  -- what has been done of a schedule
  pub record Followed (actors : List ActorInRun) (w : Driver D) : Type 0 where
    pub is_driven : IsDriven d w
    pub store : IsOfSameStore first w
    pub run : Scheduled Step has_all_ended actors (driven d first) (driven d w)

  pub none_followed : IsDriven d first → Followed [] first
  none_followed is = record {
    is_driven = is;
    store = record { opening = refl; right = refl; name = refl };
    run = refl;
  }

  -- more of it
  pub followed_more : (actors more all : List ActorInRun) (w v : Driver D) → Followed actors w → actors ++ more ≡ all
      → Scheduled (Steps d.tells w.plant.opening.super) has_all_ended more (driven d w) (driven d v) → IsDriven d v
      → IsOfSameStore w v → Followed all v
  followed_more actors more all w v so is run still store = record {
    is_driven = still;
    store = same_then first w v so.store store;
    run = subst (λ l. Scheduled Step has_all_ended l (driven d first) (driven d v)) is
        (joined Step has_all_ended actors more (driven d first) (driven d w) (driven d v) so.run
        (subst (λ (s : Super). Scheduled (Steps d.tells s) has_all_ended more (driven d w) (driven d v))
        (same_super w so.store) run));
  }

  -- one step more
  pub followed_step : (actors all : List ActorInRun) (actor : ActorInRun) (w v : Driver D) → Followed actors w
      → actors ++ actor ∷ [] ≡ all → Steps d.tells w.plant.opening.super actor (driven d w) (driven d v) → IsDriven d v
      → IsOfSameStore w v → Followed all v
  followed_step actors all actor w v so is step still store =
      followed_more actors (actor ∷ []) all w v so is (driven d v, (step, refl)) still store

  -- the channels that were passed in a round
  pub record Passed (count : ℕ) (w : Driver D) : Type 0 where
    pub is_driven : IsDriven d w
    pub store : IsOfSameStore first w
    pub passes : Passes Step has_all_ended count (driven d first) (driven d w)

  pub none_passed : IsDriven d first → Passed 0 first
  none_passed is = record {
    is_driven = is;
    store = record { opening = refl; right = refl; name = refl };
    passes = refl;
  }

  here : (actor : ActorInRun) (w v : Driver D) → IsOfSameStore first w
      → Steps d.tells w.plant.opening.super actor (driven d w) (driven d v) → Step actor (driven d w) (driven d v)
  here actor w v store step =
      subst (λ (s : Super). Steps d.tells s actor (driven d w) (driven d v)) (same_super w store) step

  pub passed_more : (count : ℕ) (w v : Driver D) → Passed count w
      → Steps d.tells w.plant.opening.super (ChannelActs count) (driven d w) (driven d v) → IsDriven d v
      → IsOfSameStore w v → Passed (count + 1) v
  passed_more count w v so step still store =
      let one : count + 1 ≡ suc count = omega arith in
      record {
        is_driven = still;
        store = same_then first w v so.store store;
        passes = subst (λ n. Passes Step has_all_ended n (driven d first) (driven d v)) (sym one)
            (driven d w, (so.passes, here (ChannelActs count) w v so.store step));
      }

  pub round_made : (count : ℕ) (w v : Driver D) → count ≡ 16 → Passed count w
      → Steps d.tells w.plant.opening.super MetadataActs (driven d w) (driven d v)
      → Round Step has_all_ended (driven d first) (driven d v)
  round_made count w v all so step = (
    driven d w,
    (
      subst (λ n. Passes Step has_all_ended n (driven d first) (driven d w)) all so.passes,
      here MetadataActs w v so.store step,
    ),
  )

  -- the schedule, and rounds so far
  pub record Rounded (schedule : List ActorInRun) (w : Driver D) : Type 0 where
    pub is_driven : IsDriven d w
    pub store : IsOfSameStore first w
    pub mid : DrivenStore
    pub run : Scheduled Step has_all_ended schedule (driven d first) mid
    pub count : ℕ
    pub rounds : Rounds Step has_all_ended count mid (driven d w)

  pub none_rounded : (schedule : List ActorInRun) (w : Driver D) → IsDriven d w → IsOfSameStore first w
      → Scheduled Step has_all_ended schedule (driven d first) (driven d w) → Rounded schedule w
  none_rounded schedule w is store run =
      record { is_driven = is; store = store; mid = driven d w; run = run; count = 0; rounds = refl }

  pub rounded_more : (schedule : List ActorInRun) (w v : Driver D) → Rounded schedule w
      → has_all_ended (driven d w) ≡ false
      → Round (Steps d.tells w.plant.opening.super) has_all_ended (driven d w) (driven d v) → IsDriven d v
      → IsOfSameStore w v → Rounded schedule v
  rounded_more schedule w v so live round still store = record {
    is_driven = still;
    store = same_then first w v so.store store;
    mid = so.mid;
    run = so.run;
    count = suc so.count;
    rounds = (
      driven d w,
      (
        so.rounds,
        (
          live,
          subst (λ (s : Super).
              Round (Steps d.tells s) has_all_ended (driven d w) (driven d v)) (same_super w so.store) round,
        ),
      ),
    );
  }

  -- all have ended then
  pub rounded_over : (schedule : List ActorInRun) (w : Driver D) → Rounded schedule w
      → has_all_ended (driven d w) ≡ true → StoreFollows d.tells schedule (driven d first) (driven d w)
  rounded_over schedule w so over =
      follows_as Step (DriverStep d.tells) has_all_ended has_all_ended (λ x. x) (λ a x y step. step.driver)
      (λ x. refl) schedule (driven d first) (driven d w)
      (record { mid = so.mid; scheduled = so.run; count = so.count; rounds = so.rounds; ended_then = over })

  -- a round lowers the work
  pub round_lowers : EndLaws → (w v : Driver D) → IsOfSameStore first w → IsDriven d w
      → has_all_ended (driven d w) ≡ false
      → Round (Steps d.tells w.plant.opening.super) has_all_ended (driven d w) (driven d v)
      → work (sizes_of first.plant.opening.super) (run_of (driven d v))
      < work (sizes_of first.plant.opening.super) (run_of (driven d w))
  round_lowers laws w v store is live round =
      laws.round (sizes_of first.plant.opening.super) (run_of (driven d w)) (run_of (driven d v)) (omega arith) is.run
      live
      (round_as Step (StepOf (sizes_of first.plant.opening.super)) has_all_ended all_ended run_of
      (λ a x y step. step.run) (driven d w) (driven d v)
      (subst (λ (s : Super). Round (Steps d.tells s) has_all_ended (driven d w) (driven d v)) (same_super w store)
      round))
