-- Steps by a schedule put together, and steps seen as steps of another kind.
use Rattle.std.proofs.Common.{◌≡◌, ℕ, zero, suc, Bool, List, [], ◌∷◌, ◌++◌, refl, ◌∙◌, ap, subst}
use Rattle.run_work.specs.Following.{ActorInRun, ChannelActs, Follows, MetadataActs, Passes, Round, Rounds, Scheduled}

-- ---- one after the other

module _ {S : Type 0} (Step : ActorInRun → S → S → Type 0) (ended : S → Bool) where
  -- two schedules
  pub joined : (first second : List ActorInRun) (w mid v : S) → Scheduled Step ended first w mid
      → Scheduled Step ended second mid v → Scheduled Step ended (first ++ second) w v
  joined [] second w mid v is run = subst (λ x. Scheduled Step ended second x v) is run
  joined (a ∷ first) second w mid v run more = (run.0, (run.1.0, joined first second run.0 mid v run.1.1 more))

  -- a schedule and one step more
  pub one_more : (first : List ActorInRun) (a : ActorInRun) (w mid v : S) → Scheduled Step ended first w mid
      → Step a mid v → Scheduled Step ended (first ++ a ∷ []) w v
  one_more first a w mid v run step = joined first (a ∷ []) w mid v run (v, (step, refl))

-- ---- steps of another kind

module _ {S T : Type 0} (Step : ActorInRun → S → S → Type 0) (Other : ActorInRun → T → T → Type 0) (ended : S → Bool)
    (over : T → Bool) (f : S → T) (each : (a : ActorInRun) (w v : S) → Step a w v → Other a (f w) (f v)) where
  pub passes_as : (n : ℕ) (w v : S) → Passes Step ended n w v → Passes Other over n (f w) (f v)
  passes_as zero w v is = ap f is
  passes_as (suc n) w v run = (f run.0, (passes_as n w run.0 run.1.0, each (ChannelActs n) run.0 v run.1.1))

  pub round_as : (w v : S) → Round Step ended w v → Round Other over (f w) (f v)
  round_as w v run = (f run.0, (passes_as 16 w run.0 run.1.0, each MetadataActs run.0 v run.1.1))

  pub scheduled_as : (l : List ActorInRun) (w v : S) → Scheduled Step ended l w v → Scheduled Other over l (f w) (f v)
  scheduled_as [] w v is = ap f is
  scheduled_as (a ∷ l) w v run = (f run.0, (each a w run.0 run.1.0, scheduled_as l run.0 v run.1.1))

  module _ (same : (w : S) → over (f w) ≡ ended w) where
    pub rounds_as : (n : ℕ) (w v : S) → Rounds Step ended n w v → Rounds Other over n (f w) (f v)
    rounds_as zero w v is = ap f is
    rounds_as (suc n) w v run =
        (f run.0, (rounds_as n w run.0 run.1.0, (same run.0 ∙ run.1.1.0, round_as run.0 v run.1.1.1)))

    pub follows_as : (l : List ActorInRun) (w v : S) → Follows Step ended l w v → Follows Other over l (f w) (f v)
    follows_as l w v run = record {
      mid = f run.mid;
      scheduled = scheduled_as l w run.mid run.scheduled;
      count = run.count;
      rounds = rounds_as run.count run.mid v run.rounds;
      ended_then = same v ∙ run.ended_then;
    }
