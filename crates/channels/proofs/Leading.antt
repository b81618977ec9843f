-- The steps of a run a step at a time are turns of its store, one after another.
use Rattle.std.proofs.Common.{◌≡◌, ◌⊎◌, inl, inr, ℕ, zero, suc, Bool, List, [], ◌∷◌, ap, subst}
use Rattle.store_model.specs.StoreState.{StoreState}
use Rattle.md_thread.specs.Leading.{Leads, stays, TurnsOnceOrStays}
use Rattle.md_thread.proofs.Leading.{leads_on, leads_once}
use Rattle.md_thread.proofs.TurnsRepaired.{led, SomeTurn}
use Rattle.run_work.specs.Following.{ActorInRun, ChannelActs, MetadataActs, Passes, Round, Rounds, Scheduled}
use Rattle.run_moves.specs.DrivenStore.{driven_at_start, DrivenStore}
use Rattle.run_moves.specs.DriverSteps.{DriverStep, has_all_ended, StoreFollows}
use Rattle.channels.specs.StepwiseRuns.{RunsStepwise}
use Rattle.channels.proofs.Keeping.{turn_or_none}

module _ (told : Bool) where
  once_or_stays : (p q : StoreState) → SomeTurn told p q ⊎ (q ≡ p) → TurnsOnceOrStays told p q
  once_or_stays p q (inl turn) = led told p q turn
  once_or_stays p q (inr is) = stays is

  abbrev LeadStores : DrivenStore → DrivenStore → Type 0
  LeadStores w v = Leads told w.store v.store

  step_leads : (actor : ActorInRun) (w v : DrivenStore) → DriverStep told actor w v → LeadStores w v
  step_leads actor w v step =
      leads_once told w.store v.store (once_or_stays w.store v.store (turn_or_none told w v actor step))

  none_leads : (w v : DrivenStore) → v ≡ w → LeadStores w v
  none_leads w v is = leads_once told w.store v.store (stays (ap (λ (x : DrivenStore). x.store) is))

  led_on : (w v u : DrivenStore) → LeadStores w v → LeadStores v u → LeadStores w u
  led_on w v u one two = leads_on told w.store v.store u.store one two

  scheduled_leads : (actors : List ActorInRun) (w v : DrivenStore)
      → Scheduled (DriverStep told) has_all_ended actors w v → LeadStores w v
  scheduled_leads [] w v is = none_leads w v is
  scheduled_leads (actor ∷ actors) w v run =
      led_on w run.0 v (step_leads actor w run.0 run.1.0) (scheduled_leads actors run.0 v run.1.1)

  passes_lead : (n : ℕ) (w v : DrivenStore) → Passes (DriverStep told) has_all_ended n w v → LeadStores w v
  passes_lead zero w v is = none_leads w v is
  passes_lead (suc n) w v run =
      led_on w run.0 v (passes_lead n w run.0 run.1.0) (step_leads (ChannelActs n) run.0 v run.1.1)

  round_leads : (w v : DrivenStore) → Round (DriverStep told) has_all_ended w v → LeadStores w v
  round_leads w v run = led_on w run.0 v (passes_lead 16 w run.0 run.1.0) (step_leads MetadataActs run.0 v run.1.1)

  rounds_lead : (n : ℕ) (w v : DrivenStore) → Rounds (DriverStep told) has_all_ended n w v → LeadStores w v
  rounds_lead zero w v is = none_leads w v is
  rounds_lead (suc n) w v run =
      led_on w run.0 v (rounds_lead n w run.0 run.1.0) (round_leads run.0 v run.1.1.1)

  follows_leads : (actors : List ActorInRun) (w v : DrivenStore) → StoreFollows told actors w v → LeadStores w v
  follows_leads actors w v run =
      led_on w run.mid v (scheduled_leads actors w run.mid run.scheduled) (rounds_lead run.count run.mid v run.rounds)

  -- a run a step at a time is turns, one after another
  pub stepwise_leads : (actors : List ActorInRun) (p q : StoreState) → RunsStepwise told actors p q → Leads told p q
  stepwise_leads actors p q run =
      subst (λ (s : StoreState). Leads told p s) run.is (follows_leads actors (driven_at_start p) run.last run.follows)
