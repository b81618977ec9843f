-- What is planned next for an inflate or a decouple is what the command asks for.
use Rattle.std.proofs.Common.{◌≡◌, Result, Ok, Err, None, sym, subst}
use Rattle.std.specs.Prelude.{IfOk, IfErr}
use Rattle.std.specs.Ordering.{nat_cmp}
use Rattle.std.specs.FinMap as map
use Rattle.page_disk.specs.declared.disk.PageDisk.{Ghosts}
use Rattle.volume_model.specs.Steps.{MayLackMemory}
use Rattle.volume_model.specs.Volumes.{Fixed, Volumes}
use Rattle.volume_model.specs.declared.command.Command.{Command}
use Rattle.volume_model.specs.declared.command.Command.TheVariants as c
use Rattle.volume_model.specs.declared.reply.Reply.{Reply}
use Rattle.super_block.specs.declared.page.Super.{Super}
use Rattle.blob_meta.specs.Repairs.{HasNoMarks}
use Rattle.blob_meta.specs.ShownBy.{IsFirstRefusal, ShowsMetas}
use Rattle.blob_meta.specs.declared.meta.Meta.{Meta}
use Rattle.blob_meta.proofs.Shown.{heads_fit}
use Rattle.lvol_store.specs.FillPlans.{FillsAsAsked, IsFill}
use Rattle.lvol_store.specs.SlotPlans.{RefusesFirst}
use Rattle.lvol_store.specs.declared.filling.FillPlan.{FillPlan}
use Rattle.lvol_store.specs.declared.filling.FillPlan.TheVariants as plan
use Rattle.store_model.specs.Cases.{IsRefusedBy}
use Rattle.store_model.specs.Shown.{fixed_of}
use Rattle.store_model.specs.StoreState.{shown}
use Rattle.running_store.specs.RunningState.{IsRunning}
use Rattle.running_store.specs.StoreView.{AreResolved, base_of, state_of, StoreView}
use Rattle.store_core.specs.Planning.{PlanLaws}
use Rattle.md_thread.specs.Tasks.{IsFillPlanOf}
use Rattle.md_thread.proofs.PlannedSlots.{refused_first}

may_lack : (f : Fixed) (v : Volumes) (command : Command) → IsFill command → MayLackMemory f v command
may_lack f v (c.Inflate volume) is = tt
may_lack f v (c.Decouple volume) is = tt
may_lack f v _ is = absurd is

module _ {D : Type 0} (d : Ghosts D) (laws : PlanLaws d) (p : StoreView D) (running : IsRunning (state_of d p))
    (runs : p.stopped ≡ None) (are : AreResolved p.metas p.marked) (clean : HasNoMarks (base_of p.metas p.marked)) where
  shows : ShowsMetas (fixed_of p.super) p.super p.metas (shown (state_of d p))
  shows = laws.shows_all p running runs are

  asks : (command : Command) (next : FillPlan) → FillsAsAsked p.metas p.super command next
      → IsFirstRefusal p.metas p.super command None → IsFillPlanOf d p command next
  asks command (plan.Slot slot) asked first =
      subst (λ (k : Command). IsFillPlanOf d p k (plan.Slot slot)) (sym asked.command_is)
      (laws.fill p asked.kind asked.volume asked.head slot running runs are asked.meant
      (subst (λ (k : Command). IsFirstRefusal p.metas p.super k None) asked.command_is first)
      (asked.is (heads_fit (fixed_of p.super) p.super p.metas (shown (state_of d p)) shows)))
  asks command (plan.Last job) asked first =
      let is = asked.is (heads_fit (fixed_of p.super) p.super p.metas (shown (state_of d p)) shows) in
      subst (λ (k : Command). IsFillPlanOf d p k (plan.Last job)) (sym asked.command_is)
      (laws.last p asked.kind asked.volume asked.head job running runs are clean asked.meant
      (subst (λ (k : Command). IsFirstRefusal p.metas p.super k None) asked.command_is first) is.0 is.1)

  module _ (metas : map.FinMap nat_cmp Meta) (sup : Super) (m : metas ≡ p.metas) (s : sup ≡ p.super)
      (command : Command) where
    given : (P : map.FinMap nat_cmp Meta → Super → Type 0) → P metas sup → P p.metas p.super
    given P x =
        subst (λ (sup : Super). P p.metas sup) s (subst (λ (metas : map.FinMap nat_cmp Meta). P metas sup) m x)

    -- a slot or a job that the command asks for
    pub fill_plan : (planned : Result FillPlan Reply) → IfOk planned (FillsAsAsked metas sup command)
        → IfOk planned (λ next. IsFirstRefusal metas sup command None) → IfOk planned (IsFillPlanOf d p command)
    fill_plan (Ok next) asked first = asks command next (given (λ m s. FillsAsAsked m s command next) asked)
        (given (λ m s. IsFirstRefusal m s command None) first)
    fill_plan (Err reply) asked first = tt

    -- or it is refused for its first cause or for want of memory
    pub fill_refused : IsFill command → (planned : Result FillPlan Reply)
        → IfErr planned (RefusesFirst metas sup command) → IfErr planned (IsRefusedBy (state_of d p) command)
    fill_refused is (Ok next) refuses = tt
    fill_refused is (Err reply) refuses = refused_first d p command reply shows
        (may_lack (fixed_of p.super) (shown (state_of d p)) command is)
        (given (λ m s. RefusesFirst m s command reply) refuses)
