-- What is planned for a command that brings attributes to the disk is what the command asks for.
use Rattle.std.proofs.Common.{◌≡◌, ℕ, Bool, true, false, Option, Some, None, [], Result, Ok, Err, refl}
use Rattle.std.proofs.Common.{sym, subst, ◌∙◌, inl, inr}
use Rattle.std.proofs.Common.{ap, arith}
use Rattle.std.proofs.lemmas.Bool.{cases_lt}
use Rattle.std.specs.Prelude.{IfOk, IfErr}
use Rattle.std.specs.Ordering.{nat_cmp}
use Rattle.std.specs.FinMap as map
use Rattle.page_disk.specs.declared.disk.PageDisk.{Ghosts}
use Rattle.volume_model.specs.Xattrs.{Text, Xattrs, with_value}
use Rattle.volume_model.specs.Refusals.{refusal}
use Rattle.volume_model.specs.declared.command.VolumeRef.{VolumeRef}
use Rattle.volume_model.specs.declared.command.Command.{Command}
use Rattle.volume_model.specs.declared.command.Command.TheVariants as c
use Rattle.volume_model.specs.declared.reply.Reply.{Reply}
use Rattle.volume_model.specs.declared.reply.Reply.TheVariants as r
use Rattle.super_block.specs.declared.page.Super.{Super}
use Rattle.blob_meta.specs.declared.meta.Meta.{Meta}
use Rattle.blob_meta.specs.declared.job.Job.{Job}
use Rattle.blob_meta.specs.Find.{is_meant, IsLeast}
use Rattle.blob_meta.specs.ShownBy.{IsHeadMeant}
use Rattle.blob_meta.specs.Parents.{read_only}
use Rattle.blob_meta.specs.Asked.{IsAttributeCause, IsFirstCause, IsLiveOf}
use Rattle.lvol_store.specs.Plans.{PlansPut, PlansReadOnly, PlansSync, RefusesPlan, Remakes}
use Rattle.store_model.specs.Shown.{fixed_of}
use Rattle.store_model.specs.StoreState.{shown}
use Rattle.store_model.specs.Asking.{AsksFor, IsSyncing, syncs}
use Rattle.store_model.specs.Cases.{IsRefusedBy}
use Rattle.metadata_turns.specs.Answering.{IsFound}
use Rattle.job_begins.specs.Begins.{IsJobOf}
use Rattle.running_store.specs.RunningState.{IsRunning}
use Rattle.store_core.specs.Planning.{HasBlob, PlanLaws}
use Rattle.blob_meta.specs.Repairs.{HasNoMarks}
use Rattle.running_store.specs.StoreView.{base_of, AreResolved, StoreView, state_of}
use Rattle.md_thread.specs.Tasks.{IsPlanOf}
use Rattle.store_core.proofs.NextHead.{next_there}

-- a test has one least head that passes
same_least : (test : ℕ → Bool) (h k : ℕ) → IsLeast test h → IsLeast test k → h ≡ k
same_least test h k a b = elim (cases_lt h k) [
  | inl below ↦ let e : true ≡ false = sym a.passes ∙ b.none_below h below in absurd (cc e)
  | inr from ↦ elim (cases_lt k h) [
    | inl above ↦ let e : true ≡ false = sym b.passes ∙ a.none_below k above in absurd (cc e)
    | inr to ↦ omega (arith, from, to)
  ]
]

module _ {D : Type 0} (d : Ghosts D) (laws : PlanLaws d) (p : StoreView D) (running : IsRunning (state_of d p))
    (runs : p.stopped ≡ None) (are : AreResolved p.metas p.marked) (clean : HasNoMarks (base_of p.metas p.marked)) where
  -- the blob of a plan is the one that is found
  at_plan : {command : Command} {volume : VolumeRef} (head : Option ℕ) (live : Xattrs) (at : ℕ) (old : Meta)
      → (found : IsFound p.metas p.super p.live command head (Some live)) → found.volume ≡ volume
      → IsLeast (is_meant p.super.super_blob p.metas volume) at → map.get p.metas at ≡ Some old
      → HasBlob p at old live × IsHeadMeant p.metas p.super volume (Some at)
  at_plan None live at old found asked least there = let e = found.live_is in absurd (cc e)
  at_plan {volume = volume} (Some h) live at old found asked least there =
      let same : h ≡ at =
      same_least (is_meant p.super.super_blob p.metas volume) h at
      (subst (λ v. IsLeast (is_meant p.super.super_blob p.metas v) h) asked found.there) least in (
        record { there = there; is_live = ap (λ k. map.get p.live k) (sym same) ∙ sym found.live_is },
        subst (λ k. IsHeadMeant p.metas p.super volume (Some k)) same
            (subst (λ v. IsHeadMeant p.metas p.super v (Some h)) asked found.meant),
      )

  -- the job that remakes the metadata of the volume that a command asks for is what the command asks for
  remade : (command : Command) (volume : VolumeRef) (head : Option ℕ) (live later : Xattrs) (made : Meta → Meta)
      (job : Job) → (found : IsFound p.metas p.super p.live command head (Some live)) → found.volume ≡ volume
      → Remakes p.metas p.super volume made job
      → ((at : ℕ) (old : Meta) → HasBlob p at old live → IsHeadMeant p.metas p.super volume (Some at)
      → AsksFor (state_of d p) command at (made old) later) → IsJobOf (state_of d p) command job
  remade command volume head live later made job found asked plan asks =
      let at = at_plan head live plan.head plan.old found asked plan.meant plan.there in
      let it = asks plan.head plan.old at.0 at.1 in
      record {
        commit = record {
          reply = r.Ok;
          live = Some (record { head = plan.head; xattrs = Some later });
          renews = [];
        };
        asked = syncs (record {
          head = plan.head;
          new = made plan.old;
          live = later;
          is = plan.job_is;
          asks = it;
          commit_is = refl;
        });
        next = next_there (state_of d p) job.list (record { head = plan.head; new = Some (made plan.old) }) []
            (ap (λ (j : Job). j.list) plan.job_is) it.old it.there;
      }

  -- the job that is planned for a put is what the put asks for
  put_job : (volume : VolumeRef) (key value : Text) (head : Option ℕ) (o : Option Xattrs) (job : Job)
      → IsFound p.metas p.super p.live (c.Put volume key value) head o
      → PlansPut p.metas p.super o (c.Put volume key value) job
      → IsFirstCause p.metas p.super o (c.Put volume key value) None
      → IsJobOf (state_of d p) (c.Put volume key value) job
  put_job volume key value head (Some live) job found plan cause =
      remade (c.Put volume key value) volume head live (with_value live key value)
      (λ old. record old { xattrs = with_value live key value }) job found (let e = found.asked in cc e) plan
      (λ at old blob meant. laws.put p volume at key value old live running runs are clean blob meant cause)
  put_job volume key value head None job found plan cause = absurd plan

  -- the job that is planned for a sync is what the sync asks for
  sync_job : (volume : VolumeRef) (head : Option ℕ) (o : Option Xattrs) (job : Job)
      → IsFound p.metas p.super p.live (c.Sync volume) head o → PlansSync p.metas p.super o (c.Sync volume) job
      → IsFirstCause p.metas p.super o (c.Sync volume) None → IsJobOf (state_of d p) (c.Sync volume) job
  sync_job volume head (Some live) job found plan cause =
      remade (c.Sync volume) volume head live live (λ old. record old { xattrs = live }) job found
      (let e = found.asked in cc e) plan
      (λ at old blob meant. laws.sync p volume at old live running runs are clean blob meant cause)
  sync_job volume head None job found plan cause = absurd plan

  -- the job that is planned for a readonly is what it asks for
  read_only_job : (volume : VolumeRef) (head : Option ℕ) (o : Option Xattrs) (job : Job)
      → IsFound p.metas p.super p.live (c.ReadOnly volume) head o
      → PlansReadOnly p.metas p.super o (c.ReadOnly volume) job
      → IsFirstCause p.metas p.super o (c.ReadOnly volume) None → IsJobOf (state_of d p) (c.ReadOnly volume) job
  read_only_job volume head (Some live) job found plan cause =
      remade (c.ReadOnly volume) volume head live live
      (λ old. record old { xattrs = live; flags = read_only old.flags }) job found
      (let e = found.asked in cc e) plan
      (λ at old blob meant. laws.read_only p volume at old live running runs are clean blob meant cause)
  read_only_job volume head None job found plan cause = absurd plan

  lacks_memory : (command : Command) → IsSyncing command → IsRefusedBy (state_of d p) command r.Memory
  lacks_memory (c.Put volume key value) is = tt
  lacks_memory (c.Sync volume) is = tt
  lacks_memory (c.ReadOnly volume) is = tt
  lacks_memory (c.Rename volume name) is = tt
  lacks_memory _ is = absurd is

  by_cause : (command : Command) (reply : Reply) → IsAttributeCause reply
      → refusal (fixed_of p.super) (shown (state_of d p)) command ≡ Some reply
      → IsRefusedBy (state_of d p) command reply
  by_cause command r.NoVolume cause is = (tt, is)
  by_cause command r.Reserved cause is = (tt, is)
  by_cause command r.ReadOnly cause is = (tt, is)
  by_cause command r.TooLong cause is = (tt, is)
  by_cause command r.NoValue cause is = (tt, is)
  by_cause command _ cause is = absurd cause

  -- a command that the plan refuses is refused for its first cause, or for want of memory
  refused : (command : Command) (head : Option ℕ) (o : Option Xattrs) (reply : Reply) → IsSyncing command
      → IsFound p.metas p.super p.live command head o → RefusesPlan p.metas p.super o command reply
      → IsRefusedBy (state_of d p) command reply
  refused command head o reply syncing found (inl memory) =
      subst (λ (x : Reply). IsRefusedBy (state_of d p) command x) (sym memory) (lacks_memory command syncing)
  refused command head o reply syncing found (inr x) =
      by_cause command reply x.0
      (x.1 (fixed_of p.super) (shown (state_of d p)) (laws.shows p command head o running runs are found))

  -- what is planned for a verb that syncs: its job, or the refusal
  planned_at : (command : Command) (head : Option ℕ) (o : Option Xattrs) (Plans : Job → Type 0) → IsSyncing command
      → IsFound p.metas p.super p.live command head o → (planned : Result Job Reply)
      → ((job : Job) → Plans job → IsFirstCause p.metas p.super o command None → IsJobOf (state_of d p) command job)
      → IfOk planned Plans → IfOk planned (λ job. IsFirstCause p.metas p.super o command None)
      → IfErr planned (RefusesPlan p.metas p.super o command) → IsPlanOf d p command (Some planned)
  planned_at command head o Plans syncing found (Ok job) is_for plan cause refuses = is_for job plan cause
  planned_at command head o Plans syncing found (Err reply) is_for plan cause refuses =
      refused command head o reply syncing found refuses

  -- from what is given of the store
  module _ (metas : map.FinMap nat_cmp Meta) (sup : Super) (o : Option Xattrs) (m : metas ≡ p.metas)
      (s : sup ≡ p.super) where
    of_store : (P : map.FinMap nat_cmp Meta → Super → Type 0) → P metas sup → P p.metas p.super
    of_store P x =
        subst (λ (sup : Super). P p.metas sup) s (subst (λ (metas : map.FinMap nat_cmp Meta). P metas sup) m x)

    -- live attributes are given exactly where what is planned on is there
    pub live_given : (command : Command) (head : Option ℕ) → IsFound p.metas p.super p.live command head o
        → IsLiveOf metas sup o command
    live_given command head found =
        subst (λ (sup : Super). IsLiveOf metas sup o command) (sym s)
        (subst (λ (metas : map.FinMap nat_cmp Meta). IsLiveOf metas p.super o command) (sym m)
        (laws.live p command head o running runs are found))

    -- of a verb, by the plan and by the job that it makes of it
    planned_for : (Plans : map.FinMap nat_cmp Meta → Super → Option Xattrs → Command → Job → Type 0)
        → (command verb : Command) → command ≡ verb → IsSyncing verb → (head : Option ℕ)
        → IsFound p.metas p.super p.live command head o
        → ((job : Job) → IsFound p.metas p.super p.live verb head o → Plans p.metas p.super o verb job
        → IsFirstCause p.metas p.super o verb None → IsJobOf (state_of d p) verb job)
        → (planned : Result Job Reply) → IfOk planned (Plans metas sup o command)
        → IfOk planned (λ job. IsFirstCause metas sup o command None)
        → IfErr planned (RefusesPlan metas sup o command) → IsPlanOf d p command (Some planned)
    planned_for Plans command verb e syncing head found job_for planned plan cause refuses =
        subst
        (λ (command : Command). IsFound p.metas p.super p.live command head o
        → IfOk planned (Plans p.metas p.super o command)
        → IfOk planned (λ job. IsFirstCause p.metas p.super o command None)
        → IfErr planned (RefusesPlan p.metas p.super o command) → IsPlanOf d p command (Some planned)) (sym e)
        (λ found. planned_at verb head o (Plans p.metas p.super o verb) syncing found planned
        (λ job. job_for job found)) found
        (of_store (λ metas sup. IfOk planned (Plans metas sup o command)) plan)
        (of_store (λ metas sup. IfOk planned (λ job. IsFirstCause metas sup o command None)) cause)
        (of_store (λ metas sup. IfErr planned (RefusesPlan metas sup o command)) refuses)

    pub put_plan : (command : Command) (volume : VolumeRef) (key value : Text) → command ≡ c.Put volume key value
        → (head : Option ℕ) → IsFound p.metas p.super p.live command head o → (planned : Result Job Reply)
        → IfOk planned (PlansPut metas sup o command) → IfOk planned (λ job. IsFirstCause metas sup o command None)
        → IfErr planned (RefusesPlan metas sup o command) → IsPlanOf d p command (Some planned)
    put_plan command volume key value e head found planned =
        planned_for PlansPut command (c.Put volume key value) e tt head found
        (λ job found plan cause. put_job volume key value head o job found plan cause) planned

    pub sync_plan : (command : Command) (volume : VolumeRef) → command ≡ c.Sync volume → (head : Option ℕ)
        → IsFound p.metas p.super p.live command head o → (planned : Result Job Reply)
        → IfOk planned (PlansSync metas sup o command) → IfOk planned (λ job. IsFirstCause metas sup o command None)
        → IfErr planned (RefusesPlan metas sup o command) → IsPlanOf d p command (Some planned)
    sync_plan command volume e head found planned =
        planned_for PlansSync command (c.Sync volume) e tt head found
        (λ job found plan cause. sync_job volume head o job found plan cause) planned

    pub read_only_plan : (command : Command) (volume : VolumeRef) → command ≡ c.ReadOnly volume → (head : Option ℕ)
        → IsFound p.metas p.super p.live command head o → (planned : Result Job Reply)
        → IfOk planned (PlansReadOnly metas sup o command)
        → IfOk planned (λ job. IsFirstCause metas sup o command None)
        → IfErr planned (RefusesPlan metas sup o command) → IsPlanOf d p command (Some planned)
    read_only_plan command volume e head found planned =
        planned_for PlansReadOnly command (c.ReadOnly volume) e tt head found
        (λ job found plan cause. read_only_job volume head o job found plan cause) planned
