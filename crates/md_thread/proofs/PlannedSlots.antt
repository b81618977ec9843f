-- What is planned for a create, a resize, a copy, a delete or a rename is what the command asks for.
use Rattle.std.proofs.Common.{◌≡◌, ℕ, Bool, List, Option, Some, None, Result, Ok, Err}
use Rattle.std.proofs.Common.{sym, subst, inl, inr}
use Rattle.std.specs.Prelude.{IfOk, IfErr}
use Rattle.std.specs.Ordering.{nat_cmp}
use Rattle.std.specs.FinMap as map
use Rattle.page_disk.specs.declared.disk.PageDisk.{Ghosts}
use Rattle.volume_model.specs.Xattrs.{Text, Xattrs}
use Rattle.volume_model.specs.Machine.{IsCauseOfRefusal}
use Rattle.volume_model.specs.Names.{IsName}
use Rattle.volume_model.specs.Volumes.{Fixed, two_xattrs, Volumes}
use Rattle.volume_model.specs.Refusals.{refusal}
use Rattle.volume_model.specs.Steps.{MayLackMemory}
use Rattle.volume_model.specs.declared.command.VolumeRef.{VolumeRef}
use Rattle.volume_model.specs.declared.command.Command.{Command}
use Rattle.volume_model.specs.declared.command.Command.TheVariants as c
use Rattle.volume_model.specs.declared.reply.Reply.{Reply}
use Rattle.volume_model.specs.declared.reply.Reply.TheVariants as r
use Rattle.super_block.specs.declared.page.Super.{Super}
use Rattle.blob_meta.specs.declared.meta.Meta.{Meta}
use Rattle.blob_meta.specs.declared.job.Job.{Job}
use Rattle.blob_meta.specs.Find.{is_meant, IsLeast}
use Rattle.blob_meta.specs.ShownBy.{IsFirstRefusal, IsHeadMeant, ShowsMetas}
use Rattle.blob_meta.specs.Jobs.{create_job, job_of_one, resize_job}
use Rattle.inflate_delete.specs.DeletePlans.{IsDeleteJob}
use Rattle.lvol_store.specs.CopyPlans.{CopiesMeant}
use Rattle.lvol_store.specs.DeletePlans.{DeletesAsAsked}
use Rattle.lvol_store.specs.RenamePlans.{renamed, PlansRename, Renames}
use Rattle.lvol_store.specs.SlotPlans.{Creates, PlansCreate, PlansResize, RefusesFirst, Resizes}
use Rattle.store_model.specs.Shown.{fixed_of}
use Rattle.store_model.specs.StoreState.{shown}
use Rattle.store_model.specs.Cases.{IsRefusedBy}
use Rattle.job_begins.specs.Begins.{IsJobOf}
use Rattle.running_store.specs.LoadedWhole.{IsNextHead}
use Rattle.running_store.specs.StoreView.{StoreView, state_of}
use Rattle.md_thread.specs.Tasks.{IsPlanOf}

module _ {D : Type 0} (d : Ghosts D) (p : StoreView D) where
  by_first : (command : Command) (reply : Reply) → IsCauseOfRefusal reply
      → refusal (fixed_of p.super) (shown (state_of d p)) command ≡ Some reply
      → IsRefusedBy (state_of d p) command reply
  by_first command r.NoVolume cause is = (tt, is)
  by_first command r.OutOfRange cause is = (tt, is)
  by_first command r.ReadOnly cause is = (tt, is)
  by_first command r.NotReadOnly cause is = (tt, is)
  by_first command r.NameTaken cause is = (tt, is)
  by_first command (r.Busy clones) cause is = (tt, is)
  by_first command r.NoParent cause is = (tt, is)
  by_first command r.Short cause is = (tt, is)
  by_first command r.Reserved cause is = (tt, is)
  by_first command r.NoValue cause is = (tt, is)
  by_first command r.TooLong cause is = (tt, is)
  by_first command r.TooLarge cause is = (tt, is)
  by_first command _ cause is = absurd cause

  -- a command whose refusals metadata tells is refused for its first cause, or for want of memory
  pub refused_first : (command : Command) (reply : Reply)
      → ShowsMetas (fixed_of p.super) p.super p.metas (shown (state_of d p))
      → MayLackMemory (fixed_of p.super) (shown (state_of d p)) command → RefusesFirst p.metas p.super command reply
      → IsRefusedBy (state_of d p) command reply
  refused_first command reply shows may (inl memory) =
      subst (λ (x : Reply). IsRefusedBy (state_of d p) command x) (sym memory) may
  refused_first command reply shows may (inr x) =
      by_first command reply x.0 (x.1 (fixed_of p.super) (shown (state_of d p)) shows)

  module _ (metas : map.FinMap nat_cmp Meta) (sup : Super) (m : metas ≡ p.metas) (s : sup ≡ p.super)
      (shows : ShowsMetas (fixed_of p.super) p.super p.metas (shown (state_of d p))) where
    given : (P : map.FinMap nat_cmp Meta → Super → Type 0) → P metas sup → P p.metas p.super
    given P x =
        subst (λ (sup : Super). P p.metas sup) s (subst (λ (metas : map.FinMap nat_cmp Meta). P metas sup) m x)

    -- a job that the command asks for is planned, or it is refused for its first cause or for want of memory
    by_plan : (asked : Command) → MayLackMemory (fixed_of p.super) (shown (state_of d p)) asked
        → (Plans : Command → map.FinMap nat_cmp Meta → Super → Job → Type 0)
        → ((job : Job) → Plans asked p.metas p.super job → IsFirstRefusal p.metas p.super asked None
        → IsJobOf (state_of d p) asked job) → (command : Command) → command ≡ asked → (planned : Result Job Reply)
        → IfOk planned (Plans command metas sup) → IfOk planned (λ job. IsFirstRefusal metas sup command None)
        → IfErr planned (RefusesFirst metas sup command) → IsPlanOf d p command (Some planned)
    by_plan asked may Plans asks command e =
        subst
        (λ (command : Command). (planned : Result Job Reply) → IfOk planned (Plans command metas sup)
        → IfOk planned (λ job. IsFirstRefusal metas sup command None) → IfErr planned (RefusesFirst metas sup command)
        → IsPlanOf d p command (Some planned)) (sym e) plan
      where
        plan : (planned : Result Job Reply) → IfOk planned (Plans asked metas sup)
            → IfOk planned (λ job. IsFirstRefusal metas sup asked None) → IfErr planned (RefusesFirst metas sup asked)
            → IsPlanOf d p asked (Some planned)
        plan (Ok job) planned first refuses =
            asks job (given (λ metas sup. Plans asked metas sup job) planned)
            (given (λ metas sup. IsFirstRefusal metas sup asked None) first)
        plan (Err reply) planned first refuses =
            refused_first asked reply shows may (given (λ metas sup. RefusesFirst metas sup asked reply) refuses)

    module _ (made : (name : Text) (slots : ℕ) (thick : Bool) (uuid : Option (List ℕ)) (head : ℕ) (xattrs : Xattrs)
        → IsName name → IsNextHead p.super.md_len p.pages head
        → IsFirstRefusal p.metas p.super (c.Create name slots thick uuid) None
        → ((f : Fixed) (v : Volumes) → ShowsMetas f p.super p.metas v → two_xattrs f v name uuid ≡ xattrs)
        → IsJobOf (state_of d p) (c.Create name slots thick uuid) (create_job head xattrs thick slots)) where
      create_asks : (head : ℕ) → IsNextHead p.super.md_len p.pages head → (name : Text) (slots : ℕ) (thick : Bool)
          (uuid : Option (List ℕ)) (job : Job) → Creates p.metas p.super head name slots thick uuid job
          → IsFirstRefusal p.metas p.super (c.Create name slots thick uuid) None
          → IsJobOf (state_of d p) (c.Create name slots thick uuid) job
      create_asks head next name slots thick uuid job plan first =
          subst (λ (job : Job). IsJobOf (state_of d p) (c.Create name slots thick uuid) job) (sym plan.job_is)
          (made name slots thick uuid head plan.xattrs plan.is_name next first plan.named)

      -- what is planned for a create
      pub create_plan : (head : ℕ) → IsNextHead p.super.md_len p.pages head → (command : Command) (name : Text)
          (slots : ℕ) (thick : Bool) (uuid : Option (List ℕ)) → command ≡ c.Create name slots thick uuid
          → (planned : Result Job Reply) → IfOk planned (PlansCreate metas sup head command)
          → IfOk planned (λ job. IsFirstRefusal metas sup command None)
          → IfErr planned (RefusesFirst metas sup command) → IsPlanOf d p command (Some planned)
      create_plan head next command name slots thick uuid =
          by_plan (c.Create name slots thick uuid) tt (λ command metas sup. PlansCreate metas sup head command)
          (create_asks head next name slots thick uuid) command

    module _ (meant : (metas : map.FinMap nat_cmp Meta) (sup : Super) (volume : VolumeRef) (head : ℕ)
        → IsLeast (is_meant sup.super_blob metas volume) head → IsHeadMeant metas sup volume (Some head))
        (given_slots : (volume : VolumeRef) (slots head : ℕ) (old : Meta) (job : Job)
        → IsHeadMeant p.metas p.super volume (Some head) → map.get p.metas head ≡ Some old
        → IsFirstRefusal p.metas p.super (c.Resize volume slots) None → job ≡ resize_job head old slots
        → IsJobOf (state_of d p) (c.Resize volume slots) job) where
      resize_asks : (volume : VolumeRef) (slots : ℕ) (job : Job) → Resizes p.metas p.super volume slots job
          → IsFirstRefusal p.metas p.super (c.Resize volume slots) None
          → IsJobOf (state_of d p) (c.Resize volume slots) job
      resize_asks volume slots job plan first =
          given_slots volume slots plan.head plan.old job (meant p.metas p.super volume plan.head plan.meant) plan.there
          first plan.job_is

      -- what is planned for a resize
      pub resize_plan : (command : Command) (volume : VolumeRef) (slots : ℕ) → command ≡ c.Resize volume slots
          → (planned : Result Job Reply) → IfOk planned (PlansResize metas sup command)
          → IfOk planned (λ job. IsFirstRefusal metas sup command None)
          → IfErr planned (RefusesFirst metas sup command) → IsPlanOf d p command (Some planned)
      resize_plan command volume slots =
          by_plan (c.Resize volume slots) tt (λ command metas sup. PlansResize metas sup command)
          (resize_asks volume slots) command

    -- a copy of the blob that is meant, at the head that is next
    module _ (copies : VolumeRef → Text → Command) (job_of : ℕ → Meta → ℕ → Xattrs → Job)
        (made : (volume : VolumeRef) (name : Text) (of : ℕ) (old : Meta) (head : ℕ) (xattrs : Xattrs) → IsName name
        → IsHeadMeant p.metas p.super volume (Some of) → map.get p.metas of ≡ Some old
        → IsNextHead p.super.md_len p.pages head → IsFirstRefusal p.metas p.super (copies volume name) None
        → ((f : Fixed) (v : Volumes) → ShowsMetas f p.super p.metas v → two_xattrs f v name None ≡ xattrs)
        → IsJobOf (state_of d p) (copies volume name) (job_of of old head xattrs)) (head : ℕ)
        (next : IsNextHead p.super.md_len p.pages head) where
      copy_asks : (volume : VolumeRef) (name : Text) (job : Job)
          → CopiesMeant p.metas p.super job_of head volume name job
          → IsFirstRefusal p.metas p.super (copies volume name) None → IsJobOf (state_of d p) (copies volume name) job
      copy_asks volume name job plan first =
          subst (λ (job : Job). IsJobOf (state_of d p) (copies volume name) job) (sym plan.job_is)
          (made volume name plan.of plan.old head plan.xattrs plan.is_name plan.meant plan.there next first plan.named)

      -- what is planned for it
      pub copy_plan : (command : Command) (volume : VolumeRef) (name : Text) → command ≡ copies volume name
          → MayLackMemory (fixed_of p.super) (shown (state_of d p)) (copies volume name) → (planned : Result Job Reply)
          → IfOk planned (λ job. CopiesMeant metas sup job_of head volume name job)
          → IfOk planned (λ job. IsFirstRefusal metas sup command None)
          → IfErr planned (RefusesFirst metas sup command) → IsPlanOf d p command (Some planned)
      copy_plan command volume name e may =
          by_plan (copies volume name) may (λ command metas sup. CopiesMeant metas sup job_of head volume name)
          (copy_asks volume name) command e

    module _ (gone : (volume : VolumeRef) (of : ℕ) (job : Job) → IsHeadMeant p.metas p.super volume (Some of)
        → IsFirstRefusal p.metas p.super (c.Delete volume) None → IsDeleteJob p.metas of job
        → IsJobOf (state_of d p) (c.Delete volume) job) where
      -- what is planned for a delete
      pub delete_plan : (command : Command) (volume : VolumeRef) → command ≡ c.Delete volume
          → (planned : Result Job Reply) → IfOk planned (DeletesAsAsked metas sup command)
          → IfOk planned (λ job. IsFirstRefusal metas sup command None)
          → IfErr planned (RefusesFirst metas sup command) → IsPlanOf d p command (Some planned)
      delete_plan command volume =
          by_plan (c.Delete volume) tt (λ command metas sup. DeletesAsAsked metas sup command)
          (λ job plan first. gone volume plan.of job plan.meant first plan.job_is) command

    module _ (given_name : (volume : VolumeRef) (name : Text) (head : ℕ) (old : Meta) (job : Job) → IsName name
        → IsHeadMeant p.metas p.super volume (Some head) → map.get p.metas head ≡ Some old
        → IsFirstRefusal p.metas p.super (c.Rename volume name) None → job ≡ job_of_one head (renamed old name)
        → IsJobOf (state_of d p) (c.Rename volume name) job) where
      rename_asks : (volume : VolumeRef) (name : Text) (job : Job) → Renames p.metas p.super volume name job
          → IsFirstRefusal p.metas p.super (c.Rename volume name) None
          → IsJobOf (state_of d p) (c.Rename volume name) job
      rename_asks volume name job plan first =
          given_name volume name plan.head plan.old job plan.is_name plan.meant plan.there first plan.job_is

      -- what is planned for a rename
      pub rename_plan : (command : Command) (volume : VolumeRef) (name : Text) → command ≡ c.Rename volume name
          → (planned : Result Job Reply) → IfOk planned (PlansRename metas sup command)
          → IfOk planned (λ job. IsFirstRefusal metas sup command None)
          → IfErr planned (RefusesFirst metas sup command) → IsPlanOf d p command (Some planned)
      rename_plan command volume name =
          by_plan (c.Rename volume name) tt (λ command metas sup. PlansRename metas sup command)
          (rename_asks volume name) command
