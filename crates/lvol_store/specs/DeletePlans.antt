-- What a delete makes of metadata.
use Rattle.std.specs.Prelude.{ℕ, Some}
use Rattle.std.specs.Ordering.{nat_cmp}
use Rattle.std.specs.FinMap as map
use Rattle.super_block.specs.declared.page.Super.{Super}
use Rattle.volume_model.specs.declared.command.VolumeRef.{VolumeRef}
use Rattle.volume_model.specs.declared.command.Command.{Command}
use Rattle.volume_model.specs.declared.command.Command.TheVariants as c
use Rattle.blob_meta.specs.declared.meta.Meta.{Meta}
use Rattle.blob_meta.specs.declared.job.Job.{Job}
use Rattle.blob_meta.specs.ShownBy.{IsHeadMeant}
use Rattle.inflate_delete.specs.DeletePlans.{IsDeleteJob}

abbrev pub IsDelete : Command → Type 0
IsDelete (c.Delete volume) = Unit {0}
IsDelete _ = ⊥

module _ (metas : map.FinMap nat_cmp Meta) (sup : Super) where
  -- the delete of the blob that is meant
  pub record DeletesMeant (volume : VolumeRef) (job : Job) : Type 0 where
    pub of : ℕ
    pub meant : IsHeadMeant metas sup volume (Some of)
    pub job_is : IsDeleteJob metas of job

  -- the same, as the command asks it
  abbrev pub DeletesAsAsked : Command → Job → Type 0
  DeletesAsAsked (c.Delete volume) job = DeletesMeant volume job
  DeletesAsAsked _ job = ⊥
