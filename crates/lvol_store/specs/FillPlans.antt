-- What an inflate or a decouple does next.
use Rattle.std.specs.Prelude.{◌≡◌, ℕ, Some}
use Rattle.std.specs.Ordering.{nat_cmp}
use Rattle.std.specs.FinMap as map
use Rattle.super_block.specs.declared.page.Super.{Super}
use Rattle.volume_model.specs.declared.command.VolumeRef.{VolumeRef}
use Rattle.volume_model.specs.declared.command.Command.{Command}
use Rattle.volume_model.specs.declared.command.Command.TheVariants as c
use Rattle.blob_meta.specs.declared.meta.Meta.{Meta}
use Rattle.blob_meta.specs.Find.{IsLeast}
use Rattle.blob_meta.specs.ShownBy.{IsHeadMeant}
use Rattle.blob_meta.specs.SlotCounts.{HeadsFit}
use Rattle.inflate_delete.specs.FillJobs.{IsFillJob}
use Rattle.inflate_delete.specs.Fills.{command_of, is_to_fill, IsFilled}
use Rattle.inflate_delete.specs.declared.filling.FillKind.{FillKind}
use Rattle.lvol_store.specs.declared.filling.FillPlan.{FillPlan}
use Rattle.lvol_store.specs.declared.filling.FillPlan.TheVariants as plan

-- the commands for which slots are filled
abbrev pub IsFill : Command → Type 0
IsFill (c.Inflate volume) = Unit {0}
IsFill (c.Decouple volume) = Unit {0}
IsFill _ = ⊥

module _ (metas : map.FinMap nat_cmp Meta) (sup : Super) where
  -- of the blob at a head the least slot that is to be filled, or, where none is, the last job
  abbrev pub IsNextOf : ℕ → FillKind → FillPlan → Type 0
  IsNextOf head kind (plan.Slot slot) = IsLeast (is_to_fill (map.get metas) head kind) slot
  IsNextOf head kind (plan.Last job) = IsFilled (map.get metas) head kind × IsFillJob metas head kind job

  -- the blob that the command means, and what it does next
  pub record FillsAsAsked (command : Command) (next : FillPlan) : Type 0 where
    pub kind : FillKind
    pub volume : VolumeRef
    pub command_is : command ≡ command_of kind volume
    pub head : ℕ
    pub meant : IsHeadMeant metas sup volume (Some head)
    pub is : HeadsFit metas → IsNextOf head kind next
