-- Why a command on the blob at a head is refused.
use Rattle.std.specs.Prelude.{◌≡◌, ◌⊎◌, ℕ, Option, Some}
use Rattle.std.specs.Ordering.{nat_cmp}
use Rattle.std.specs.FinMap as map
use Rattle.super_block.specs.declared.page.Super.{Super}
use Rattle.volume_model.specs.Machine.{IsCauseOfRefusal}
use Rattle.volume_model.specs.declared.command.VolumeRef.{VolumeRef}
use Rattle.volume_model.specs.declared.command.Command.{Command}
use Rattle.volume_model.specs.declared.reply.Reply.{Reply}
use Rattle.volume_model.specs.declared.reply.Reply.TheVariants as r
use Rattle.blob_meta.specs.declared.meta.Meta.{Meta}
use Rattle.blob_meta.specs.ShownBy.{IsFirstRefusal, IsHeadMeant}

module _ (metas : map.FinMap nat_cmp Meta) (sup : Super) (volume : ℕ) where
  -- The first cause for which the command is refused, if there is one, by whatever reference it means the blob.
  abbrev pub IsFirstAt : (VolumeRef → Command) → Option Reply → Type 0
  IsFirstAt command first = (meant : VolumeRef) → IsHeadMeant metas sup meant (Some volume)
      → IsFirstRefusal metas sup (command meant) first

  -- want of memory, or the first cause
  abbrev pub RefusesFirstAt : (VolumeRef → Command) → Reply → Type 0
  RefusesFirstAt command reply = (reply ≡ r.Memory) ⊎
      (IsCauseOfRefusal reply × IsFirstAt command (Some reply))
