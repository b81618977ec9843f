-- What a command that renames a volume makes of metadata.
use Rattle.std.specs.Prelude.{◌≡◌, ℕ, Some}
use Rattle.std.specs.Ordering.{nat_cmp}
use Rattle.std.specs.FinMap as map
use Rattle.super_block.specs.declared.page.Super.{Super}
use Rattle.volume_model.specs.Names.{IsName}
use Rattle.volume_model.specs.Xattrs.{Text, name_key, with_nul, with_value}
use Rattle.volume_model.specs.declared.command.VolumeRef.{VolumeRef}
use Rattle.volume_model.specs.declared.command.Command.{Command}
use Rattle.volume_model.specs.declared.command.Command.TheVariants as c
use Rattle.blob_meta.specs.declared.meta.Meta.{Meta}
use Rattle.blob_meta.specs.declared.job.Job.{Job}
use Rattle.blob_meta.specs.Jobs.{job_of_one}
use Rattle.blob_meta.specs.ShownBy.{IsHeadMeant}

-- it gives a volume another name
abbrev pub IsRename : Command → Type 0
IsRename (c.Rename volume name) = Unit {0}
IsRename _ = ⊥

-- the metadata with this name: of its attributes as they were last synced `name` alone is another
abbrev pub renamed : Meta → Text → Meta
renamed old name = record old { xattrs = with_value old.xattrs name_key (with_nul name) }

module _ (metas : map.FinMap nat_cmp Meta) (sup : Super) where
  -- The blob that is meant, with the name.
  pub record Renames (volume : VolumeRef) (name : Text) (job : Job) : Type 0 where
    pub head : ℕ
    pub old : Meta
    pub meant : IsHeadMeant metas sup volume (Some head)
    pub there : map.get metas head ≡ Some old
    pub is_name : IsName name
    pub job_is : job ≡ job_of_one head (renamed old name)

  -- the same, as the command asks it
  abbrev pub PlansRename : Command → Job → Type 0
  PlansRename (c.Rename volume name) job = Renames volume name job
  PlansRename _ job = ⊥
