-- What a command asks of the volume that it names, and the first cause for which one on attributes is refused.
use Rattle.std.specs.Prelude.{◌≡◌, ℕ, Bool, Option, Some, None, IsSome, IsSomeAnd}
use Rattle.std.specs.List.{find}
use Rattle.std.specs.Option.{option_map, option_and_then}
use Rattle.std.specs.Ordering.{nat_cmp}
use Rattle.std.specs.FinMap as map
use Rattle.super_block.specs.declared.page.Super.{Super}
use Rattle.volume_model.specs.Xattrs.{Xattrs, value_of}
use Rattle.volume_model.specs.Volumes.{Volume, Volumes, Fixed, is_super}
use Rattle.volume_model.specs.Refusals.{Causes, refusal}
use Rattle.volume_model.specs.Steps.{named_head}
use Rattle.volume_model.specs.declared.command.VolumeRef.{VolumeRef}
use Rattle.volume_model.specs.declared.command.Command.{Command}
use Rattle.volume_model.specs.declared.command.Command.TheVariants as c
use Rattle.volume_model.specs.declared.reply.Reply.{Reply}
use Rattle.volume_model.specs.declared.reply.Reply.TheVariants as r
use Rattle.blob_meta.specs.declared.meta.Meta.{Meta}
use Rattle.blob_meta.specs.Find.{IsThere}
use Rattle.blob_meta.specs.ShownBy.{ShowsMetas}

-- the volume that a command on attributes, or a resize, names
abbrev pub asked_volume : Command → Option VolumeRef
asked_volume (c.SetX volume key value) = Some volume
asked_volume (c.DelX volume key) = Some volume
asked_volume (c.GetX volume key) = Some volume
asked_volume (c.Put volume key value) = Some volume
asked_volume (c.Sync volume) = Some volume
asked_volume (c.ReadOnly volume) = Some volume
asked_volume (c.Resize volume slots) = Some volume
asked_volume _ = None

-- a command on attributes, also one that brings them to the disk for good
abbrev pub IsOnAttributes : Command → Type 0
IsOnAttributes (c.SetX volume key value) = Unit {0}
IsOnAttributes (c.DelX volume key) = Unit {0}
IsOnAttributes (c.GetX volume key) = Unit {0}
IsOnAttributes (c.Put volume key value) = Unit {0}
IsOnAttributes (c.Sync volume) = Unit {0}
IsOnAttributes (c.ReadOnly volume) = Unit {0}
IsOnAttributes _ = ⊥

-- the causes for which a command on attributes may be refused
abbrev pub IsAttributeCause : Reply → Type 0
IsAttributeCause r.NoVolume = Unit {0}
IsAttributeCause r.Reserved = Unit {0}
IsAttributeCause r.ReadOnly = Unit {0}
IsAttributeCause r.TooLong = Unit {0}
IsAttributeCause r.NoValue = Unit {0}
IsAttributeCause _ = ⊥

-- what is asked for is there
abbrev pub HasValue : Option Xattrs → Command → Type 0
HasValue (Some live) (c.GetX volume key) = IsSome (value_of live key)
HasValue _ _ = Unit {0}

-- of causes, the first that holds
abbrev pub first_cause : Causes → Option Reply
first_cause causes = option_map (λ cause. cause.1) (find (λ cause. cause.0) causes)

module _ (metas : map.FinMap nat_cmp Meta) (sup : Super) where
  -- the volume that the command names is there
  abbrev pub NamesThere : Command → Type 0
  NamesThere command = IsSomeAnd (asked_volume command) (IsThere metas sup)

  -- live attributes are given exactly where the volume is there
  abbrev pub IsLiveOf : Option Xattrs → Command → Type 0
  IsLiveOf None command = NamesThere command → ⊥
  IsLiveOf (Some live) command = NamesThere command

  -- Volumes show the metadata, and the one that the command names, if it is there, has these live attributes.
  pub record ShowsLive (live : Option Xattrs) (command : Command) (f : Fixed) (v : Volumes) : Type 0 where
    pub shows : ShowsMetas f sup metas v
    pub live_is : option_map (λ (x : Volume). x.live) (option_and_then v (named_head f v command)) ≡ live

  -- The first cause for which the command is refused, if there is one, in all volumes that show the metadata and have
  -- these live attributes.
  abbrev pub IsFirstCause : Option Xattrs → Command → Option Reply → Type 0
  IsFirstCause live command first = (f : Fixed) (v : Volumes) → ShowsLive live command f v
      → refusal f v command ≡ first

-- A command names a volume at some head, of which this is known.
pub record MeansVolume (f : Fixed) (v : Volumes) (command : Command) (reserved read_only : Bool) (live : Xattrs)
    : Type 0 where
  pub head : ℕ
  pub volume : Volume
  pub named : named_head f v command ≡ Some head
  pub there : v head ≡ Some volume
  pub reserved_is : is_super f head ≡ reserved
  pub read_only_is : volume.read_only ≡ read_only
  pub live_is : volume.live ≡ live
