-- Volumes that show metadata: what names and refusals see of a volume is what its blob's metadata says.
use Rattle.std.specs.Prelude.{◌≡◌, ℕ, ◌<◌, ◌≤◌, ◌^◌, Option, Some, None, IsSome, Bool, List, length}
use Rattle.std.specs.Ordering.{nat_cmp}
use Rattle.std.specs.FinMap as map
use Rattle.super_block.specs.declared.page.Super.{Super}
use Rattle.volume_model.specs.Xattrs.{told, name_key, uuid_key}
use Rattle.volume_model.specs.Volumes.{Volume, Volumes, Fixed, slots_of, head_of}
use Rattle.volume_model.specs.Refusals.{is_taken, refusal}
use Rattle.volume_model.specs.declared.command.VolumeRef.{VolumeRef}
use Rattle.volume_model.specs.declared.command.Command.{Command}
use Rattle.volume_model.specs.declared.reply.Reply.{Reply}
use Rattle.blob_meta.specs.declared.meta.Meta.{Meta}
use Rattle.blob_meta.specs.Faults.{is_thin}
use Rattle.blob_meta.specs.Parents.{head_of_id, parent_of, is_read_only, is_locked}

-- A volume shows a blob's metadata. Of its live attributes `name` and `uuid` alone have to tell what those of the
-- metadata do: others may be set and not synced yet.
pub record ShowsMeta (f : Fixed) (x : Volume) (m : Meta) : Type 0 where
  pub name_told : told x.live name_key ≡ told m.xattrs name_key
  pub uuid_told : told x.live uuid_key ≡ told m.xattrs uuid_key
  pub slots_are : slots_of f x ≡ length m.map
  pub thin_is : x.thin ≡ is_thin m.flags
  pub read_only_is : x.read_only ≡ is_read_only m.flags
  pub locked_is : x.locked ≡ is_locked m.flags
  pub parent_is : x.parent ≡ parent_of m

-- at a head: neither a volume nor a blob, or a volume that shows the blob
abbrev pub ShowsAt : Fixed → Option Volume → Option Meta → Type 0
ShowsAt f None None = Unit {0}
ShowsAt f (Some x) (Some m) = ShowsMeta f x m
ShowsAt f _ _ = ⊥

-- Volumes show metadata, at each head: in a store whose super blob the super block names, and all whose heads are below
-- its number of metadata pages, which 32 bits can count.
pub record ShowsMetas (f : Fixed) (sup : Super) (metas : map.FinMap nat_cmp Meta) (v : Volumes) : Type 0 where
  pub super_is : f.super_blob ≡ head_of_id sup.super_blob
  pub some_pages : 0 < f.cluster_pages
  pub few_heads : f.md_len ≤ 2 ^ 32
  pub heads_below : (h : ℕ) → IsSome (map.get metas h) → h < f.md_len
  pub shown : (h : ℕ) → ShowsAt f (v h) (map.get metas h)

module _ (metas : map.FinMap nat_cmp Meta) (sup : Super) where
  -- The first cause for which the command is refused, if there is one, in all volumes that show the metadata.
  abbrev pub IsFirstRefusal : Command → Option Reply → Type 0
  IsFirstRefusal command first = (f : Fixed) (v : Volumes) → ShowsMetas f sup metas v → refusal f v command ≡ first

  -- The head that a reference means, if it means one, in all volumes that show the metadata.
  abbrev pub IsHeadMeant : VolumeRef → Option ℕ → Type 0
  IsHeadMeant volume head = (f : Fixed) (v : Volumes) → ShowsMetas f sup metas v → head_of f v volume ≡ head

  -- Whether a volume has the name, in all volumes that show the metadata.
  abbrev pub IsTakenIn : List ℕ → Bool → Type 0
  IsTakenIn name taken = (f : Fixed) (v : Volumes) → ShowsMetas f sup metas v → is_taken f v name ≡ taken
