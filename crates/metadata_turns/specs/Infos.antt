-- What a store has in memory of its volumes: the replies to `info`, `list` and `df`.
use Rattle.std.specs.Prelude.{◌≡◌, ℕ, ◌<◌, ◌^◌, if◌then◌else◌, Option, Some, None, List, length}
use Rattle.std.specs.List.{filter_map, range_with_len}
use Rattle.std.specs.Option.{option_and_then, option_map, option_map_or}
use Rattle.std.specs.Ordering.{nat_cmp}
use Rattle.std.specs.FinMap as map
use Rattle.super_block.specs.declared.page.Super.{Super}
use Rattle.volume_model.specs.Volumes.{is_given_head}
use Rattle.volume_model.specs.Xattrs.{Xattrs, name_key, told, uuid_key}
use Rattle.volume_model.specs.declared.command.VolumeRef.{VolumeRef}
use Rattle.volume_model.specs.declared.command.Command.{Command}
use Rattle.volume_model.specs.declared.command.Command.TheVariants as c
use Rattle.volume_model.specs.declared.reply.Df.{Df}
use Rattle.volume_model.specs.declared.reply.Info.{Info}
use Rattle.volume_model.specs.declared.reply.Reply.{Reply}
use Rattle.volume_model.specs.declared.reply.Reply.TheVariants as r
use Rattle.blob_meta.specs.declared.meta.Meta.{Meta}
use Rattle.blob_meta.specs.Faults.{is_thin}
use Rattle.blob_meta.specs.Parents.{head_of_id, is_read_only, parent_of}
use Rattle.blob_meta.specs.ShownBy.{IsHeadMeant}

-- a command that asks what there is, and changes nothing: of one volume, of all, or how much is free
abbrev pub IsQuestion : Command → Type 0
IsQuestion (c.Info volume) = Unit {0}
IsQuestion c.List = Unit {0}
IsQuestion c.Df = Unit {0}
IsQuestion _ = ⊥

-- what its metadata and its live attributes say of the blob at a head
abbrev pub blob_info : ℕ → Meta → Xattrs → Info
blob_info head m live = record {
  head = head;
  name = told live name_key;
  uuid = told live uuid_key;
  slots = length m.map;
  parent = parent_of m;
  thin = is_thin m.flags;
  read_only = is_read_only m.flags;
  xattrs = length live;
}

-- each parent is named by a head of 32 bits
abbrev pub ParentsFit : map.FinMap nat_cmp Meta → Type 0
ParentsFit metas = (h p : ℕ) (m : Meta) → map.get metas h ≡ Some m → parent_of m ≡ Some p → p < 2 ^ 32

module _ (metas : map.FinMap nat_cmp Meta) (live : map.FinMap nat_cmp Xattrs) where
  -- what is known of the blob at a head, if one is there
  abbrev pub info_at : ℕ → Option Info
  info_at head = option_and_then (λ m. option_map (blob_info head m) (map.get live head)) (map.get metas head)

  module _ (sup : Super) where
    -- what a list tells of a head: nothing of the super blob
    abbrev pub listed_at : ℕ → Option Info
    listed_at head = if is_given_head head (head_of_id sup.super_blob) then None else info_at head

    -- all blobs but the super blob, by ascending head
    abbrev pub listed : List Info
    listed = filter_map listed_at (range_with_len 0 sup.md_len)

    -- What is told of the blob that is meant, or that none is.
    pub record TellsInfo (volume : VolumeRef) (reply : Reply) : Type 0 where
      pub head : Option ℕ
      pub meant : IsHeadMeant metas sup volume head
      pub reply_is : reply ≡ option_map_or (λ info. r.Info info) (option_and_then info_at head) r.NoVolume

    -- the reply to such a command, where so much is free
    abbrev pub Tells : Df → Command → Reply → Type 0
    Tells df (c.Info volume) reply = TellsInfo volume reply
    Tells df c.List reply = reply ≡ r.List listed
    Tells df c.Df reply = reply ≡ r.Df df
    Tells df _ reply = ⊥
