-- What a listing says of a loaded store, value by value.
use Rattle.std.specs.Prelude.{ℕ, ◌==◌, if◌then◌else◌, Bool, List, [], ◌∷◌, Option, is_some, length, count_by}
use Rattle.std.specs.Prelude.{option_and_then, option_map}
use Rattle.std.specs.List.{before_first, flat_map, range_with_len}
use Rattle.std.specs.Option.{option_map_or}
use Rattle.std.specs.FinMap as map
use Rattle.super_block.specs.declared.masks.Masks.{Masks}
use Rattle.super_block.specs.declared.page.Super.{Super}
use Rattle.volume_model.specs.Volumes.{is_given_head}
use Rattle.volume_model.specs.Xattrs.{told, name_key, uuid_key}
use Rattle.volume_model.specs.declared.reply.Df.{Df}
use Rattle.blob_meta.specs.Faults.{is_thin}
use Rattle.blob_meta.specs.Parents.{head_of_id, is_read_only, parent_of}
use Rattle.blob_meta.specs.declared.meta.Meta.{Meta}
use Rattle.running_store.specs.declared.loaded.Loaded.{Loaded}
use Rattle.blob_report.specs.Pieces.{shown_bytes}
use Rattle.blob_report.specs.StoreText.{MetasByHead, space_of, super_head}

-- the store itself: its kind, the bytes of a cluster, how much there is and is free, and whether it is clean
pub record StoreFacts : Type 0 where
  pub kind : List ℕ
  pub cluster_size : ℕ
  pub space : Df
  pub clean : Bool

-- a blob by its head, its name and its uuid
pub record BlobFacts : Type 0 where
  pub head : ℕ
  pub name : List ℕ
  pub uuid : List ℕ

-- a volume: its slots, how many of them it has filled itself, its parent's head, how slots are filled and who may write
pub record VolumeFacts : Type 0 where
  pub blob : BlobFacts
  pub slots : ℕ
  pub own : ℕ
  pub parent : Option ℕ
  pub thin : Bool
  pub read_only : Bool

-- the store, its super blob, if there is one, and its volumes by ascending head
pub record Listing : Type 0 where
  pub store : StoreFacts
  pub super_blob : Option BlobFacts
  pub volumes : List VolumeFacts

-- Each text is as it is shown in lines: bytes that can't be seen by their digits. The kind counts up to its first NUL.
abbrev pub store_facts : Super → Masks → StoreFacts
store_facts sup masks = record {
  kind = shown_bytes (before_first (λ b. b == 0) sup.bstype);
  cluster_size = sup.cluster_size;
  space = space_of sup masks;
  clean = sup.clean == 1;
}

abbrev pub blob_facts : ℕ → Meta → BlobFacts
blob_facts head m = record {
  head = head;
  name = shown_bytes (told m.xattrs name_key);
  uuid = shown_bytes (told m.xattrs uuid_key);
}

abbrev pub volume_facts : ℕ → Meta → VolumeFacts
volume_facts head m = record {
  blob = blob_facts head m;
  slots = length m.map;
  own = count_by is_some m.map;
  parent = parent_of m;
  thin = is_thin m.flags;
  read_only = is_read_only m.flags;
}

-- the super blob, if the super block names one that is there
abbrev pub super_facts : Super → MetasByHead → Option BlobFacts
super_facts sup metas =
    option_and_then (λ head. option_map (blob_facts head) (map.get metas head)) (super_head sup)

-- the volume at a head, if one is there: the super blob is none
abbrev pub volume_at : Super → MetasByHead → ℕ → List VolumeFacts
volume_at sup metas head =
    if is_given_head head (head_of_id sup.super_blob) then []
    else option_map_or (λ m. volume_facts head m ∷ []) (map.get metas head) []

-- the volumes below a head, by ascending head
abbrev pub volumes_below : Super → MetasByHead → ℕ → List VolumeFacts
volumes_below sup metas end = flat_map (volume_at sup metas) (range_with_len 0 end)

abbrev pub listing_in : Super → MetasByHead → Masks → Listing
listing_in sup metas masks = record {
  store = store_facts sup masks;
  super_blob = super_facts sup metas;
  volumes = volumes_below sup metas sup.md_len;
}

-- what a store lists as it was loaded
abbrev pub listing_of : {D : Type 0} → Loaded D → Listing
listing_of loaded = listing_in loaded.sup loaded.metas loaded.masks
