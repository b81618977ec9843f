-- The printed text of a store: a line for the store, one for its super blob, and one for each of its volumes.
use Rattle.std.specs.Prelude.{ℕ, ◌-◌, ◌==◌, nat_lt, if◌then◌else◌, Bool, List, [], ◌++◌, Option, Some, None, is_some}
use Rattle.std.specs.Prelude.{length, count_by, decimal, codes, option_and_then}
use Rattle.std.specs.List.{before_first, flat_map, range_with_len}
use Rattle.std.specs.Option.{option_map_or}
use Rattle.std.specs.Ordering.{nat_cmp}
use Rattle.std.specs.FinMap as map
use Rattle.bit_array.specs.Bits.{member_count}
use Rattle.super_block.specs.Numbers.{clusters_of}
use Rattle.super_block.specs.declared.masks.Masks.{Masks}
use Rattle.super_block.specs.declared.page.Super.{Super}
use Rattle.volume_model.specs.Volumes.{is_given_head}
use Rattle.volume_model.specs.Xattrs.{told, name_key, uuid_key}
use Rattle.volume_model.specs.declared.reply.Df.{Df}
use Rattle.blob_meta.specs.Faults.{is_thin}
use Rattle.blob_meta.specs.Parents.{head_of_id, is_read_only, parent_of}
use Rattle.blob_meta.specs.declared.meta.Meta.{Meta}
use Rattle.running_store.specs.declared.loaded.Loaded.{Loaded}
use Rattle.blob_report.specs.Pieces.{head_text, shown_bytes}
use Rattle.blob_report.specs.Text.{filling_text, writing_text}

-- the metadata of blobs, by their heads
abbrev pub MetasByHead : Type 0
MetasByHead = map.FinMap nat_cmp Meta

-- how many places aren't in a set
abbrev pub places_free : List Bool → ℕ
places_free bits = length bits - member_count bits

-- how many clusters and metadata pages a store has, and how many of each are free
abbrev pub space_of : Super → Masks → Df
space_of sup masks = record {
  free_clusters = places_free masks.clusters;
  clusters = clusters_of sup;
  free_pages = places_free masks.pages;
  pages = sup.md_len;
}

-- a store is clean exactly where the field is 1
abbrev pub clean_digit : Super → ℕ
clean_digit sup = if sup.clean == 1 then 1 else 0

-- a store of this kind, with clusters of so many bytes
abbrev pub line_of : List ℕ → ℕ → Df → ℕ → List ℕ
line_of kind cluster_size space clean =
    codes "store type " ++ shown_bytes kind ++ codes " cluster " ++ decimal cluster_size
    ++ codes " clusters " ++ decimal space.clusters ++ codes " free " ++ decimal space.free_clusters
    ++ codes " pages " ++ decimal space.pages ++ codes " free " ++ decimal space.free_pages
    ++ codes " clean " ++ decimal clean ++ codes "\n"

-- the kind counts up to its first NUL
abbrev pub store_line : Super → Masks → List ℕ
store_line sup masks = line_of (before_first (λ b. b == 0) sup.bstype) sup.cluster_size (space_of sup masks)
    (clean_digit sup)

-- a blob by its head, its name and its uuid
abbrev pub named_text : ℕ → Meta → List ℕ
named_text head m =
    codes "@" ++ decimal head ++ codes " " ++ shown_bytes (told m.xattrs name_key)
    ++ codes " " ++ shown_bytes (told m.xattrs uuid_key)

-- the line of the super blob
abbrev pub super_line : ℕ → Meta → List ℕ
super_line head m = codes "super " ++ named_text head m ++ codes "\n"

-- the slots of a volume, how many of them it has filled itself, its parent, and whether it is thin and can be written
abbrev pub slots_text : Meta → List ℕ
slots_text m =
    codes " slots " ++ decimal (length m.map) ++ codes " own " ++ decimal (count_by is_some m.map)
    ++ codes " parent " ++ head_text (parent_of m)
    ++ filling_text (is_thin m.flags) ++ writing_text (is_read_only m.flags) ++ codes "\n"

-- the line of a volume
abbrev pub volume_line : ℕ → Meta → List ℕ
volume_line head m = named_text head m ++ slots_text m

-- the line of the blob at a head, if one is there
abbrev pub line_at : (ℕ → Meta → List ℕ) → MetasByHead → ℕ → List ℕ
line_at line metas head = option_map_or (line head) (map.get metas head) []

-- the head of the super blob, a place of the metadata region, if the super block names one
abbrev pub super_head : Super → Option ℕ
super_head sup =
    option_and_then (λ head. if nat_lt head sup.md_len then Some head else None) (head_of_id sup.super_blob)

-- the line of the super blob, if there is one
abbrev pub super_text : Super → MetasByHead → List ℕ
super_text sup metas = option_map_or (line_at super_line metas) (super_head sup) []

-- the line of the volume at a head: the super blob is none
abbrev pub volume_text : Super → MetasByHead → ℕ → List ℕ
volume_text sup metas head =
    if is_given_head head (head_of_id sup.super_blob) then [] else line_at volume_line metas head

-- the store, its super blob, and its volumes by ascending head
abbrev pub text_of_store : Super → MetasByHead → Masks → List ℕ
text_of_store sup metas masks =
    store_line sup masks ++ super_text sup metas ++ flat_map (volume_text sup metas) (range_with_len 0 sup.md_len)

-- the text of a store as it was loaded
abbrev pub store_text : {D : Type 0} → Loaded D → List ℕ
store_text loaded = text_of_store loaded.sup loaded.metas loaded.masks
