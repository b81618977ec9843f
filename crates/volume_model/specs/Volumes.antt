-- What a user sees of a store: volumes, as whole lists of pages, with nothing of maps, clusters or masks.
use Rattle.std.specs.Prelude.{ℕ, ◌-◌, ◌*◌, ◌/◌, ◌==◌, if◌then◌else◌, Option, Some, None, Bool, false, ◌&&◌, not}
use Rattle.std.specs.Prelude.{is_some, List, [], ◌∷◌, ◌++◌, length, take, replicate}
use Rattle.std.specs.Int.{to_le_bytes, w64}
use Rattle.std.specs.List.{find, filter, range_with_len, sum_by, repeat}
use Rattle.std.specs.Option.{option_map_or}
use Rattle.std.specs.Str.{bytes_eq}
use Rattle.volume_model.specs.Uuids.{default_uuid, uuid_text, uuid_said}
use Rattle.volume_model.specs.Xattrs.{Text, Xattrs, told, with_nul, name_key, uuid_key}
use Rattle.volume_model.specs.declared.command.VolumeRef.{VolumeRef}
use Rattle.volume_model.specs.declared.command.VolumeRef.TheVariants.{Head, Named}
use Rattle.volume_model.specs.declared.command.PageWord.{PageWord}
use Rattle.volume_model.specs.declared.command.PageWord.TheVariants.{Fill, Full}

-- 4096 bytes
abbrev pub Page : Type 0
Page = List ℕ

-- a volume with all that a user sees of it, its pages written out
pub record Volume : Type 0 where
  -- the content of each page, in order
  pub pages : List Page
  -- the extended attributes as they are read, and as they survive a crash
  pub live : Xattrs
  pub synced : Xattrs
  -- slots are filled only when they are written
  pub thin : Bool
  -- no page and no attribute can be written; a locked volume can't be deleted either
  pub read_only : Bool
  pub locked : Bool
  -- the head of the volume that serves the slots which this one hasn't filled
  pub parent : Option ℕ

-- by heads: a head is the place of a blob's first metadata page
abbrev pub Volumes : Type 0
Volumes = ℕ → Option Volume

-- what is fixed for a run: the pages of a slot, the number of metadata pages, and the head that the super block names
-- as the super blob's
pub record Fixed : Type 0 where
  pub cluster_pages : ℕ
  pub md_len : ℕ
  pub super_blob : Option ℕ

-- 4096 zeros
unfoldable pub zero_page : Page
zero_page = replicate 4096 0

-- 512 copies of the eight little-endian bytes of a word
unfoldable pub fill_page : ℕ → Page
fill_page word = repeat 512 (to_le_bytes w64 word)

-- the bytes of a page that is written
abbrev pub page_of : PageWord → Page
page_of (Fill word) = fill_page word
page_of (Full page) = page.value

-- so many slots of zeros
abbrev pub zero_slots : Fixed → ℕ → List Page
zero_slots f slots = replicate (slots * f.cluster_pages) zero_page

-- cut to so many slots, or with slots of zeros added
abbrev pub resized : Fixed → List Page → ℕ → List Page
resized f pages slots = take (slots * f.cluster_pages) pages
    ++ replicate (slots * f.cluster_pages - length pages) zero_page

-- every head that there may be, ascending
abbrev pub heads : Fixed → List ℕ
heads f = range_with_len 0 f.md_len

-- the head is the one that is given, if one is
abbrev pub is_given_head : ℕ → Option ℕ → Bool
is_given_head h o = option_map_or (λ k. k == h) o false

-- the head is the super blob's
abbrev pub is_super : Fixed → ℕ → Bool
is_super f h = is_given_head h f.super_blob

-- a volume's slots: its pages by those of a slot
abbrev pub slots_of : Fixed → Volume → ℕ
slots_of f x = length x.pages / f.cluster_pages

module _ (f : Fixed) (v : Volumes) where
  -- the slots of the volume at a head, 0 where there is none
  abbrev pub slots_at : ℕ → ℕ
  slots_at h = option_map_or (slots_of f) (v h) 0

  -- those of all volumes together
  abbrev pub all_slots : ℕ
  all_slots = sum_by slots_at (heads f)

  -- names are looked up among the live volumes without the super blob
  abbrev pub has_name : Text → ℕ → Bool
  has_name name h = not (is_super f h) && option_map_or (λ x. bytes_eq (told x.live name_key) name) (v h) false

  -- the lowest head of that name
  abbrev pub head_named : Text → Option ℕ
  head_named name = find (has_name name) (heads f)

  -- the head that a reference means: a name's, or any that is live, also the super blob's
  abbrev pub head_of : VolumeRef → Option ℕ
  head_of (Head h) = if is_some (v h) then Some h else None
  head_of (Named name) = head_named name

  -- the heads of the volumes whose parent this is
  abbrev pub clones : ℕ → List ℕ
  clones h = filter (λ c. option_map_or (λ x. is_given_head h x.parent) (v c) false) (heads f)

  -- the super blob's uuid; the nil uuid where there is no super blob or it has no uuid
  abbrev pub store_uuid : List ℕ
  store_uuid = uuid_said (option_map_or (λ s. option_map_or (λ x. told x.live uuid_key) (v s) []) f.super_blob [])

  -- the attributes of a new volume: `name` and `uuid` alone, the uuid being the given one or else the name's in the
  -- store's
  abbrev pub two_xattrs : Text → Option (List ℕ) → Xattrs
  two_xattrs name given =
      record { key = name_key; value = with_nul name }
      ∷ record {
        key = uuid_key;
        value = with_nul (uuid_text
            (option_map_or (λ bytes. bytes) given (default_uuid store_uuid name)));
      }
      ∷ []
