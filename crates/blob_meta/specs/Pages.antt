-- Where the pages of a blob lie, and what volumes show of them.
use Rattle.std.specs.Prelude.{◌≡◌, ℕ, zero, suc, ◌+◌, ◌*◌, ◌/◌, ◌%◌, nat_lt, if◌then◌else◌, Option, Some, None, length}
use Rattle.std.specs.Option.{option_and_then, option_map}
use Rattle.std.specs.Ordering.{nat_cmp}
use Rattle.std.specs.FinMap as map
use Rattle.super_block.specs.declared.page.Super.{Super}
use Rattle.super_block.specs.Numbers.{cluster_pages_of}
use Rattle.volume_model.specs.Refusals.{refusal}
use Rattle.volume_model.specs.Volumes.{Fixed, Volume, Volumes, slots_of}
use Rattle.volume_model.specs.declared.command.Command.{Command}
use Rattle.volume_model.specs.declared.reply.Reply.{Reply}
use Rattle.volume_model.specs.declared.reply.Reply.TheVariants as r
use Rattle.blob_meta.specs.declared.meta.Meta.{Meta}
use Rattle.blob_meta.specs.Parents.{parent_of, slot}
use Rattle.blob_meta.specs.ShownBy.{ShowsMetas}

-- with so many pages in a cluster
module _ (cluster_pages : ℕ) where
  -- the device's page where the cluster in a page's slot has it, if the slot has one
  abbrev pub own_place : Meta → ℕ → Option ℕ
  own_place m page =
      option_map (λ cluster. cluster * cluster_pages + page % cluster_pages) (slot m (page / cluster_pages))

  module _ (metas : ℕ → Option Meta) where
    -- the parent, if it has the page
    abbrev pub parent_with : Meta → ℕ → Option ℕ
    parent_with m page = option_and_then (λ p. option_and_then (λ parent.
        if nat_lt page (cluster_pages * length parent.map) then Some p else None) (metas p)) (parent_of m)

    -- Where a page of a blob is read, by where its parents' pages are: where its own cluster has it; where the slot is
    -- empty where the parent's page is, if the parent has it; else nowhere, for zeros.
    abbrev pub place_by : (ℕ → ℕ → Option ℕ) → ℕ → Meta → Option ℕ
    place_by place_of page m = in_slot (own_place m page)
      where
        in_slot : Option ℕ → Option ℕ
        in_slot (Some place) = Some place
        in_slot None = option_and_then (λ p. place_of p page) (parent_with m page)

    -- following parents so many times at most
    abbrev pub place_read : ℕ → ℕ → ℕ → Option ℕ
    place_read zero head page = None
    place_read (suc times) head page = option_and_then (place_by (λ p q. place_read times p q) page) (metas head)

-- Volumes show metadata, and their slots have as many pages as the clusters of the store: whole slots of them.
pub record ShowsPages (f : Fixed) (sup : Super) (metas : map.FinMap nat_cmp Meta) (v : Volumes) : Type 0 where
  pub shows : ShowsMetas f sup metas v
  pub cluster_pages_are : f.cluster_pages ≡ cluster_pages_of sup
  pub whole : (h : ℕ) (x : Volume) → v h ≡ Some x → length x.pages ≡ f.cluster_pages * slots_of f x

-- The first cause for which the command is refused, if there is one, in all volumes that show the metadata and its
-- pages.
abbrev pub IsFirstOnPages : map.FinMap nat_cmp Meta → Super → Command → Option Reply → Type 0
IsFirstOnPages metas sup command first = (f : Fixed) (v : Volumes) → ShowsPages f sup metas v
    → refusal f v command ≡ first

-- the causes for which a read or a write of a page may be refused
abbrev pub IsPageCause : Reply → Type 0
IsPageCause r.NoVolume = Unit {0}
IsPageCause r.Reserved = Unit {0}
IsPageCause r.OutOfRange = Unit {0}
IsPageCause r.ReadOnly = Unit {0}
IsPageCause _ = ⊥
