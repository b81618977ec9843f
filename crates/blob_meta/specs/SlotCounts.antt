-- How many slots blobs have, and commands that ask for a number of slots.
use Rattle.std.specs.Prelude.{◌≡◌, ℕ, ◌≤◌, ◌<◌, ◌^◌, nat_lt, Bool, false, IsSome, None, length}
use Rattle.std.specs.Option.{option_map_or}
use Rattle.std.specs.Ordering.{nat_cmp}
use Rattle.std.specs.FinMap as map
use Rattle.volume_model.specs.declared.command.Command.{Command}
use Rattle.volume_model.specs.declared.command.Command.TheVariants as c
use Rattle.blob_meta.specs.declared.meta.Meta.{Meta}
use Rattle.blob_meta.specs.Parents.{parent_of}
use Rattle.blob_meta.specs.Resolving.{slots_together}

-- those of the blob at a head, 0 where there is none
abbrev pub slots_at : map.FinMap nat_cmp Meta → ℕ → ℕ
slots_at metas head = option_map_or (λ m. length m.map) (map.get metas head) 0

-- those of all blobs, whatever the number of metadata pages, of at most 2^32, below which all heads are
abbrev pub HasSlots : map.FinMap nat_cmp Meta → ℕ → Type 0
HasSlots metas slots = (md_len : ℕ) → md_len ≤ 2 ^ 32 → ((h : ℕ) → IsSome (map.get metas h) → h < md_len)
    → slots_together md_len (map.get metas) ≡ slots

-- every head is a number of 32 bits
abbrev pub HeadsFit : map.FinMap nat_cmp Meta → Type 0
HeadsFit metas = (h : ℕ) → 2 ^ 32 ≤ h → map.get metas h ≡ None

-- the parent, if there is one, has more slots
abbrev pub has_longer_parent : map.FinMap nat_cmp Meta → Meta → Bool
has_longer_parent metas m = option_map_or (λ p. nat_lt (length m.map) (slots_at metas p)) (parent_of m) false

-- it makes a volume
abbrev pub IsCreate : Command → Type 0
IsCreate (c.Create name slots thick uuid) = Unit {0}
IsCreate _ = ⊥

-- it gives a volume another number of slots
abbrev pub IsResize : Command → Type 0
IsResize (c.Resize volume slots) = Unit {0}
IsResize _ = ⊥

-- it asks for no more slots than a map may have
abbrev pub AsksFewSlots : Command → Type 0
AsksFewSlots (c.Create name slots thick uuid) = slots ≤ 2 ^ 20
AsksFewSlots (c.Resize volume slots) = slots ≤ 2 ^ 20
AsksFewSlots _ = ⊥
