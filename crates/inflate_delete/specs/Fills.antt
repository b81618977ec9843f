-- Which slots of a blob an inflate or a decouple fills.
use Rattle.std.specs.Prelude.{◌≡◌, ℕ, nat_lt, Bool, false, ◌&&◌, is_some, is_none, length, Option}
use Rattle.std.specs.Option.{option_and_then, option_map_or}
use Rattle.volume_model.specs.declared.command.VolumeRef.{VolumeRef}
use Rattle.volume_model.specs.declared.command.Command.{Command}
use Rattle.volume_model.specs.declared.command.Command.TheVariants as c
use Rattle.blob_meta.specs.declared.meta.Meta.{Meta}
use Rattle.blob_meta.specs.Parents.{parent_of, slot}
use Rattle.inflate_delete.specs.declared.filling.FillKind.{FillKind}
use Rattle.inflate_delete.specs.declared.filling.FillKind.TheVariants.{Inflate, Decouple}

-- the command for which slots are filled
abbrev pub command_of : FillKind → VolumeRef → Command
command_of Inflate meant = c.Inflate meant
command_of Decouple meant = c.Decouple meant

-- the blob's direct parent, if it has one that is there
abbrev pub parent_blob : (ℕ → Option Meta) → Meta → Option Meta
parent_blob metas m = option_and_then metas (parent_of m)

-- the blob has the slot, without a cluster
abbrev pub is_empty_slot : Meta → ℕ → Bool
is_empty_slot m at = nat_lt at (length m.map) && is_none (slot m at)

-- An inflate fills every empty slot of a blob, a decouple those that the own map of this parent holds.
abbrev pub is_to_fill_over : FillKind → Meta → Option Meta → ℕ → Bool
is_to_fill_over Inflate m parent at = is_empty_slot m at
is_to_fill_over Decouple m parent at = is_empty_slot m at && option_map_or (λ p. is_some (slot p at)) parent false

-- the slots of the blob at a head that are still to be filled, over its direct parent
abbrev pub is_to_fill : (ℕ → Option Meta) → ℕ → FillKind → ℕ → Bool
is_to_fill metas volume kind at =
    option_map_or (λ m. is_to_fill_over kind m (parent_blob metas m) at) (metas volume) false

-- no slot is
abbrev pub IsFilled : (ℕ → Option Meta) → ℕ → FillKind → Type 0
IsFilled metas volume kind = (at : ℕ) → is_to_fill metas volume kind at ≡ false
