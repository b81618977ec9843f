-- Why a blob isn't inflated or decoupled, by metadata.
use Rattle.std.specs.Prelude.{nat_lt, Bool, false, ◌&&◌, is_none, [], ◌∷◌, length}
use Rattle.std.specs.Option.{option_map_or}
use Rattle.std.specs.Ordering.{nat_cmp}
use Rattle.std.specs.FinMap as map
use Rattle.volume_model.specs.Refusals.{Causes}
use Rattle.volume_model.specs.declared.reply.Reply.TheVariants as r
use Rattle.blob_meta.specs.declared.meta.Meta.{Meta}
use Rattle.blob_meta.specs.Parents.{is_read_only, parent_of}
use Rattle.blob_meta.specs.SlotCounts.{has_longer_parent}
use Rattle.inflate_delete.specs.Fills.{parent_blob}
use Rattle.inflate_delete.specs.declared.filling.FillKind.{FillKind}
use Rattle.inflate_delete.specs.declared.filling.FillKind.TheVariants.{Inflate, Decouple}

-- of an inflate, in their order
abbrev pub inflate_causes : Bool → Bool → Causes
inflate_causes reserved read_only = (reserved, r.Reserved) ∷ (read_only, r.ReadOnly) ∷ []

-- of a decouple, in their order
abbrev pub decouple_causes : Bool → Bool → Bool → Bool → Causes
decouple_causes reserved read_only no_parent short =
    (reserved, r.Reserved) ∷ (read_only, r.ReadOnly) ∷ (no_parent, r.NoParent) ∷ (short, r.Short) ∷ []

module _ (metas : map.FinMap nat_cmp Meta) where
  -- It would read its parent's parent where the parent, which has fewer slots than both, reads zeros.
  abbrev pub is_short_under : Meta → Bool
  is_short_under m = option_map_or (λ p. has_longer_parent metas p && nat_lt (length p.map) (length m.map))
      (parent_blob (map.get metas) m) false

  -- of each kind, at a blob that is reserved or not
  abbrev pub fill_causes : FillKind → Bool → Meta → Causes
  fill_causes Inflate reserved m = inflate_causes reserved (is_read_only m.flags)
  fill_causes Decouple reserved m =
      decouple_causes reserved (is_read_only m.flags) (is_none (parent_of m)) (is_short_under m)
