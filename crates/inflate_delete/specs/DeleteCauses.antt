-- Why a blob isn't deleted, by its metadata and its clones.
use Rattle.std.specs.Prelude.{ℕ, nat_lt, nat_le, Bool, false, ◌&&◌, ◌||◌, List, [], ◌∷◌, length}
use Rattle.std.specs.Option.{option_map_or}
use Rattle.std.specs.Ordering.{nat_cmp}
use Rattle.std.specs.FinMap as map
use Rattle.volume_model.specs.Refusals.{Causes}
use Rattle.volume_model.specs.declared.reply.Reply.TheVariants as r
use Rattle.blob_meta.specs.declared.meta.Meta.{Meta}
use Rattle.blob_meta.specs.Parents.{is_locked}
use Rattle.blob_meta.specs.SlotCounts.{has_longer_parent}
use Rattle.inflate_delete.specs.Clones.{only_blob}

-- in their order, of a blob with so many clones
abbrev pub delete_causes : Bool → Bool → ℕ → Bool → Causes
delete_causes reserved locked clones short =
    (reserved, r.Reserved) ∷ (locked, r.ReadOnly) ∷ (nat_le 2 clones, r.Busy clones) ∷ (short, r.Short) ∷ []

module _ (metas : map.FinMap nat_cmp Meta) (m : Meta) (clones : List ℕ) where
  -- the blob is locked, or its one clone is
  abbrev pub locked_by : Bool
  locked_by = is_locked m.flags || option_map_or (λ n. is_locked n.flags) (only_blob metas clones) false

  -- its one clone would read the parent where the blob, which has fewer slots than both, reads zeros
  abbrev pub is_short_between : Bool
  is_short_between = option_map_or (λ n. has_longer_parent metas m && nat_lt (length m.map) (length n.map))
      (only_blob metas clones) false
