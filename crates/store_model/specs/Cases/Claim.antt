-- The turn claims.
use Rattle.std.specs.Prelude.{◌≡◌, ℕ, ◌/◌, None, Some, true, slice_set}
use Rattle.bit_array.specs.Bits.{IsLeastClear}
use Rattle.super_block.specs.Numbers.{cluster_pages_of}
use Rattle.store_model.specs.Claiming.{IsWriting, MeansSlot, refused_by, staged}
use Rattle.store_model.specs.Rows.{Claiming, Copying}
use Rattle.store_model.specs.StoreState.{StoreState}
use Rattle.store_model.specs.Touches.{TurnKind, untouched}

-- The least clear cluster is claimed for the slot, with the blob's generation, and each of its pages is to be copied.
pub record Claims (p q : StoreState) : Type 0 where
  pub write : IsWriting p Claiming None
  pub runs : p.stopped ≡ None
  pub asked : refused_by p write ≡ None
  pub means : MeansSlot p write None
  pub cluster : ℕ
  pub least : IsLeastClear p.clusters cluster
  pub generation : ℕ
  pub drawn : p.generations means.head ≡ Some generation
  pub next : q ≡ record (staged p write (Copying (cluster_pages_of p.super))
      (Some (record {
        cluster = cluster;
        head = means.head;
        slot = write.page / cluster_pages_of p.super;
        generation = generation;
      }))) {
        clusters = slice_set p.clusters cluster true;
      }

abbrev pub kind : TurnKind
kind = record { Case = λ told p q. Claims p q; touch = λ told p q t. untouched; OfJob = ⊥ }
