-- The turn claims_fill.
use Rattle.std.specs.Prelude.{◌≡◌, ℕ, [], Some, true, slice_set}
use Rattle.bit_array.specs.Bits.{IsLeastClear}
use Rattle.super_block.specs.Numbers.{cluster_pages_of}
use Rattle.store_model.specs.Filling.{HasToFill}
use Rattle.store_model.specs.Rows.{Copying, fill_row, with_row}
use Rattle.store_model.specs.StoreState.{StoreState}
use Rattle.store_model.specs.Touches.{TurnKind, untouched}

-- The least clear cluster is claimed for the slot that is to be filled next, with the blob's generation, on the fill's
-- row, which works for the command from now on; each of its pages is to be copied.
pub record ClaimsFill (p q : StoreState) : Type 0 where
  pub fill : HasToFill p
  pub cluster : ℕ
  pub least : IsLeastClear p.clusters cluster
  pub generation : ℕ
  pub drawn : p.generations fill.head ≡ Some generation
  pub next : q ≡ record p {
    rows = with_row p.rows fill_row (record {
      left = [];
      stage = Copying (cluster_pages_of p.super);
      claim = Some (record { cluster = cluster; head = fill.head; slot = fill.slot; generation = generation });
    });
    filling = Some fill.posted.channel;
    clusters = slice_set p.clusters cluster true;
  }

abbrev pub kind : TurnKind
kind = record { Case = λ told p q. ClaimsFill p q; touch = λ told p q t. untouched; OfJob = ⊥ }
