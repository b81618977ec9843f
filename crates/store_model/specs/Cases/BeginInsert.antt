-- The turn begins_insert.
use Rattle.std.specs.Prelude.{◌≡◌, ℕ, [], ◌∷◌, Some, None, true}
use Rattle.blob_meta.specs.Repairs.{HasNoMarks}
use Rattle.blob_meta.specs.declared.meta.Meta.{Meta}
use Rattle.store_model.specs.Claiming.{CanInsert, IsCopying}
use Rattle.store_model.specs.Inserting.{with_slot}
use Rattle.store_model.specs.Jobs.{IsLaid}
use Rattle.store_model.specs.Phases.{phases_of, Replacing, taken_by}
use Rattle.store_model.specs.Places.{all_set}
use Rattle.store_model.specs.Rows.{InJob, Posted, with_row}
use Rattle.store_model.specs.StoreState.{ForInsert, marked, StoreState}
use Rattle.store_model.specs.Touches.{TurnKind, untouched}

-- The job of one replacement begins that puts the cluster into the slot, where no repair is left.
pub record BeginsInsert (p q : StoreState) : Type 0 where
  pub serial : ℕ
  pub posted : IsCopying p (Posted serial)
  pub runs : p.stopped ≡ None
  pub no_job : p.job ≡ None
  pub repaired : HasNoMarks p.base
  pub meta : Meta
  pub can : CanInsert p posted.claim meta
  pub replacing : Replacing
  pub laid : IsLaid p.super p.base p.chains p.pages (posted.claim.cluster ∷ [])
      (record { head = posted.claim.head; new = Some (with_slot meta posted.claim.slot posted.claim.cluster) })
      replacing
  pub next : q ≡ record p {
    rows = with_row p.rows posted.row (record { left = posted.left; stage = InJob; claim = Some posted.claim });
    job = Some (marked p.clean (record {
      serves = ForInsert posted.row;
      freeze = None;
      claimed = [];
      written = [];
      todo = phases_of replacing None [];
    }));
    pages = all_set p.pages (taken_by replacing) true;
  }

abbrev pub kind : TurnKind
kind = record { Case = λ told p q. BeginsInsert p q; touch = λ told p q t. untouched; OfJob = ⊥ }
