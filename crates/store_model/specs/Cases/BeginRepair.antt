-- The turn begins_repair.
use Rattle.std.specs.Prelude.{◌≡◌, List, [], ◌∷◌, Some, None, true}
use Rattle.blob_meta.specs.Repairs.{repairs}
use Rattle.blob_meta.specs.declared.job.Replacement.{Replacement}
use Rattle.store_model.specs.Jobs.{IsLaid}
use Rattle.store_model.specs.Phases.{phases_of, Replacing, taken_by}
use Rattle.store_model.specs.Places.{all_set}
use Rattle.store_model.specs.StoreState.{ForRepair, marked, StoreState}
use Rattle.store_model.specs.Touches.{TurnKind, untouched}

-- The first repair that is due begins: a blob that is kept loses its marks, or, where no such is left, one is erased.
pub record BeginsRepair (p q : StoreState) : Type 0 where
  pub runs : p.stopped ≡ None
  pub no_job : p.job ≡ None
  pub repair : Replacement
  pub others : List Replacement
  pub due : repairs p.super.md_len p.base ≡ repair ∷ others
  pub replacing : Replacing
  pub laid : IsLaid p.super p.base p.chains p.pages [] repair replacing
  pub next : q ≡ record p {
    job = Some (marked p.clean
        (record { serves = ForRepair; freeze = None; claimed = []; written = []; todo = phases_of replacing None [] }));
    pages = all_set p.pages (taken_by replacing) true;
  }

abbrev pub kind : TurnKind
kind = record { Case = λ told p q. BeginsRepair p q; touch = λ told p q t. untouched; OfJob = ⊥ }
