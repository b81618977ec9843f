-- A turn of a kind whose column leaves the running job does so.
use Rattle.std.proofs.Common.{◌≡◌, Bool, subst}
use Rattle.store_model.specs.Cases.{Kind, Turn}
use Rattle.store_model.specs.StoreState.{StoreState}
use Rattle.turn_columns.specs.Columns.{leaves, Moved}
use Rattle.turn_columns.specs.KindColumns.{job_column, row_of}
use Rattle.turn_columns.proofs.Moving.{moved}

-- the running job stays, over a turn whose kind leaves it
pub job_stays : (told : Bool) (p q : StoreState) (k : Kind) → job_column k ≡ leaves → Turn told p k q → q.job ≡ p.job
job_stays told p q k is t =
    (subst (λ column. Moved column (row_of told p q k t) p q) is (moved p q told k t)).jobs.same
