-- A claim is held for the channel's own write, but on the fill's row, in each state that turns lead to.
use Rattle.std.proofs.Common.{◌≡◌, ◌≢◌, ℕ, Bool, List, Option, Some, None, refl, sym, ◌∙◌, ap, subst}
use Rattle.volume_model.specs.declared.command.Command.{Command}
use Rattle.store_model.specs.Cases.{Kind, Turn}
use Rattle.store_model.specs.Rows.{Claiming, Copying, Decided, Ended, fill_row, Idle, InJob, OpenClaim, Posted}
use Rattle.store_model.specs.Rows.{Ready, Row, Stage}
use Rattle.store_model.specs.StoreState.{ForCommand, ForInsert, ForRepair, JobState, Service, StoreState}
use Rattle.turn_columns.specs.Columns as edge
use Rattle.turn_columns.specs.Columns.{breaks, Brought, done, Edge, goes_on, HasWrite, IsBegun, JobColumn, JobGoes}
use Rattle.turn_columns.specs.Columns.{leaves}
use Rattle.turn_columns.specs.Columns.{MayReturn, Moved, moves, RowsGo, stage_logged, starts}
use Rattle.turn_columns.specs.KindColumns.{job_column}
use Rattle.turn_columns.proofs.EachRow.{each_row}
use Rattle.turn_columns.proofs.Moving.{moved}

-- a row that holds a claim has a write to make, but the fill's
abbrev pub HasOwn : ℕ → Row → Type 0
HasOwn channel row = channel ≢ fill_row → (claim : OpenClaim) → row.claim ≡ Some claim → HasWrite row.left

-- a row that waits for its insert; a channel's has a write to make
pub record WaitsHere (channel : ℕ) (row : Row) : Type 0 where
  pub stage : row.stage ≡ InJob
  pub writes : channel ≢ fill_row → HasWrite row.left

pub record AreOwn (p : StoreState) : Type 0 where
  pub claims : (row : ℕ) → HasOwn row (p.rows row)
  pub inserts : (job : JobState) (row : ℕ) → p.job ≡ Some job → job.serves ≡ ForInsert row → WaitsHere row (p.rows row)

-- what a step of one row leaves of this
record OwnStep (k : ℕ) (old new : Row) : Type 0 where
  claims : HasOwn k old → HasOwn k new
  waits : old.stage ≡ InJob → new.stage ≡ InJob → new.left ≡ old.left

stays : (k : ℕ) (row : Row) → OwnStep k row row
stays k row = record { claims = λ own. own; waits = λ was is. refl }

module _ (pages k : ℕ) (old new : Row) where
  -- it holds no claim then, and isn't in the job
  frees : (left : List Command) (stage : Stage) → (stage ≡ InJob → ⊥)
      → new ≡ record { left = left; stage = stage; claim = None } → OwnStep k old new
  frees left stage out is = record {
    claims = λ own ne claim holds. let bad = sym (ap (λ (r : Row). r.claim) is) ∙ holds in absurd (cc bad);
    waits = λ was at. absurd (out (sym (ap (λ (r : Row). r.stage) is) ∙ at));
  }

  -- it was at another stage, and has these commands as before, or a write
  goes_out : (stage : Stage) → old.stage ≡ stage → (stage ≡ InJob → ⊥) → (HasOwn k old → HasOwn k new)
      → OwnStep k old new
  goes_out stage at out own = record { claims = own; waits = λ was is. absurd (out (sym at ∙ was)) }

  keeps : (left : List Command) (stage next : Stage) (claim : OpenClaim)
      → old ≡ record { left = left; stage = stage; claim = Some claim } → (stage ≡ InJob → ⊥)
      → new ≡ record { left = left; stage = next; claim = Some claim } → OwnStep k old new
  keeps left stage next claim was out is = goes_out stage (ap (λ (r : Row). r.stage) was) out
      (λ own ne x holds. subst HasWrite (ap (λ (r : Row). r.left) was ∙ sym (ap (λ (r : Row). r.left) is))
      (own ne claim (ap (λ (r : Row). r.claim) was)))

  entry_out : (stage : Stage) → stage_logged stage ≡ InJob → ⊥
  entry_out (Posted serial) bad = cc bad
  entry_out InJob bad = cc bad
  entry_out Idle bad = cc bad
  entry_out Claiming bad = cc bad
  entry_out (Copying n) bad = cc bad
  entry_out Ready bad = cc bad
  entry_out (Decided outcome) bad = cc bad
  entry_out Ended bad = cc bad

  own_step : Edge pages k old new → OwnStep k old new
  own_step (edge.logs command rest stage left at may is) = frees _ (stage_logged stage) (entry_out stage) is
  own_step (edge.gives_up fills stage at may is) = frees _ (stage_logged stage) (entry_out stage) is
  own_step (edge.returns stage at may is) = frees _ Idle (λ bad. cc bad) is
  own_step (edge.ends_use fills is) = frees _ Idle (λ bad. cc bad) is
  own_step (edge.ends at is) = frees _ Ended (λ bad. cc bad) is
  own_step (edge.asks command rest serial meta at is) = frees _ (Posted serial) (λ bad. cc bad) is
  own_step (edge.finds_empty left write at is) = frees _ Claiming (λ bad. cc bad) is
  own_step (edge.loses_insert serial at is) = frees _ _ (λ bad. cc bad) is
  own_step (edge.begins command rest serial at is) = goes_out (Posted serial) (ap (λ (r : Row). r.stage) at)
      (λ bad. cc bad)
      (λ own ne claim holds. let bad = sym (ap (λ (r : Row). r.claim) is) ∙ holds in absurd (cc bad))
  own_step (edge.claims left claim write at is) = goes_out Claiming (ap (λ (r : Row). r.stage) at) (λ bad. cc bad)
      (λ own ne x holds. subst HasWrite (sym (ap (λ (r : Row). r.left) is)) write)
  own_step (edge.claims_fill fills claim at is) = goes_out Idle (ap (λ (r : Row). r.stage) at) (λ bad. cc bad)
      (λ own ne x holds. absurd (ne fills))
  own_step (edge.copies left claim n at is) = keeps left _ _ claim at (λ bad. cc bad) is
  own_step (edge.sends left claim serial at is) = keeps left _ _ claim at (λ bad. cc bad) is
  own_step (edge.begins_insert left claim serial at is) = keeps left _ _ claim at (λ bad. cc bad) is
  own_step (edge.inserts rest at is) = record {
    claims = λ own ne claim holds. let bad = sym (ap (λ (r : Row). r.claim) is) ∙ holds in absurd (cc bad);
    waits = λ was now. ap (λ (r : Row). r.left) is;
  }

module _ (p q : StoreState) (own : AreOwn p) (pages : ℕ) (named : Option ℕ)
    (rows : RowsGo pages named p.rows q.rows) where
  step : (k : ℕ) → OwnStep k (p.rows k) (q.rows k)
  step = each_row pages OwnStep stays (own_step pages) named p.rows q.rows rows

  -- the row of an insert waits on
  on : (row : ℕ) → WaitsHere row (p.rows row) → (q.rows row).stage ≡ InJob → WaitsHere row (q.rows row)
  on row was is = record {
    stage = is;
    writes = λ ne. subst HasWrite (sym ((step row).waits was.stage is)) (was.writes ne);
  }

  begun : (serves : Service) → IsBegun serves q.rows → (row : ℕ) → serves ≡ ForInsert row → WaitsHere row (q.rows row)
  begun (ForCommand channel) is row bad = absurd (cc bad)
  begun ForRepair is row bad = absurd (cc bad)
  begun (ForInsert other) is row same =
      let e : other ≡ row = cc same in
      subst (λ n. WaitsHere n (q.rows n)) e (record {
        stage = is.stage;
        writes = λ ne. (step other).claims (own.claims other) ne is.claim is.holds;
      })

  inserts : (column : JobColumn) → JobGoes column p q → (job : JobState) (row : ℕ) → q.job ≡ Some job
      → job.serves ≡ ForInsert row → WaitsHere row (q.rows row)
  inserts leaves x job row is serves =
      let was = own.inserts job row (sym x.same ∙ is) serves in
      subst (WaitsHere row) (sym (x.apart row was.stage)) was
  inserts starts x job row is serves =
      let both : Some x.job ≡ Some job = sym x.is ∙ is in
      let same : x.job ≡ job = cc both in
      begun x.job.serves x.begun row (ap (λ (j : JobState). j.serves) same ∙ serves)
  inserts breaks none job row is serves = let bad = sym none ∙ is in absurd (cc bad)
  inserts moves (done none) job row is serves = let bad = sym none ∙ is in absurd (cc bad)
  inserts moves (goes_on old new was now same waits) job row is serves =
      let both : Some new ≡ Some job = sym now ∙ is in
      let e : new ≡ job = cc both in
      let mine : old.serves ≡ ForInsert row = sym same ∙ ap (λ (j : JobState). j.serves) e ∙ serves in
      let before = own.inserts old row was mine in
      on row before (waits row mine before.stage)

pub own_after : (told : Bool) (p q : StoreState) (k : Kind) → AreOwn p → Turn told p k q → AreOwn q
own_after told p q k own t = let x = moved p q told k t in record {
  claims = λ row. (step p q own _ _ x.rows row).claims (own.claims row);
  inserts = inserts p q own _ _ x.rows (job_column k) x.jobs;
}
