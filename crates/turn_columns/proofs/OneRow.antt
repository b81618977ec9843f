-- Shapes for the columns of a kind: a state in which one row went, or two, or the job.
use Rattle.std.proofs.Common.{◌≡◌, ℕ, Bool, true, false, List, [], ◌∷◌, Option, Some, None, refl, sym, ◌∙◌, ap, subst}
use Rattle.std.specs.Prelude.{if◌then◌else◌, ◌==◌}
use Rattle.std.proofs.Math.Path.{fun_ext}
use Rattle.super_block.specs.Numbers.{cluster_pages_of}
use Rattle.volume_model.specs.declared.command.Command.{Command}
use Rattle.volume_model.specs.declared.reply.Reply.{Reply}
use Rattle.store_model.specs.Claiming.{logs_filled, logs_own, LogsFilled, LogsOwn, LogsWork}
use Rattle.store_model.specs.Device.{Device}
use Rattle.store_model.specs.Phases.{Phase}
use Rattle.store_model.specs.Rows.{Answered, Decided, fill_row, InJob, OpenClaim, Posted, Row, Rows, Stage, with_row}
use Rattle.store_model.specs.StoreState.{ForInsert, going_on, JobState, StoreState}
use Rattle.store_model.proofs.RowsKept.{row_other}
use Rattle.turn_columns.specs.Columns.{breaks, Brought, done, Edge, gives_up, goes_on, LeavesInJob, leaves, logs}
use Rattle.turn_columns.specs.Columns.{MayBeLogged, Moved, moves, no_row, one_row, RowsGo, stage_logged, two_rows}

-- a row that changes twice
pub row_twice : (rows : Rows) (ch : ℕ) (first row : Row) → with_row (with_row rows ch first) ch row
    ≡ with_row rows ch row
row_twice rows ch first row = fun_ext (λ k. go (k == ch) k)
  where
    go : (b : Bool) (k : ℕ) → (if b then row else (if b then first else rows k)) ≡ (if b then row else rows k)
    go true k = refl
    go false k = refl

-- a row that isn't in the job changes: those in it stay
pub apart_one : (rows : Rows) (row : ℕ) (now : Row) → ((rows row).stage ≡ InJob → ⊥)
    → LeavesInJob rows (with_row rows row now)
apart_one rows row now out k in_job = row_other rows row now k (λ e. out (subst (λ n. (rows n).stage ≡ InJob) e in_job))

out_of : (row was : Row) → row ≡ was → (was.stage ≡ InJob → ⊥) → row.stage ≡ InJob → ⊥
out_of row was is out at = out (sym (ap (λ (r : Row). r.stage) is) ∙ at)

-- the job goes on for the same, or is done
pub brought : (p q : StoreState) (old next : JobState) (rest : List Phase) → p.job ≡ Some old
    → next.serves ≡ old.serves → q.job ≡ going_on next [] rest
    → ((row : ℕ) → old.serves ≡ ForInsert row → (x : Phase) (xs : List Phase) → rest ≡ x ∷ xs
    → (p.rows row).stage ≡ InJob → (q.rows row).stage ≡ InJob) → Brought p q
brought p q old next [] was same none on = done none
brought p q old next (x ∷ xs) was same is on = goes_on old (record next { written = []; todo = x ∷ xs }) was is same
    (λ row serves at. on row serves x xs refl at)

-- the first command of a row leaves it
pub logs_at : (p q : StoreState) (row : ℕ) (command : Command) (rest : List Command) (stage : Stage)
    (claim : Option OpenClaim) → p.rows row ≡ record { left = command ∷ rest; stage = stage; claim = claim }
    → MayBeLogged stage
    → q.rows ≡ with_row p.rows row (record { left = rest; stage = stage_logged stage; claim = None })
    → RowsGo (cluster_pages_of p.super) (Some row) p.rows q.rows
logs_at p q row command rest stage claim is may rows = one_row row
    (record { left = rest; stage = stage_logged stage; claim = None }) refl
    (logs command rest stage (ap (λ (r : Row). r.left) is) (ap (λ (r : Row). r.stage) is) may refl) rows

module _ (p q : StoreState) (super : q.super ≡ p.super) where
  abbrev pages : ℕ
  pages = cluster_pages_of p.super

  -- one row goes that isn't in the job, which stays
  pub alone : (row : ℕ) (was now : Row) → q.job ≡ p.job → p.rows row ≡ was → (was.stage ≡ InJob → ⊥)
      → Edge (cluster_pages_of p.super) row (p.rows row) now → q.rows ≡ with_row p.rows row now
      → Moved leaves (Some row) p q
  alone row was now job is out edge rows = record {
    super = super;
    rows = one_row row now refl edge rows;
    jobs = record {
      same = job;
      apart = subst (LeavesInJob p.rows) (sym rows) (apart_one p.rows row now (out_of (p.rows row) was is out));
    };
  }

  -- the first command of a row leaves it, which isn't in the job
  pub logged : (row : ℕ) (command : Command) (rest : List Command) (stage : Stage) (claim : Option OpenClaim)
      → p.rows row ≡ record { left = command ∷ rest; stage = stage; claim = claim } → MayBeLogged stage
      → (stage ≡ InJob → ⊥) → q.job ≡ p.job
      → q.rows ≡ with_row p.rows row (record { left = rest; stage = stage_logged stage; claim = None })
      → Moved leaves (Some row) p q
  logged row command rest stage claim is may out job rows = alone row _ _ job is out
      (logs command rest stage (ap (λ (r : Row). r.left) is) (ap (λ (r : Row). r.stage) is) may refl) rows

  -- no row goes
  pub job_on : (old next : JobState) (rest : List Phase) → p.job ≡ Some old → next.serves ≡ old.serves
      → q.job ≡ going_on next [] rest → q.rows ≡ p.rows → Moved moves None p q
  job_on old next rest was same job rows = record {
    super = super;
    rows = no_row rows;
    jobs = brought p q old next rest was same job
        (λ row serves x xs is at. subst (λ (r : Rows). (r row).stage ≡ InJob) (sym rows) at);
  }

  pub job_one : (old now : JobState) → p.job ≡ Some old → q.job ≡ Some now → now.serves ≡ old.serves
      → q.rows ≡ p.rows → Moved moves None p q
  job_one old now was job same rows = record {
    super = super;
    rows = no_row rows;
    jobs = goes_on old now was job same (λ row serves at. subst (λ (r : Rows). (r row).stage ≡ InJob) (sym rows) at);
  }

  pub dropped : q.job ≡ None → q.rows ≡ p.rows → Moved breaks None p q
  dropped none rows = record { super = super; rows = no_row rows; jobs = none }

-- ---- a claim is given back, and the command that its row works for is logged

-- the fill's row gives up, and a posted command is logged
module _ (pages : ℕ) (old new : Rows) (row channel serial : ℕ) (command : Command) (rest : List Command)
    (stage : Stage)
    (at : (old row).stage ≡ stage) (may : MayBeLogged stage)
    (is : old channel ≡ record { left = command ∷ rest; stage = Posted serial; claim = None })
    (now : new ≡ with_row
    (with_row old row (record { left = (old row).left; stage = stage_logged stage; claim = None })) channel
    (record { left = rest; stage = Decided Answered; claim = None })) where
  pub fill_goes : row ≡ fill_row → RowsGo pages (Some row) old new
  fill_goes fills = two_rows row channel _ _ refl fills (gives_up fills stage at may refl)
      (logs command rest (Posted serial) (ap (λ (r : Row). r.left) is) (ap (λ (r : Row). r.stage) is) tt refl) now

  pub fill_apart : (stage ≡ InJob → ⊥) → LeavesInJob old new
  fill_apart out = subst (LeavesInJob old) (sym now) (λ k in_job.
      let first : Row = record { left = (old row).left; stage = stage_logged stage; claim = None } in
      row_other (with_row old row first) channel (record { left = rest; stage = Decided Answered; claim = None }) k
      (λ e. let bad = sym (ap (λ (r : Row). r.stage) is) ∙ subst (λ n. (old n).stage ≡ InJob) e in_job in cc bad)
      ∙ row_other old row first k (λ e. out (sym at ∙ subst (λ n. (old n).stage ≡ InJob) e in_job)))

module _ (p mid q : StoreState) (same : mid.rows ≡ p.rows) (pages row : ℕ) (stage : Stage)
    (at : (p.rows row).stage ≡ stage) (may : MayBeLogged stage) where
  -- a path of the rows before gives that of the rows behind
  own_rows : (reply : Reply) (device : Device) (x : LogsOwn mid row (stage_logged stage) reply device q)
      → q.rows ≡ with_row p.rows row (record { left = x.rest; stage = stage_logged stage; claim = None })
  own_rows reply device x =
      let now : Row = record { left = x.rest; stage = stage_logged stage; claim = None } in
      ap (λ (s : StoreState). s.rows) x.next ∙ row_twice mid.rows row _ now ∙ ap (λ (r : Rows). with_row r row now) same

  filled_rows : (reply : Reply) (device : Device) (x : LogsFilled mid row (stage_logged stage) reply device q)
      → q.rows ≡ with_row
      (with_row p.rows row (record { left = (p.rows row).left; stage = stage_logged stage; claim = None }))
      x.posted.channel (record { left = x.posted.rest; stage = Decided Answered; claim = None })
  filled_rows reply device x = ap (λ (s : StoreState). s.rows) x.next
      ∙ ap (λ (r : Rows). with_row
      (with_row r row (record { left = (r row).left; stage = stage_logged stage; claim = None })) x.posted.channel
      (record { left = x.posted.rest; stage = Decided Answered; claim = None })) same

  pub work_goes : (reply : Reply) (device : Device) → LogsWork mid row (stage_logged stage) reply device q
      → RowsGo pages (Some row) p.rows q.rows
  work_goes reply device (logs_own x) = one_row row _ refl
      (logs _ x.rest stage (ap (λ (r : Rows). (r row).left) (sym same) ∙ x.left) at may refl) (own_rows reply device x)
  work_goes reply device (logs_filled x) = fill_goes pages p.rows q.rows row x.posted.channel x.posted.serial
      x.posted.command x.posted.rest stage at may (ap (λ (r : Rows). r x.posted.channel) (sym same) ∙ x.posted.row)
      (filled_rows reply device x) x.fills

  -- no row that is in the job
  pub work_apart : (stage ≡ InJob → ⊥) → (reply : Reply) (device : Device)
      → LogsWork mid row (stage_logged stage) reply device q → LeavesInJob p.rows q.rows
  work_apart out reply device (logs_own x) = subst (LeavesInJob p.rows) (sym (own_rows reply device x))
      (apart_one p.rows row _ (λ e. out (sym at ∙ e)))
  work_apart out reply device (logs_filled x) = fill_apart pages p.rows q.rows row x.posted.channel x.posted.serial
      x.posted.command x.posted.rest stage at may (ap (λ (r : Rows). r x.posted.channel) (sym same) ∙ x.posted.row)
      (filled_rows reply device x) out

  pub work_super : (reply : Reply) (device : Device) → LogsWork mid row (stage_logged stage) reply device q
      → q.super ≡ mid.super
  work_super reply device (logs_own x) = ap (λ (s : StoreState). s.super) x.next
  work_super reply device (logs_filled x) = ap (λ (s : StoreState). s.super) x.next

  pub work_job : (reply : Reply) (device : Device) → LogsWork mid row (stage_logged stage) reply device q
      → q.job ≡ mid.job
  work_job reply device (logs_own x) = ap (λ (s : StoreState). s.job) x.next
  work_job reply device (logs_filled x) = ap (λ (s : StoreState). s.job) x.next
