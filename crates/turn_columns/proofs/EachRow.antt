-- What holds of each edge holds of each row over a turn.
use Rattle.std.proofs.Common.{ℕ, Option, sym, subst, inl, inr}
use Rattle.std.proofs.lemmas.Bool.{cases_eq}
use Rattle.store_model.specs.Rows.{Row, Rows, with_row}
use Rattle.store_model.proofs.RowsKept.{row_here, row_other}
use Rattle.turn_columns.specs.Columns.{Edge, no_row, one_row, RowsGo, two_rows}

module _ (pages : ℕ) (R : ℕ → Row → Row → Type 0) (stays : (k : ℕ) (row : Row) → R k row row)
    (goes : (k : ℕ) (old new : Row) → Edge pages k old new → R k old new) where
  with_one : (old rows : Rows) (row : ℕ) (now : Row) → R row (old row) now → ((k : ℕ) → R k (old k) (rows k)) → (k : ℕ)
      → R k (old k) (with_row rows row now k)
  with_one old rows row now here others k = elim (cases_eq k row) [
    | inl e ↦ subst (R k (old k)) (sym (row_here rows row now k e)) (subst (λ n. R n (old n) now) (sym e) here)
    | inr ne ↦ subst (R k (old k)) (sym (row_other rows row now k ne)) (others k)
  ]

  -- each row takes a step
  pub each_row : (named : Option ℕ) (old new : Rows) → RowsGo pages named old new → (k : ℕ) → R k (old k) (new k)
  each_row named old new (no_row same) k = subst (λ (r : Rows). R k (old k) (r k)) (sym same) (stays k (old k))
  each_row named old new (one_row row now here edge is) k = subst (λ (r : Rows). R k (old k) (r k)) (sym is)
      (with_one old old row now (goes row (old row) now edge) (λ j. stays j (old j)) k)
  each_row named old new (two_rows row other first now here fills edge next is) k =
      subst (λ (r : Rows). R k (old k) (r k)) (sym is)
      (with_one old (with_row old row first) other now (goes other (old other) now next)
      (with_one old old row first (goes row (old row) first edge) (λ j. stays j (old j))) k)
