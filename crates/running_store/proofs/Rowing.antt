-- The rows of the channels with one row set, as a function.
use Rattle.std.proofs.Common.{None, ◌≡◌, ◌≢◌, ◌==◌, ℕ, ◌<◌, Bool, true, false, List, [], ◌∷◌, ◌++◌, drop, length}
use Rattle.std.proofs.Common.{slice_set, refl, sym, ◌∙◌, ap, arith, inl, inr}
use Rattle.std.specs.Prelude.{if◌then◌else◌, slice_index_or}
use Rattle.std.proofs.lemmas.Bool.{cases_eq, cases_lt, eq-eqb, ne_eqb}
use Rattle.std.proofs.lemmas.List.{get_or_default, get_or-set_same, get_or-set_other}
use Rattle.std.proofs.Math.ListN.{get_or-eq_default}
use Rattle.std.proofs.Math.Path.{fun_ext}
use Rattle.page_disk.specs.declared.disk.PageDisk.{Ghosts}
use Rattle.volume_model.specs.declared.command.Command.{Command}
use Rattle.volume_model.specs.declared.reply.Reply.{Reply}
use Rattle.store_model.specs.Rows.{Row, Rows, Answered, Decided, Ended, fill_row, Stage, with_row, entry_of}
use Rattle.store_model.specs.StoreState.{logged, logged_to}
use Rattle.running_store.specs.StoreView.{StoreView, device_of, rows_of, state_of}
use Rattle.running_store.specs.Steps.{left_at, logged_at, logged_then, OnlyRow, with_row_at}

-- a list with an item has a first one
pub first_of : {A : Type 0} (l : List A) → 0 < length l → (x : A) × (rest : List A) × (l ≡ x ∷ rest)
first_of [] some = absurd (omega (arith, some))
first_of (x ∷ rest) some = (x, rest, refl)

module _ (rows : List Row) (channel : ℕ) (row : Row) (low : channel < length rows) where
  row_at : (c : ℕ) → rows_of (slice_set rows channel row) c ≡ with_row (rows_of rows) channel row c
  row_at c = elim (cases_eq c channel) [
    | inl e ↦ ap (rows_of (slice_set rows channel row)) e
        ∙ get_or-set_same rows channel row (record { left = []; stage = Ended; claim = None }) low
        ∙ sym (rw (eq-eqb c channel e) refl)
    | inr ne ↦ get_or-set_other rows channel c row (record { left = []; stage = Ended; claim = None }) ne
        ∙ sym (rw (ne_eqb c channel ne) refl)
  ]

  pub only_row : OnlyRow rows (slice_set rows channel row) channel row
  only_row = record {
    row = get_or-set_same rows channel row (record { left = []; stage = Ended; claim = None }) low;
    others = λ other ne. get_or-set_other rows channel other row (record { left = []; stage = Ended; claim = None }) ne;
  }

  pub rows_set : rows_of (slice_set rows channel row) ≡ with_row (rows_of rows) channel row
  rows_set = fun_ext row_at

-- a row as it is read of the list
pub row_read : (rows : List Row) (channel : ℕ) (row : Row) → channel < length rows
    → row ≡ slice_index_or rows channel row → row ≡ rows_of rows channel
row_read rows channel row low is =
    is ∙ get_or_default rows channel row (record { left = []; stage = Ended; claim = None }) low

-- the state with one row set
pub state_with_row : {D : Type 0} (d : Ghosts D) (p : StoreView D) (channel : ℕ) (row given : Row) → row ≡ given
    → channel < length p.rows
    → state_of d (with_row_at p channel row)
    ≡ record (state_of d p) { rows = with_row (rows_of p.rows) channel given }
state_with_row d p channel row given is low =
    ap (λ (r : Row). state_of d (with_row_at p channel r)) is
    ∙ ap (λ (rows : Rows). record (state_of d p) { rows = rows }) (rows_set p.rows channel given low)

-- of a row that is set twice the second stays
pub with_row_twice : (rows : Rows) (channel : ℕ) (first second : Row)
    → with_row (with_row rows channel first) channel second ≡ with_row rows channel second
with_row_twice rows channel first second = fun_ext (λ other. by (other == channel) (rows other))
  where
    by : (here : Bool) (was : Row)
        → (if here then second else (if here then first else was)) ≡ (if here then second else was)
    by true was = refl
    by false was = refl

-- with an entry logged, the state is the one in which it is
pub state_logged_then : (next : Stage) {D : Type 0} (d : Ghosts D) (p : StoreView D) (channel : ℕ) (command : Command)
    (rest : List Command) (reply : Reply) → channel < length p.rows
    → state_of d (logged_then next p channel command rest reply (d.clock p.disk))
    ≡ logged_to next (state_of d p) channel command rest reply (device_of d p.disk)
state_logged_then next d p channel command rest reply low =
    ap (λ (rows : Rows). record (state_of d p) {
      rows = rows;
      log = p.log ++ entry_of p.log channel command reply ∷ [];
      marks = p.marks ++ d.clock p.disk ∷ [];
    })
    (rows_set p.rows channel (record { left = rest; stage = next; claim = None }) low)

pub state_logged : {D : Type 0} (d : Ghosts D) (p : StoreView D) (channel : ℕ) (command : Command) (rest : List Command)
    (reply : Reply) → channel < length p.rows
    → state_of d (logged_at p channel command rest reply (d.clock p.disk))
    ≡ logged (state_of d p) channel command rest reply (device_of d p.disk)
state_logged = state_logged_then (Decided Answered)

-- a row whose first command was taken out
pub taken_row : (old new : Row) (command : Command) (next : Stage) → old.left ≡ command ∷ new.left → new.stage ≡ next
    → new.claim ≡ None → new ≡ left_at next old
taken_row old new command next left stage claim =
    λ i. record { left = ap (λ (l : List Command). drop 1 l) (sym left) i; stage = stage i; claim = claim i }

-- a row with a command is one of those that there are
pub low_left : (rows : List Row) (row : ℕ) (command : Command) (rest : List Command)
    → (rows_of rows row).left ≡ command ∷ rest → row < length rows
low_left rows row command rest left = elim (cases_lt row (length rows)) [
  | inl lt ↦ lt
  | inr ge ↦
      let none = get_or-eq_default rows _ ge in
      absurd (let bad = sym (ap (λ (x : Row). x.left) none) ∙ left in cc bad)
]

-- so is a row that hasn't ended
pub low_stage : (rows : List Row) (row : ℕ) (stage : Stage) → (rows_of rows row).stage ≡ stage → (Ended ≡ stage → ⊥)
    → row < length rows
low_stage rows row stage is other = elim (cases_lt row (length rows)) [
  | inl lt ↦ lt
  | inr ge ↦ absurd (other (sym
      (ap (λ (r : Row). r.stage) (get_or-eq_default rows (record { left = []; stage = Ended; claim = None }) ge)) ∙ is))
]

pub low_of : (rows : List Row) (row : ℕ) (stage : Stage) → length rows ≡ 17 → (rows_of rows row).stage ≡ stage
    → (Ended ≡ stage → ⊥) → row < 17
low_of rows row stage seventeen is other =
    let low = low_stage rows row stage is other in omega (arith, low, seventeen)

-- a row with a command is a channel's, where the fill's row has none
pub channel_low : (rows : List Row) (row : ℕ) (command : Command) (rest : List Command) → length rows ≡ 17
    → (rows_of rows fill_row).left ≡ [] → (rows_of rows row).left ≡ command ∷ rest → row < 16
channel_low rows row command rest seventeen none left =
    let low = low_left rows row command rest left in
    let other : row ≢ fill_row =
    λ here. let bad = sym none ∙ ap (λ n. (rows_of rows n).left) (sym here) ∙ left in cc bad in
    omega (arith, low, seventeen, other)
