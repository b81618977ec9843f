-- What is known of the fill's row, where rows change.
use Rattle.std.proofs.Common.{◌≡◌, ◌≢◌, Option, ℕ, zero, suc, List, [], ◌∷◌, Some, None, refl, sym, ap, ◌∙◌, subst}
use Rattle.std.proofs.Common.{inl, inr}
use Rattle.std.proofs.lemmas.Bool.{cases_eq, eq-eqb, ne_eqb}
use Rattle.volume_model.specs.declared.command.Command.{Command}
use Rattle.volume_model.specs.declared.reply.Reply.{Reply}
use Rattle.store_model.specs.Cases.Copy.{stage_left}
use Rattle.store_model.specs.Cases.Halt.{stage_after}
use Rattle.store_model.specs.Claiming.{given_back, logs_filled, logs_own, LogsWork, stage_behind}
use Rattle.store_model.specs.Device.{Device}
use Rattle.store_model.specs.Filling.{FillStands, filling_behind, IsFilledFor, StandsAt}
use Rattle.store_model.specs.Phases.{Phase}
use Rattle.store_model.specs.Rows.{Answered, Copying, Decided, fill_row, Idle, InJob, Lost, OpenClaim, Posted, Ready}
use Rattle.store_model.specs.Rows.{Row, Rows, Stage, with_row}
use Rattle.store_model.specs.StoreState.{StoreState}
use Rattle.store_model.specs.Turning.{IsPosted}
use Rattle.store_model.proofs.RowsKept.{row_here, row_other}

-- ---- the stages of the fill's row

pub copied_on : (n : ℕ) (filling : Option ℕ) → StandsAt filling (Copying (suc n)) → StandsAt filling (stage_left n)
copied_on n None at = absurd at
copied_on zero (Some channel) at = tt
copied_on (suc n) (Some channel) at = tt

pub sent_on : (serial : ℕ) (filling : Option ℕ) → StandsAt filling Ready → StandsAt filling (Posted serial)
sent_on serial None at = absurd at
sent_on serial (Some channel) at = tt

pub begun_on : (serial : ℕ) (filling : Option ℕ) → StandsAt filling (Posted serial) → StandsAt filling InJob
begun_on serial None at = absurd at
begun_on serial (Some channel) at = tt

pub lost_on : (serial : ℕ) (filling : Option ℕ) → StandsAt filling (Posted serial)
    → StandsAt filling (Decided Lost)
lost_on serial None at = absurd at
lost_on serial (Some channel) at = tt

pub job_on : (rest : List Phase) (filling : Option ℕ) → StandsAt filling InJob → StandsAt filling (stage_behind rest)
job_on rest None at = absurd at
job_on [] (Some channel) at = tt
job_on (x ∷ xs) (Some channel) at = tt

pub halted_at : (stage : Stage) → StandsAt None (stage_after stage)
halted_at (Posted serial) = tt
halted_at _ = tt

-- a row that waits works for no command
pub idle_fills_none : (filling : Option ℕ) → StandsAt filling Idle → filling ≡ None
idle_fills_none None at = refl
idle_fills_none (Some channel) at = absurd at

-- ---- rows that no slots are filled for

module _ (p : StoreState) (stands : FillStands p) where
  -- a row with a command isn't the fill's
  pub with_command : (channel : ℕ) (command : Command) (rest : List Command)
      → (p.rows channel).left ≡ command ∷ rest → fill_row ≢ channel
  with_command channel command rest left e =
      let bad = sym left ∙ ap (λ n. (p.rows n).left) (sym e) ∙ stands.left in cc bad

  -- a row at another stage than posted
  pub unposted : (channel : ℕ) (stage : Stage) → (p.rows channel).stage ≡ stage
      → ((serial : ℕ) → stage ≡ Posted serial → ⊥) → p.filling ≢ Some channel
  unposted channel stage is not fills =
      let f = stands.filled channel fills in not f.serial (sym is ∙ ap (λ (r : Row). r.stage) f.is)

  -- a row with a claim
  pub claiming : (channel : ℕ) (claim : OpenClaim) → (p.rows channel).claim ≡ Some claim → p.filling ≢ Some channel
  claiming channel claim is fills =
      let f = stands.filled channel fills in
      let bad = sym is ∙ ap (λ (r : Row). r.claim) f.is in cc bad

-- ---- rows that change

-- the commands of a row that goes on are those that it had
pub left_same : (rows : Rows) (channel : ℕ) (row : Row) → row.left ≡ (rows channel).left → (other : ℕ)
    → (with_row rows channel row other).left ≡ (rows other).left
left_same rows channel row left other = elim (cases_eq other channel) [
  | inl e ↦ ap (λ (r : Row). r.left) (row_here rows channel row other e) ∙ left ∙ ap (λ n. (rows n).left) (sym e)
  | inr ne ↦ ap (λ (r : Row). r.left) (row_other rows channel row other ne)
]

-- for whom the fill's row works once a row waits
behind_fill : (p : StoreState) (row : ℕ) → fill_row ≡ row → filling_behind p row ≡ None
behind_fill p row e = rw (eq-eqb row fill_row (sym e)) refl

behind_other : (p : StoreState) (row : ℕ) → fill_row ≢ row → filling_behind p row ≡ p.filling
behind_other p row ne = rw (ne_eqb row fill_row (λ e. ne (sym e))) refl

module _ (p q : StoreState) (stands : FillStands p) where
  -- no row changes
  pub stands_on : q.rows ≡ p.rows → q.filling ≡ p.filling → FillStands q
  stands_on rows filling = record {
    left = ap (λ (r : Rows). (r fill_row).left) rows ∙ stands.left;
    stage = subst (λ (r : Rows). StandsAt q.filling (r fill_row).stage) (sym rows)
        (subst (λ (o : Option ℕ). StandsAt o (p.rows fill_row).stage) (sym filling) stands.stage);
    filled = λ channel fills. subst (λ (r : Rows). IsFilledFor (r channel)) (sym rows)
        (stands.filled channel (sym filling ∙ fills));
  }

  module _ (channel : ℕ) (row : Row) (rows : q.rows ≡ with_row p.rows channel row) where
    here : (n : ℕ) → n ≡ channel → q.rows n ≡ row
    here n e = ap (λ (r : Rows). r n) rows ∙ row_here p.rows channel row n e

    there : (n : ℕ) → n ≢ channel → q.rows n ≡ p.rows n
    there n ne = ap (λ (r : Rows). r n) rows ∙ row_other p.rows channel row n ne

    -- one row changes, for which no slots are filled: the fill's, which keeps having no command, or another
    pub one_changes : (fill_row ≡ channel → (row.left ≡ []) × StandsAt q.filling row.stage)
        → (fill_row ≢ channel → q.filling ≡ p.filling)
        → ((n : ℕ) → q.filling ≡ Some n → (n ≢ channel) × (p.filling ≡ Some n)) → FillStands q
    one_changes mine other still = record {
      left = elim (cases_eq fill_row channel) [
        | inl e ↦ ap (λ (r : Row). r.left) (here fill_row e) ∙ (mine e).0
        | inr ne ↦ ap (λ (r : Row). r.left) (there fill_row ne) ∙ stands.left
      ];
      stage = elim (cases_eq fill_row channel) [
        | inl e ↦ subst (λ (r : Row). StandsAt q.filling r.stage) (sym (here fill_row e)) (mine e).1
        | inr ne ↦ subst (λ (r : Row). StandsAt q.filling r.stage) (sym (there fill_row ne))
            (subst (λ (o : Option ℕ). StandsAt o (p.rows fill_row).stage) (sym (other ne)) stands.stage)
      ];
      filled = λ n fills.
          let x = still n fills in
          subst IsFilledFor (sym (there n x.0)) (stands.filled n x.1);
    }

    -- a row of a channel, whose command is there
    pub channel_changes : (command : Command) (rest : List Command) → (p.rows channel).left ≡ command ∷ rest
        → p.filling ≢ Some channel → q.filling ≡ p.filling → FillStands q
    channel_changes command rest left unfilled same =
        one_changes (λ e. absurd (with_command p stands channel command rest left e)) (λ ne. same)
        (λ n fills. ((λ e. unfilled (sym same ∙ fills ∙ ap Some e)), sym same ∙ fills))

    -- any row, at its next stage
    pub any_goes_on : row.left ≡ (p.rows channel).left → p.filling ≢ Some channel → q.filling ≡ p.filling
        → ((filling : Option ℕ) → StandsAt filling (p.rows channel).stage → StandsAt filling row.stage) → FillStands q
    any_goes_on left unfilled same on =
        one_changes (λ e. (
          left ∙ ap (λ n. (p.rows n).left) (sym e) ∙ stands.left,
          on q.filling (subst (λ n. StandsAt q.filling (p.rows n).stage) e
              (subst (λ (o : Option ℕ). StandsAt o (p.rows fill_row).stage) (sym same) stands.stage)),
        )) (λ ne. same) (λ n fills. ((λ e. unfilled (sym same ∙ fills ∙ ap Some e)), sym same ∙ fills))

    -- any row waits
    pub any_waits : row.left ≡ (p.rows channel).left → row.stage ≡ Idle → p.filling ≢ Some channel
        → q.filling ≡ filling_behind p channel → FillStands q
    any_waits left idle unfilled filling =
        one_changes (λ e. (
          left ∙ ap (λ n. (p.rows n).left) (sym e) ∙ stands.left,
          subst (λ (o : Option ℕ). StandsAt o row.stage) (sym (filling ∙ behind_fill p channel e))
              (subst (StandsAt None) (sym idle) tt),
        )) (λ ne. filling ∙ behind_other p channel ne) (λ n fills. elim (cases_eq fill_row channel) [
          | inl e ↦ let bad = sym fills ∙ filling ∙ behind_fill p channel e in absurd (cc bad)
          | inr ne ↦
              let same = filling ∙ behind_other p channel ne in
              ((λ e. unfilled (sym same ∙ fills ∙ ap Some e)), sym same ∙ fills)
        ])

    -- the fill's row, which works for no command then
    pub fill_ends : fill_row ≡ channel → row.left ≡ (p.rows channel).left → StandsAt None row.stage
        → q.filling ≡ None → FillStands q
    fill_ends e left at none =
        one_changes (λ _. (
          left ∙ ap (λ n. (p.rows n).left) (sym e) ∙ stands.left,
          subst (λ (o : Option ℕ). StandsAt o row.stage) (sym none) at,
        )) (λ ne. absurd (ne e)) (λ n fills. let bad = sym fills ∙ none in absurd (cc bad))

-- ---- what is logged of a row that worked

module _ (p q : StoreState) (stands : FillStands p) where
  -- the fill's row goes on, and a posted command is logged
  pub fill_logs : (posted : IsPosted p) (stage : Stage) → StandsAt None stage
      → q.rows ≡ with_row (given_back p fill_row stage).rows posted.channel
      (record { left = posted.rest; stage = Decided Answered; claim = None }) → q.filling ≡ None → FillStands q
  fill_logs posted stage at rows none =
      let now : Row = record { left = (p.rows fill_row).left; stage = stage; claim = None } in
      let mid : StoreState = record (given_back p fill_row stage) { filling = None } in
      let between : FillStands mid = fill_ends p mid stands fill_row now refl refl refl at refl in
      channel_changes mid q between posted.channel
      (record { left = posted.rest; stage = Decided Answered; claim = None }) rows posted.command posted.rest
      (left_same p.rows fill_row now refl posted.channel ∙ ap (λ (r : Row). r.left) posted.row) (λ bad. cc bad) none

  pub work_logs : (row : ℕ) (stage : Stage) (reply : Reply) (d : Device) → StandsAt None stage
      → p.filling ≢ Some row → LogsWork p row stage reply d q → FillStands q
  work_logs row stage reply d at unfilled (logs_own t) =
      let now : Row = record { left = (p.rows row).left; stage = stage; claim = None } in
      let mid : StoreState = given_back p row stage in
      let between : FillStands mid =
      channel_changes p mid stands row now refl _ t.rest t.left unfilled refl in
      channel_changes mid q between row (record { left = t.rest; stage = stage; claim = None })
      (ap (λ (s : StoreState). s.rows) t.next) _ t.rest (left_same p.rows row now refl row ∙ t.left) unfilled
      (ap (λ (s : StoreState). s.filling) t.next)
  work_logs row stage reply d at unfilled (logs_filled t) =
      fill_logs t.posted stage at (ap (λ (s : StoreState). s.rows) t.next
      ∙ ap (λ n. with_row (given_back p n stage).rows t.posted.channel (record {
        left = t.posted.rest;
        stage = Decided Answered;
        claim = None;
      })) t.fills) (ap (λ (s : StoreState). s.filling) t.next)
