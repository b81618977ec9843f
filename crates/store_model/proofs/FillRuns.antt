-- What is known of the fill's row is so along a run.
use Rattle.std.proofs.Common.{◌≡◌, ◌≢◌, Option, ℕ, Bool, List, [], ◌∷◌, Some, None, refl, sym, ap, ◌∙◌, subst, inl, inr}
use Rattle.volume_model.specs.declared.command.Command.{Command}
use Rattle.store_model.specs.Cases as k
use Rattle.store_model.specs.Cases.{Kind, Run, Turn}
use Rattle.store_model.specs.Cases.BreakDown.{BreaksDown}
use Rattle.store_model.specs.Cases.ClaimFill.{ClaimsFill}
use Rattle.store_model.specs.Claiming.{IsCopying}
use Rattle.store_model.specs.Filling.{FillStands, IsFilledFor, StandsAt}
use Rattle.store_model.specs.Rows.{Decided, fill_row, Idle, InJob, OpenClaim, Posted, Row, Rows, Stage, with_row}
use Rattle.store_model.specs.StoreState.{JobState, Opens, StoreState}
use Rattle.store_model.specs.Turning.{IsServedNow, stopped_now}
use Rattle.store_model.proofs.FillKept.{any_goes_on, any_waits, begun_on, channel_changes, claiming, copied_on}
use Rattle.store_model.proofs.FillKept.{fill_ends, fill_logs, halted_at, idle_fills_none, job_on, lost_on, one_changes}
use Rattle.store_model.proofs.FillKept.{sent_on, stands_on, unposted, with_command, work_logs}
use Rattle.store_model.proofs.RowsKept.{row_here, row_other}

rows_of : (p q : StoreState) → q ≡ p → q.rows ≡ p.rows
rows_of p q is = ap (λ (s : StoreState). s.rows) is

filling_of : (p q : StoreState) → q ≡ p → q.filling ≡ p.filling
filling_of p q is = ap (λ (s : StoreState). s.filling) is

module _ (p q : StoreState) (stands : FillStands p) where
  -- no row changes
  same : (next : StoreState) → q ≡ next → next.rows ≡ p.rows → next.filling ≡ p.filling → FillStands q
  same next is rows filling = stands_on p q stands (rows_of next q is ∙ rows) (filling_of next q is ∙ filling)

  -- a channel's row does, for which no slots are filled
  changes : (next : StoreState) → q ≡ next → (channel : ℕ) (command : Command) (rest : List Command) (stage : Stage)
      (claim : Option OpenClaim) → p.rows channel ≡ record { left = command ∷ rest; stage = stage; claim = claim }
      → p.filling ≢ Some channel → (row : Row) → next.rows ≡ with_row p.rows channel row → next.filling ≡ p.filling
      → FillStands q
  changes next is channel command rest stage claim was unfilled row rows filling =
      channel_changes p q stands channel row (rows_of next q is ∙ rows) command rest
      (ap (λ (r : Row). r.left) was) unfilled (filling_of next q is ∙ filling)

  -- a channel's row does, which isn't posted
  goes : (next : StoreState) → q ≡ next → (channel : ℕ) (command : Command) (rest : List Command) (stage : Stage)
      (claim : Option OpenClaim) → p.rows channel ≡ record { left = command ∷ rest; stage = stage; claim = claim }
      → ((serial : ℕ) → stage ≡ Posted serial → ⊥) → (row : Row) → next.rows ≡ with_row p.rows channel row
      → next.filling ≡ p.filling → FillStands q
  goes next is channel command rest stage claim was not = changes next is channel command rest stage claim was
      (unposted p stands channel stage (ap (λ (r : Row). r.stage) was) not)

  serves : (next : StoreState) → q ≡ next → {job : JobState} → (served : IsServedNow p job) → (row : Row)
      → next.rows ≡ with_row p.rows served.channel row → next.filling ≡ p.filling → FillStands q
  serves next is served =
      goes next is served.channel served.command served.rest InJob None served.row (λ serial bad. cc bad)

  -- a row with a claim does
  unfilled : {stage : Stage} → (copying : IsCopying p stage) → p.filling ≢ Some copying.row
  unfilled copying = claiming p stands copying.row copying.claim (ap (λ (r : Row). r.claim) copying.is)

  goes_on : (next : StoreState) → q ≡ next → {stage : Stage} → (copying : IsCopying p stage) → (row : Row)
      → next.rows ≡ with_row p.rows copying.row row → row.left ≡ (p.rows copying.row).left → next.filling ≡ p.filling
      → ((filling : Option ℕ) → StandsAt filling stage → StandsAt filling row.stage) → FillStands q
  goes_on next is copying row rows left filling on =
      any_goes_on p q stands copying.row row (rows_of next q is ∙ rows) left (unfilled copying)
      (filling_of next q is ∙ filling)
      (λ o at. on o (subst (λ (r : Row). StandsAt o r.stage) copying.is at))

  -- a row in a job does
  in_job : (row : ℕ) → (p.rows row).stage ≡ InJob → p.filling ≢ Some row
  in_job row at = unposted p stands row InJob at (λ serial bad. cc bad)

  job_goes_on : (next : StoreState) → q ≡ next → (channel : ℕ) → (p.rows channel).stage ≡ InJob → (row : Row)
      → next.rows ≡ with_row p.rows channel row → row.left ≡ (p.rows channel).left → next.filling ≡ p.filling
      → ((filling : Option ℕ) → StandsAt filling InJob → StandsAt filling row.stage) → FillStands q
  job_goes_on next is channel at row rows left filling on =
      any_goes_on p q stands channel row (rows_of next q is ∙ rows) left (in_job channel at)
      (filling_of next q is ∙ filling) (λ o was. on o (subst (StandsAt o) at was))

  -- ---- kinds

  breaks_down : BreaksDown p q → FillStands q
  breaks_down t = elim t.ends [
    | inl x ↦ serves _ x.next x.served _ refl refl
    | inr x ↦ same _ x.next refl refl
  ]

  claims_fill : ClaimsFill p q → FillStands q
  claims_fill t =
      let x = t.fill.posted in
      let rows = rows_of _ q t.next in
      let filling = filling_of _ q t.next in
      let here = ap (λ (r : Rows). r fill_row) rows ∙ row_here p.rows fill_row _ fill_row refl in
      record {
        left = ap (λ (r : Row). r.left) here;
        stage = subst (λ (o : Option ℕ). StandsAt o (q.rows fill_row).stage) (sym filling)
            (subst (λ (r : Row). StandsAt (Some x.channel) r.stage) (sym here) tt);
        filled = λ n fills.
            let both : Some x.channel ≡ Some n = sym filling ∙ fills in
            let e : x.channel ≡ n = cc both in
            let apart : n ≢ fill_row = λ bad. with_command p stands x.channel x.command x.rest
            (ap (λ (r : Row). r.left) x.row) (sym (e ∙ bad)) in
            subst IsFilledFor (sym (ap (λ (r : Rows). r n) rows ∙ row_other p.rows fill_row _ n apart)) (record {
              serial = x.serial;
              command = x.command;
              rest = x.rest;
              is = ap p.rows (sym e) ∙ x.row;
              asks = t.fill.asks;
            });
      }

-- ---- all kinds

-- whatever turn is made
pub turn_stands : (told : Bool) (kind : Kind) (p q : StoreState) → Turn told p kind q → FillStands p → FillStands q
turn_stands told k.posts p q t f =
    goes p q f _ t.next t.channel t.command t.rest Idle None t.row (λ n bad. cc bad) _ refl refl
turn_stands told k.answers p q t f = changes p q f _ t.next t.posted.channel t.posted.command t.posted.rest
    (Posted t.posted.serial) None t.posted.row t.unfilled _ refl refl
turn_stands told k.refuses p q t f = changes p q f _ t.next t.posted.channel t.posted.command t.posted.rest
    (Posted t.posted.serial) None t.posted.row t.unfilled _ refl refl
turn_stands told k.halts p q t f = changes p q f _ t.next t.channel t.command t.rest t.stage t.claim t.row
    (λ fills. let x = f.filled t.channel fills in
    t.unfilled x.serial (sym (ap (λ (r : Row). r.stage) t.row) ∙ ap (λ (r : Row). r.stage) x.is) fills) _ refl refl
turn_stands told k.settles p q t f = any_waits p q f t.channel _ (rows_of _ q t.next) refl refl
    (unposted p f t.channel (Decided t.outcome) t.decided (λ n bad. cc bad)) (filling_of _ q t.next)
turn_stands told k.ends p q t f =
    let filling = filling_of _ q t.next in
    one_changes p q f t.channel _ (rows_of _ q t.next) (λ e. absurd (t.not_fill (sym e))) (λ ne. filling) (λ n fills. (
      (λ e. unposted p f t.channel Idle (ap (λ (r : Row). r.stage) t.over) (λ serial bad. cc bad)
          (sym filling ∙ fills ∙ ap Some e)),
      sym filling ∙ fills,
    ))
turn_stands told k.begins p q t f = changes p q f _ t.next t.posted.channel t.posted.command t.posted.rest
    (Posted t.posted.serial) None t.posted.row t.unfilled _ refl refl
turn_stands told k.marks_dirty p q t f = same p q f _ t.next refl refl
turn_stands told k.zeroes p q t f = same p q f _ t.next refl refl
turn_stands told k.writes p q t f = same p q f _ t.next refl refl
turn_stands told k.commits p q t f = serves p q f _ t.next t.served _ refl refl
turn_stands told k.erases p q t f = same p q f _ t.next refl refl
turn_stands told k.frees p q t f = same p q f _ t.next refl refl
turn_stands told k.fails p q t f = serves p q f _ t.next t.served _ refl refl
turn_stands told k.breaks_off p q t f = same p q f _ t.next refl refl
turn_stands told k.breaks_down p q t f = breaks_down p q f t
turn_stands told k.begins_repair p q t f = same p q f _ t.next refl refl
turn_stands told k.replaces_more p q t f = same p q f _ t.next refl refl
turn_stands told k.more_fails p q t f = serves p q f _ t.next t.served _ refl refl
turn_stands told k.more_breaks_off p q t f = same p q f _ t.next refl refl
turn_stands told k.flushes p q t f =
    goes p q f _ t.next t.channel _ t.rest Idle None t.row (λ n bad. cc bad) _ refl refl
turn_stands told k.flush_fails p q t f =
    goes p q f _ t.next t.channel _ t.rest Idle None t.row (λ n bad. cc bad) _ refl refl
turn_stands told k.reads p q t f =
    goes p q f _ t.next t.channel _ t.rest Idle None t.row (λ n bad. cc bad) _ refl refl
turn_stands told k.refuses_write p q t f =
    goes p q f _ t.next t.channel _ t.rest Idle None t.row (λ n bad. cc bad) _ refl refl
turn_stands told k.writes_page p q t f =
    goes p q f _ t.next t.at.channel _ t.at.rest Idle None t.at.row (λ n bad. cc bad) _ refl refl
turn_stands told k.fails_to_write p q t f =
    goes p q f _ t.next t.at.channel _ t.at.rest Idle None t.at.row (λ n bad. cc bad) _ refl refl
turn_stands told k.finds_empty p q t f =
    goes p q f _ t.next t.write.channel _ t.write.rest _ None t.write.row (λ n bad. cc bad) _ refl refl
turn_stands told k.finds_filled p q t f =
    goes p q f _ t.next t.write.channel _ t.write.rest _ None t.write.row (λ n bad. cc bad) _ refl refl
turn_stands told k.claims p q t f =
    goes p q f _ t.next t.write.channel _ t.write.rest _ None t.write.row (λ n bad. cc bad) _ refl refl
turn_stands told k.refuses_claim p q t f =
    goes p q f _ t.next t.write.channel _ t.write.rest _ None t.write.row (λ n bad. cc bad) _ refl refl
turn_stands told k.copies p q t f = goes_on p q f _ t.next t.copying _ refl
    (sym (ap (λ (r : Row). r.left) t.copying.is)) refl (copied_on t.left)
turn_stands told k.loses_copy p q t f = any_waits p q f t.copying.row _ (rows_of _ q t.next) refl refl
    (unfilled p q f t.copying) (filling_of _ q t.next)
turn_stands told k.copy_not_read p q t f =
    work_logs p q f t.copying.row Idle _ t.device tt (unfilled p q f t.copying) t.logs
turn_stands told k.copy_fails p q t f =
    work_logs (stopped_now p) q (stands_on p (stopped_now p) f refl refl) t.copying.row Idle _ t.device tt
    (unfilled p q f t.copying) t.logs
turn_stands told k.sends p q t f = goes_on p q f _ t.next t.copying _ refl
    (sym (ap (λ (r : Row). r.left) t.copying.is)) refl (sent_on p.serial)
turn_stands told k.loses_insert p q t f = goes_on p q f _ t.next t.posted _ refl refl refl (lost_on t.serial)
turn_stands told k.lacks_for_insert p q t f =
    work_logs p q f t.posted.row _ _ p.device tt (unfilled p q f t.posted) t.logs
turn_stands told k.lacks_memory_for_insert p q t f =
    work_logs p q f t.posted.row _ _ p.device tt (unfilled p q f t.posted) t.logs
turn_stands told k.begins_insert p q t f = goes_on p q f _ t.next t.posted _ refl
    (sym (ap (λ (r : Row). r.left) t.posted.is)) refl (begun_on t.serial)
turn_stands told k.inserts p q t f = job_goes_on p q f _ t.next t.inserting.row t.inserting.waits _ refl refl refl
    (job_on t.running.rest)
turn_stands told k.insert_ends p q t f = job_goes_on p q f _ t.next t.inserting.row t.inserting.waits _ refl refl refl
    (job_on [])
turn_stands told k.insert_fails p q t f =
    let mid : StoreState = record (stopped_now p) { job = None } in
    work_logs mid q (stands_on p mid f refl refl) t.inserting.row _ _ t.device tt
    (in_job p q f t.inserting.row t.inserting.waits) t.logs
turn_stands told k.insert_breaks_down p q t f =
    let mid : StoreState = record p { job = None } in
    work_logs mid q (stands_on p mid f refl refl) t.inserting.row _ _ p.device tt
    (in_job p q f t.inserting.row t.inserting.waits) t.logs
turn_stands told k.claims_fill p q t f = claims_fill p q f t
turn_stands told k.lacks_for_fill p q t f =
    let x = t.fill.posted in
    let none = idle_fills_none p.filling (subst (λ (r : Row). StandsAt p.filling r.stage) t.fill.unused f.stage) in
    changes p q f _ t.next x.channel x.command x.rest (Posted x.serial) None x.row
    (λ fills. let bad = sym fills ∙ none in cc bad) _ refl refl
turn_stands told k.halts_fill p q t f =
    fill_logs p q f t.posted _ (halted_at (p.rows fill_row).stage) (rows_of _ q t.next) (filling_of _ q t.next)
turn_stands told k.ends_fill p q t f =
    fill_ends p q f fill_row _ (rows_of _ q t.next) refl refl tt (filling_of _ q t.next)

-- ---- runs

run_stands : (told : Bool) (p q : StoreState) (kinds : List Kind) → Run told p kinds q → FillStands p → FillStands q
run_stands told p q [] same f = subst FillStands (sym same) f
run_stands told p q (kind ∷ kinds) run f =
    run_stands told run.0 q kinds run.2 (turn_stands told kind p run.0 run.1 f)

-- whatever run leads to a state
pub fill_stands : (told : Bool) (p q : StoreState) (kinds : List Kind) → Opens p → Run told p kinds q → FillStands q
fill_stands told p q kinds opens run =
    run_stands told p q kinds run (record {
      left = ap (λ (r : Row). r.left) opens.fill;
      stage = subst (λ (o : Option ℕ). StandsAt o (p.rows fill_row).stage) (sym opens.filling)
          (subst (λ (r : Row). StandsAt None r.stage) (sym opens.fill) tt);
      filled = λ channel fills. let bad = sym fills ∙ opens.filling in absurd (cc bad);
    })
