-- A turn that serves a message is one of the message's channel: it alone has another row then.
use Rattle.std.proofs.Common.{◌≡◌, ℕ, suc, List, ◌∷◌, length, Option, None, Some, refl, sym, ap, ◌∙◌, subst, inl, inr}
use Rattle.std.proofs.Common.{arith}
use Rattle.std.specs.Prelude.{◌<◌, ◌≢◌, if◌then◌else◌, Bool, IsSome}
use Rattle.std.proofs.lemmas.Bool.{cases_eq, ne_eqb}
use Rattle.page_disk.specs.declared.disk.PageDisk.{Ghosts}
use Rattle.volume_model.specs.declared.command.Command.{Command}
use Rattle.store_model.specs.Cases as kind
use Rattle.store_model.specs.Cases.{Answers, Begins, Halts, Kind, Refuses}
use Rattle.store_model.specs.Cases.BeginInsert.{BeginsInsert}
use Rattle.store_model.specs.Cases.LackForFill.{LacksForFill}
use Rattle.store_model.specs.Cases.LackForInsert.{LacksForInsert}
use Rattle.store_model.specs.Cases.LackMemoryForInsert.{LacksMemoryForInsert}
use Rattle.store_model.specs.Cases.LoseInsert.{LosesInsert}
use Rattle.store_model.specs.Cases.Halt.{stage_after}
use Rattle.store_model.specs.Claiming.{given_back, logs_filled, logs_own, LogsWork}
use Rattle.volume_model.specs.declared.reply.Reply.{Reply}
use Rattle.store_model.proofs.RowsKept.{row_here as row_at, row_other}
use Rattle.store_model.specs.Rows.{fill_row, Answered, Decided, InJob, Lost, Posted, Row, Rows, with_row}
use Rattle.store_model.specs.StoreState.{StoreState}
use Rattle.store_model.specs.Turning.{IsPosted}
use Rattle.job_begins.specs.Begins.{BeginsOrNot}
use Rattle.job_begins.specs.Inserts.{InsertsOrNot, IsLack, RowsInserting}
use Rattle.job_begins.specs.declared.begin.BeginTurn.{BeginTurn}
use Rattle.job_begins.specs.declared.begin.BeginTurn.TheVariants as begin
use Rattle.job_begins.specs.declared.inserting.InsertTurn.{InsertTurn}
use Rattle.job_begins.specs.declared.inserting.InsertTurn.TheVariants as insert
use Rattle.run_moves.specs.FillTurns as fill
use Rattle.run_moves.specs.FillTurns.{FillEnd}
use Rattle.run_moves.specs.DriverSteps.{ServingTurn}
use Rattle.run_moves.specs.DriverSteps as serving
use Rattle.running_store.specs.GivingBack.{filled, halting, own}
use Rattle.running_store.specs.Steps.{OnlyRow}
use Rattle.running_store.specs.StoreView.{rows_of, state_of, StoreView}
use Rattle.running_store.specs.TurnMade.{TurnMade}
use Rattle.md_thread.proofs.SomeTurns.{by_stop}

row_here : (rows : Rows) (channel : ℕ) (row : Row) → with_row rows channel row channel ≡ row
row_here rows channel row = row_at rows channel row channel refl

-- no list is longer than itself
longer : (command : Command) (rest left : List Command) → left ≡ command ∷ rest → left ≡ rest → ⊥
longer command rest left was is =
    let before : length left ≡ suc (length rest) = ap (λ (l : List Command). length l) was in
    let behind : length left ≡ length rest = ap (λ (l : List Command). length l) is in omega (arith, before, behind)

not_fill : (channel : ℕ) → channel < 16 → channel ≢ fill_row
not_fill channel low e = omega (arith, low, e)

-- a channel's row is halted as such
halting_own : (channel : ℕ) → channel < 16 → halting channel ≡ kind.halts
halting_own channel low =
    ap (λ (b : Bool). if b then kind.halts_fill else kind.halts) (ne_eqb channel fill_row (not_fill channel low))

-- where the insert of a channel is begun or not, its row alone is another
pub inserting_alone : (old new : List Row) (filling : Option ℕ) (channel : ℕ) → channel < 16 → (turn : InsertTurn)
    → RowsInserting turn filling old new channel → (given : Row) × OnlyRow old new channel given
inserting_alone old new filling channel low insert.Began rows = (_, rows)
inserting_alone old new filling channel low insert.Decided rows = (_, rows)
inserting_alone old new filling channel low insert.Logged (own apart rows) = (_, rows)
inserting_alone old new filling channel low insert.Logged (filled other fill works rows) =
    absurd (not_fill channel low fill)

module _ {D : Type 0} (d : Ghosts D) (p q : StoreView D) (channel serial : ℕ)
    (posted : (rows_of p.rows channel).stage ≡ Posted serial) (given : Row)
    (only : OnlyRow p.rows q.rows channel given) where
  abbrev s : StoreState
  s = state_of d p

  abbrev t : StoreState
  t = state_of d q

  -- a row that isn't as it was is the channel's
  by_row : (row : ℕ) → (rows_of q.rows row ≡ rows_of p.rows row → ⊥) → row ≡ channel
  by_row row changed = elim (cases_eq row channel) [
    | inl e ↦ e
    | inr other ↦ absurd (changed (only.others row other))
  ]

  -- so is one that was posted and isn't any more
  by_stage : (row number : ℕ) (rows : Rows) (after : Row) → (rows_of p.rows row).stage ≡ Posted number
      → rows_of q.rows ≡ with_row rows row after → (Posted number ≡ after.stage → ⊥) → row ≡ channel
  by_stage row number rows after was is ne = by_row row (λ same.
      ne (sym was ∙ ap (λ (r : Row). r.stage) (sym same ∙ ap (λ (r : Rows). r row) is ∙ row_here rows row after)))

  -- so is that of a posted command that is logged or begun,
  by_posted : (x : IsPosted s) (after : Row) → t.rows ≡ with_row s.rows x.channel after
      → (Posted x.serial ≡ after.stage → ⊥) → x.channel ≡ channel
  by_posted x after is = by_stage x.channel x.serial s.rows after (ap (λ (r : Row). r.stage) x.row) is

  -- or whose slot lacks a cluster, or which finds the store stopped then
  pub fill_lacked : LacksForFill s t → FillEnd d.tells s t channel
  fill_lacked x =
      fill.lacks_for_fill x
      (by_posted x.fill.posted (record { left = x.fill.posted.rest; stage = Decided Answered; claim = None })
      (ap (λ (v : StoreState). v.rows) x.next) (λ e. cc e))

  answered : Answers s t → ServingTurn d.tells s t channel
  answered x = serving.answers x
      (by_posted x.posted (record { left = x.posted.rest; stage = Decided Answered; claim = None })
      (ap (λ (v : StoreState). v.rows) x.next) (λ e. cc e))

  refused : Refuses s t → ServingTurn d.tells s t channel
  refused x = serving.refuses x
      (by_posted x.posted (record { left = x.posted.rest; stage = Decided Answered; claim = None })
      (ap (λ (v : StoreState). v.rows) x.next) (λ e. cc e))

  begun : Begins s t → ServingTurn d.tells s t channel
  begun x = serving.begins x
      (by_posted x.posted (record { left = x.posted.command ∷ x.posted.rest; stage = InJob; claim = None })
      (ap (λ (v : StoreState). v.rows) x.next) (λ e. cc e))

  lost : LosesInsert s t → ServingTurn d.tells s t channel
  lost x = serving.loses_insert x
      (by_stage x.posted.row x.serial s.rows
      (record { left = (s.rows x.posted.row).left; stage = Decided Lost; claim = None })
      (ap (λ (r : Row). r.stage) x.posted.is) (ap (λ (v : StoreState). v.rows) x.next) (λ e. cc e))

  insert_begun : BeginsInsert s t → ServingTurn d.tells s t channel
  insert_begun x = serving.begins_insert x
      (by_stage x.posted.row x.serial s.rows
      (record { left = x.posted.left; stage = InJob; claim = Some x.posted.claim })
      (ap (λ (r : Row). r.stage) x.posted.is) (ap (λ (v : StoreState). v.rows) x.next) (λ e. cc e))

  -- and so is one that was posted and gave up
  gave_up : (row number : ℕ) (reply : Reply) → (rows_of p.rows row).stage ≡ Posted number
      → LogsWork s row (Decided Answered) reply s.device t → row ≡ channel
  gave_up row number reply was (logs_own l) =
      by_stage row number (given_back s row (Decided Answered)).rows
      (record { left = l.rest; stage = Decided Answered; claim = None }) was
      (ap (λ (v : StoreState). v.rows) l.next) (λ e. cc e)
  gave_up row number reply was (logs_filled l) = by_row row (λ same.
      let now : (rows_of q.rows row).stage ≡ Decided Answered =
      ap (λ (v : StoreState). (v.rows row).stage) l.next ∙ told l.posted.channel in
      let bad : Posted number ≡ Decided Answered = sym was ∙ ap (λ (r : Row). r.stage) (sym same) ∙ now in cc bad)
    where
      told : (other : ℕ) → (with_row (given_back s row (Decided Answered)).rows other
          (record { left = l.posted.rest; stage = Decided Answered; claim = None }) row).stage ≡ Decided Answered
      told other = elim (cases_eq row other) [
        | inl e ↦ ap (λ (r : Row). r.stage) (row_at (given_back s row (Decided Answered)).rows other
            (record { left = l.posted.rest; stage = Decided Answered; claim = None }) row e)
        | inr ne ↦ ap (λ (r : Row). r.stage) (row_other (given_back s row (Decided Answered)).rows other
            (record { left = l.posted.rest; stage = Decided Answered; claim = None }) row ne)
            ∙ ap (λ (r : Row). r.stage) (row_here s.rows row
            (record { left = (s.rows row).left; stage = Decided Answered; claim = None }))
      ]

  lacked : LacksForInsert s t → ServingTurn d.tells s t channel
  lacked x = serving.lacks_for_insert x
      (gave_up x.posted.row x.serial _ (ap (λ (r : Row). r.stage) x.posted.is) x.logs)

  lacked_memory : LacksMemoryForInsert s t → ServingTurn d.tells s t channel
  lacked_memory x = serving.lacks_memory_for_insert x
      (gave_up x.posted.row x.serial _ (ap (λ (r : Row). r.stage) x.posted.is) x.logs)

  -- a row that has one command less is the channel's too, and it was posted
  halted : Halts s t → ServingTurn d.tells s t channel
  halted x =
      let here : x.channel ≡ channel = by_row x.channel (λ same.
      longer x.command x.rest (rows_of p.rows x.channel).left (ap (λ (r : Row). r.left) x.row)
      (ap (λ (r : Row). r.left) (sym same ∙ ap (λ (v : StoreState). v.rows x.channel) x.next
      ∙ row_here s.rows x.channel (record { left = x.rest; stage = stage_after x.stage; claim = None })))) in
      serving.halts serial x
      (sym (ap (λ (r : Row). r.stage) x.row) ∙ ap (λ (n : ℕ). (rows_of p.rows n).stage) here ∙ posted) here

  -- a message's command is answered
  pub by_answer : (p.stopped ≡ None → TurnMade d p q kind.answers) → (IsSome p.stopped → TurnMade d p q kind.halts)
      → ServingTurn d.tells s t channel
  by_answer runs stopped = by_stop p.stopped (λ e. answered (runs e).0) (λ e. halted (stopped e).0)

  -- it is refused
  pub by_refusal : (p.stopped ≡ None → TurnMade d p q kind.refuses)
      → (IsSome p.stopped → TurnMade d p q kind.halts) → ServingTurn d.tells s t channel
  by_refusal runs stopped = by_stop p.stopped (λ e. refused (runs e).0) (λ e. halted (stopped e).0)

  begun_or_not : (turn : BeginTurn) → BeginsOrNot d p q turn → ServingTurn d.tells s t channel
  begun_or_not begin.Began made = begun made.0
  begun_or_not begin.Logged made = refused made.0

  -- its job begins, or it is logged
  pub by_begin : (turn : BeginTurn) → (p.stopped ≡ None → BeginsOrNot d p q turn)
      → (IsSome p.stopped → (turn ≡ begin.Logged) × TurnMade d p q kind.halts) → ServingTurn d.tells s t channel
  by_begin turn runs stopped = by_stop p.stopped (λ e. begun_or_not turn (runs e)) (λ e. halted (stopped e).1.0)

  by_lack : (k : Kind) → IsLack k → TurnMade d p q k → ServingTurn d.tells s t channel
  by_lack kind.lacks_for_insert is made = lacked made.0
  by_lack kind.lacks_memory_for_insert is made = lacked_memory made.0
  by_lack _ is made = absurd is

  insert_begun_or_not : (turn : InsertTurn) → InsertsOrNot d p q turn → ServingTurn d.tells s t channel
  insert_begun_or_not insert.Began made = insert_begun made.0
  insert_begun_or_not insert.Decided made = lost made.0
  insert_begun_or_not insert.Logged made = by_lack made.kind made.is made.made

  -- a message's insert begins, is lost, or is logged
  pub by_insert : channel < 16 → (turn : InsertTurn) → (p.stopped ≡ None → InsertsOrNot d p q turn)
      → (IsSome p.stopped → (turn ≡ insert.Logged) × TurnMade d p q (halting channel)) → ServingTurn d.tells s t channel
  by_insert low turn runs stopped =
      by_stop p.stopped (λ e. insert_begun_or_not turn (runs e))
      (λ e. halted (subst (TurnMade d p q) (halting_own channel low) (stopped e).1).0)
