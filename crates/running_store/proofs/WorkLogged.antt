-- The command that a row works for is logged: its own, or that of a channel that the fill's row works for.
use Rattle.std.proofs.Common.{None, Some, ◌≡◌, ◌≢◌, ℕ, ◌<◌, ◌∷◌, List, length, Option, refl, sym, ◌∙◌, ap, arith, subst}
use Rattle.std.proofs.lemmas.Bool.{eq-eqb, ne_eqb}
use Rattle.std.proofs.lemmas.List.{set-set}
use Rattle.page_disk.specs.declared.disk.PageDisk.{Ghosts}
use Rattle.volume_model.specs.declared.command.Command.{Command}
use Rattle.volume_model.specs.declared.command.Command.TheVariants as c
use Rattle.volume_model.specs.declared.reply.Reply.{Reply}
use Rattle.store_model.specs.Claiming as of
use Rattle.store_model.specs.Claiming.{given_back, logs_filled, logs_own, LogsWork, Works}
use Rattle.store_model.specs.Device.{Device}
use Rattle.store_model.specs.Filling.{FillStands, IsFilledFor, StandsAt}
use Rattle.store_model.specs.Places.{without_claim}
use Rattle.store_model.specs.Rows.{fill_row, OpenClaim, Row, Rows, Stage}
use Rattle.store_model.specs.StoreState.{logged, StoreState}
use Rattle.running_store.specs.GivingBack.{filled, filled_on, HasCommand, HasWork, IsGivenUp, own}
use Rattle.running_store.specs.Steps.{logged_then}
use Rattle.running_store.specs.StoreView.{device_of, rows_of, state_of, StoreView}
use Rattle.running_store.proofs.GivenBack.{disk_given_up, fill_disk, fill_given_up, given_up}
use Rattle.running_store.proofs.Rowing.{channel_low, first_of, low_left}

-- ---- for whom a row works

-- where it works for no channel, it works for its own command
pub own_work : (filling : Option ℕ) (rows : List Row) (row : ℕ) → HasWork filling rows row
    → filled_on filling row ≡ None → HasCommand rows row × (row ≢ fill_row)
own_work filling rows row (own has) none = (has, λ e. let low = has.0 in omega (arith, low, e))
own_work filling rows row (filled channel here works has) none =
    absurd (let is = sym works ∙ sym (rw (eq-eqb row fill_row here) refl) ∙ none in cc is)

-- and else for that of the channel
pub filled_work : (filling : Option ℕ) (rows : List Row) (row channel : ℕ) → HasWork filling rows row
    → filled_on filling row ≡ Some channel
    → HasCommand rows channel × (row ≡ fill_row) × (filling ≡ Some channel)
filled_work filling rows row channel (own has) is =
    absurd (let none : filled_on filling row ≡ None =
    rw (ne_eqb row fill_row (λ e. let low = has.0 in omega (arith, low, e))) refl in
    let bad = sym none ∙ is in cc bad)
filled_work filling rows row channel (filled other here works has) is =
    let same : Some other ≡ Some channel = sym works ∙ sym (rw (eq-eqb row fill_row here) refl) ∙ is in
    let e : other ≡ channel = cc same in
    (subst (HasCommand rows) e has, here, works ∙ ap (λ n. Some n) e)

-- a row without a claim that gives up has its command logged, and no more
pub given_up_plainly : {D : Type 0} (p q : StoreView D) (row : ℕ) (next : Stage) (reply : Reply) (mark : ℕ)
    → row ≢ fill_row → (rows_of p.rows row).claim ≡ None → IsGivenUp p q row next reply mark
    → (command : Command) (rest : List Command) → (rows_of p.rows row).left ≡ command ∷ rest
    → q ≡ logged_then next p row command rest reply mark
given_up_plainly {D = D} p q row next reply mark other none (own ne is) command rest left =
    is command rest left
    ∙ ap (λ (rows : List Row). record (logged_then next p row command rest reply mark) {
      rows = rows;
      clusters = without_claim p.clusters (rows_of p.rows row).claim;
    }) (set-set p.rows row (record { left = (rows_of p.rows row).left; stage = next; claim = None })
    (record { left = rest; stage = next; claim = None }))
    ∙ ap (λ (o : Option OpenClaim). record (logged_then next p row command rest reply mark) {
      clusters = without_claim p.clusters o;
    }) none
given_up_plainly p q row next reply mark other none (filled channel here works is) command rest left =
    absurd (other here)

-- whether the store has stopped and the job are as they were
pub given_up_rest : {D : Type 0} (p q : StoreView D) (row : ℕ) (next : Stage) (reply : Reply) (mark : ℕ)
    → HasWork p.filling p.rows row → IsGivenUp p q row next reply mark
    → (q.stopped ≡ p.stopped) × (q.job ≡ p.job)
given_up_rest {D = D} p q row next reply mark (own has) (own ne is) =
    let first = first_of (rows_of p.rows row).left has.1 in
    let e = is first.0 first.1 first.2 in
    (ap (λ (v : StoreView D). v.stopped) e, ap (λ (v : StoreView D). v.job) e)
given_up_rest p q row next reply mark (own has) (filled channel here works is) =
    absurd (let low = has.0 in omega (arith, low, here))
given_up_rest p q row next reply mark (filled channel here works has) (own ne is) = absurd (ne here)
given_up_rest {D = D} p q row next reply mark (filled channel here works has) (filled other at works_too is) =
    let both : Some channel ≡ Some other = sym works ∙ works_too in
    let same : channel ≡ other = cc both in
    let some = subst (HasCommand p.rows) same has in
    let first = first_of (rows_of p.rows other).left some.1 in
    let e = is first.0 first.1 first.2 in
    (ap (λ (v : StoreView D). v.stopped) e, ap (λ (v : StoreView D). v.job) e)

-- ---- another state

-- what a row works for is as it was, where the rows are
pub works_still : (p q : StoreState) → q.rows ≡ p.rows → q.filling ≡ p.filling → (row : ℕ) → Works p row → Works q row
works_still p q rows filling row (of.own volume page word rest left) =
    of.own volume page word rest (ap (λ (r : Rows). (r row).left) rows ∙ left)
works_still p q rows filling row (of.fill channel here works) = of.fill channel here (filling ∙ works)

-- so is what is known of the fill's row
pub fill_still : (p q : StoreState) → q.rows ≡ p.rows → q.filling ≡ p.filling → FillStands p → FillStands q
fill_still p q rows filling fill = record {
  left = ap (λ (r : Rows). (r fill_row).left) rows ∙ fill.left;
  stage = subst (λ (o : Option ℕ). StandsAt o (q.rows fill_row).stage) (sym filling)
      (subst (λ (r : Rows). StandsAt p.filling (r fill_row).stage) (sym rows) fill.stage);
  filled = λ channel is. subst (λ (r : Rows). IsFilledFor (r channel)) (sym rows)
      (fill.filled channel (sym filling ∙ is));
}

-- the device is that behind the entry, whatever was seen of it before
pub logs_seen : (p : StoreState) (seen : Device) (row : ℕ) (stage : Stage) (reply : Reply) (device : Device)
    (q : StoreState) → LogsWork (record p { device = seen }) row stage reply device q
    → LogsWork p row stage reply device q
logs_seen p seen row stage reply device q (logs_own x) = logs_own (record {
  volume = x.volume;
  page = x.page;
  word = x.word;
  rest = x.rest;
  left = x.left;
  next = x.next;
})
logs_seen p seen row stage reply device q (logs_filled x) = logs_filled (record {
  fills = x.fills;
  posted = record {
    channel = x.posted.channel;
    serial = x.posted.serial;
    command = x.posted.command;
    rest = x.posted.rest;
    row = x.posted.row;
  };
  works = x.works;
  asks = x.asks;
  next = x.next;
})

-- ---- as the state has it

module _ {D : Type 0} (d : Ghosts D) (p : StoreView D) (seventeen : length p.rows ≡ 17) where
  abbrev s : StoreState
  s = state_of d p

  -- a row that there is
  pub row_low : (row : ℕ) → row < 17 → row < length p.rows
  row_low row low = omega (arith, low, seventeen)

  pub fill_low : fill_row < length p.rows
  fill_low = omega (arith, seventeen)

  module _ (fill : FillStands s) (q : StoreView D) (row : ℕ) (next : Stage) (reply : Reply) where
    -- the fill's row has no command of its own
    pub own_row : (command : Command) (rest : List Command) → (rows_of p.rows row).left ≡ command ∷ rest
        → row ≢ fill_row
    own_row command rest left here =
        let none = fill.left in
        let bad = sym none ∙ ap (λ n. (rows_of p.rows n).left) (sym here) ∙ left in cc bad

    pub work_logged : row < 17 → Works s row → IsGivenUp p q row next reply (d.clock q.disk)
        → LogsWork s row next reply (device_of d p.disk) (state_of d q)
    work_logged low (of.own volume page word rest left) (own other is) = logs_own (record {
      volume = volume;
      page = page;
      word = word;
      rest = rest;
      left = left;
      next = given_up d p row (row_low row low) next q (c.Write volume page word) rest reply
          (is (c.Write volume page word) rest left);
    })
    work_logged low (of.own volume page word rest left) (filled channel here works is) =
        absurd (own_row (c.Write volume page word) rest left here)
    work_logged low (of.fill channel here works) (own other is) = absurd (other here)
    work_logged low (of.fill channel here works) (filled other at works_too is) =
        let x : IsFilledFor (s.rows other) = fill.filled other works_too in
        let left = ap (λ (r : Row). r.left) x.is in
        logs_filled (record {
          fills = here;
          posted = record { channel = other; serial = x.serial; command = x.command; rest = x.rest; row = x.is };
          works = works_too;
          asks = x.asks;
          next = fill_given_up d p fill_low next q other x.command x.rest reply (is x.command x.rest left)
              (low_left p.rows other x.command x.rest left)
              ∙ ap (λ n. logged (record (given_back s n next) { filling = None }) other x.command x.rest reply
              (device_of d p.disk)) (sym here);
        })

    -- the device is as it was
    pub work_disk : row < 17 → Works s row → IsGivenUp p q row next reply (d.clock q.disk) → q.disk ≡ p.disk
    work_disk low (of.own volume page word rest left) (own other is) =
        disk_given_up d p row (row_low row low) next q (c.Write volume page word) rest reply
        (is (c.Write volume page word) rest left)
    work_disk low (of.own volume page word rest left) (filled channel here works is) =
        absurd (own_row (c.Write volume page word) rest left here)
    work_disk low (of.fill channel here works) (own other is) = absurd (other here)
    work_disk low (of.fill channel here works) (filled other at works_too is) =
        let x : IsFilledFor (s.rows other) = fill.filled other works_too in
        let left = ap (λ (r : Row). r.left) x.is in
        fill_disk d p fill_low next q other x.command x.rest reply (is x.command x.rest left)
        (low_left p.rows other x.command x.rest left)

  -- a row that works has a command to log
  pub has_work : FillStands s → (row : ℕ) → Works s row → HasWork p.filling p.rows row
  has_work fill row (of.own volume page word rest left) = own (
    channel_low p.rows row (c.Write volume page word) rest seventeen fill.left left,
    let n = ap (λ (l : List Command). length l) left in omega (arith, n),
  )
  has_work fill row (of.fill channel here works) =
      let x : IsFilledFor (s.rows channel) = fill.filled channel works in
      let left = ap (λ (r : Row). r.left) x.is in
      filled channel here works (
        channel_low p.rows channel x.command x.rest seventeen fill.left left,
        let n = ap (λ (l : List Command). length l) left in omega (arith, n),
      )

  -- a row that works is one of those that there are
  pub work_low : FillStands s → (row : ℕ) → Works s row → row < 17
  work_low fill row (of.own volume page word rest left) =
      let low = low_left p.rows row (c.Write volume page word) rest left in omega (arith, low, seventeen)
  work_low fill row (of.fill channel here works) = omega (arith, here)
