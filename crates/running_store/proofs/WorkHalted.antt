-- On a stopped store the command that a row works for is logged as halted, its own or that of the fill.
use Rattle.std.proofs.Common.{None, Some, ◌≡◌, ◌≢◌, ℕ, ◌<◌, ◌∷◌, List, length, refl, sym, ◌∙◌, ap, arith, subst, inr}
use Rattle.std.proofs.lemmas.Bool.{eq-eqb, ne_eqb}
use Rattle.page_disk.specs.declared.disk.PageDisk.{Ghosts}
use Rattle.volume_model.specs.declared.command.Command.{Command}
use Rattle.volume_model.specs.declared.command.Command.TheVariants as c
use Rattle.volume_model.specs.declared.command.VolumeRef.{VolumeRef}
use Rattle.volume_model.specs.declared.command.PageWord.{PageWord}
use Rattle.volume_model.specs.declared.reply.Reply.TheVariants as r
use Rattle.inflate_delete.specs.Fills.{command_of}
use Rattle.inflate_delete.specs.declared.filling.FillKind.{FillKind}
use Rattle.inflate_delete.specs.declared.filling.FillKind.TheVariants.{Inflate, Decouple}
use Rattle.store_model.specs.Cases as kind
use Rattle.store_model.specs.Cases.Halt.{MayLog, stage_after}
use Rattle.store_model.specs.Claiming as of
use Rattle.store_model.specs.Claiming.{given_back, Works}
use Rattle.store_model.specs.Filling.{FillStands, IsFilledFor}
use Rattle.store_model.specs.Places.{without_claim}
use Rattle.store_model.specs.Rows.{Claiming, Copying, Decided, Ended, fill_row, Idle, InJob, Posted, Ready, Row, Stage}
use Rattle.store_model.specs.StoreState.{logged, logged_to, StoreState}
use Rattle.running_store.specs.GivingBack.{filled, halting, IsGivenUp, IsOwnStage, own, WaitsHere}
use Rattle.running_store.specs.StoreView.{device_of, rows_of, state_of, StoreView}
use Rattle.running_store.specs.TurnMade.{TurnMade}
use Rattle.running_store.proofs.GivenBack.{disk_given_up, fill_disk, fill_given_up, given_up_once}
use Rattle.running_store.proofs.Rowing.{low_left}
use Rattle.running_store.proofs.WorkLogged.{fill_low, own_row, row_low, work_low}

-- no write is a command for which slots are filled
pub no_fill : (kind : FillKind) (meant volume : VolumeRef) (page : ℕ) (word : PageWord)
    → c.Write volume page word ≡ command_of kind meant → ⊥
no_fill Inflate meant volume page word is = cc is
no_fill Decouple meant volume page word is = cc is

module _ {D : Type 0} (d : Ghosts D) (p : StoreView D) (seventeen : length p.rows ≡ 17) where
  abbrev s : StoreState
  s = state_of d p

  module _ (at : ℕ) (stands : p.stopped ≡ Some at) (q : StoreView D) (row : ℕ) (next : Stage) where
    -- a row's own command, for which the fill's row doesn't work
    pub halted_own : row ≢ fill_row → row < 17 → (command : Command) (rest : List Command)
        → (rows_of p.rows row).left ≡ command ∷ rest → MayLog (rows_of p.rows row).stage
        → ((serial : ℕ) → (rows_of p.rows row).stage ≡ Posted serial → p.filling ≢ Some row)
        → next ≡ stage_after (rows_of p.rows row).stage → IsGivenUp p q row next (r.Stopped at) (d.clock q.disk)
        → TurnMade d p q kind.halts
    halted_own other low command rest left may unfilled next_is (own ne is) = (
      record {
        channel = row;
        command = command;
        rest = rest;
        stage = (rows_of p.rows row).stage;
        claim = (rows_of p.rows row).claim;
        row = λ i. record (rows_of p.rows row) { left = left i };
        may = may;
        unfilled = unfilled;
        at = at;
        stands = stands;
        next = given_up_once d p row (row_low d p seventeen row low) next q command rest (r.Stopped at)
            (is command rest left) (rows_of p.rows row).claim refl
            ∙ ap (λ (stage : Stage). logged_to stage
            (record s { clusters = without_claim p.clusters (rows_of p.rows row).claim }) row command rest
            (r.Stopped at) (device_of d p.disk)) next_is;
      },
      disk_given_up d p row (row_low d p seventeen row low) next q command rest (r.Stopped at) (is command rest left),
    )
    halted_own other low command rest left may unfilled next_is (filled channel here works is) = absurd (other here)

    halted_fill : FillStands s → row ≡ fill_row → MayLog (rows_of p.rows row).stage
        → next ≡ stage_after (rows_of p.rows row).stage → IsGivenUp p q row next (r.Stopped at) (d.clock q.disk)
        → TurnMade d p q kind.halts_fill
    halted_fill fill at_fill may next_is (own other is) = absurd (other at_fill)
    halted_fill fill at_fill may next_is (filled channel here works is) =
        let x : IsFilledFor (s.rows channel) = fill.filled channel works in
        let left = ap (λ (y : Row). y.left) x.is in
        let low = low_left p.rows channel x.command x.rest left in (
          record {
            posted = record { channel = channel; serial = x.serial; command = x.command; rest = x.rest; row = x.is };
            asks = x.asks;
            works = inr works;
            may = subst (λ n. MayLog (rows_of p.rows n).stage) at_fill may;
            at = at;
            stands = stands;
            next = fill_given_up d p (fill_low d p seventeen) next q channel x.command x.rest (r.Stopped at)
                (is x.command x.rest left) low
                ∙ ap (λ (stage : Stage). logged (record (given_back s fill_row stage) { filling = None }) channel
                x.command x.rest (r.Stopped at) (device_of d p.disk))
                (next_is ∙ ap (λ n. stage_after (rows_of p.rows n).stage) at_fill);
          },
          fill_disk d p (fill_low d p seventeen) next q channel x.command x.rest (r.Stopped at)
              (is x.command x.rest left) low,
        )

    -- the command that a row works for
    pub halted_work : FillStands s → Works s row → MayLog (rows_of p.rows row).stage
        → next ≡ stage_after (rows_of p.rows row).stage → IsGivenUp p q row next (r.Stopped at) (d.clock q.disk)
        → TurnMade d p q (halting row)
    halted_work fill (of.own volume page word rest left) may next_is given =
        let other = own_row d p seventeen fill q row next (r.Stopped at) (c.Write volume page word) rest left in
        let is : halting row ≡ kind.halts = rw (ne_eqb row fill_row other) refl in
        subst (TurnMade d p q) (sym is)
        (halted_own other (work_low d p seventeen fill row (of.own volume page word rest left))
        (c.Write volume page word) rest left may (λ serial posted works.
        let x : IsFilledFor (s.rows row) = fill.filled row works in
        no_fill x.asks.kind x.asks.volume volume page word
        (let first = sym left ∙ ap (λ (y : Row). y.left) x.is in let e = x.asks.is in cc (first, e))) next_is given)
    halted_work fill (of.fill channel here works) may next_is given =
        let is : halting row ≡ kind.halts_fill = rw (eq-eqb row fill_row here) refl in
        subst (TurnMade d p q) (sym is)
        (halted_fill fill here may next_is given)

-- ---- a channel's own turn on a stopped store

may_log : (stage : Stage) → IsOwnStage stage → MayLog stage
may_log Idle mine = tt
may_log Claiming mine = tt
may_log (Copying left) mine = tt
may_log Ready mine = tt
may_log _ mine = absurd mine

goes_idle : (stage : Stage) → IsOwnStage stage → Idle ≡ stage_after stage
goes_idle Idle mine = refl
goes_idle Claiming mine = refl
goes_idle (Copying left) mine = refl
goes_idle Ready mine = refl
goes_idle _ mine = absurd mine

not_posted : (stage : Stage) (serial : ℕ) → IsOwnStage stage → stage ≡ Posted serial → ⊥
not_posted (Posted n) serial mine is = mine
not_posted Idle serial mine is = cc is
not_posted Claiming serial mine is = cc is
not_posted (Copying left) serial mine is = cc is
not_posted Ready serial mine is = cc is
not_posted InJob serial mine is = mine
not_posted (Decided outcome) serial mine is = mine
not_posted Ended serial mine is = mine

pub halted_here : {D : Type 0} (d : Ghosts D) (p : StoreView D) → length p.rows ≡ 17 → (channel : ℕ) → channel < 16
    → (w : WaitsHere p channel) (at : ℕ) → p.stopped ≡ Some at → (q : StoreView D)
    → IsGivenUp p q channel Idle (r.Stopped at) (d.clock q.disk) → TurnMade d p q kind.halts
halted_here d p seventeen channel low w at stands q given =
    let stage = ap (λ (y : Row). y.stage) w.row in
    halted_own d p seventeen at stands q channel Idle (λ here. omega (arith, low, here)) (omega (arith, low)) w.command
    w.rest (ap (λ (y : Row). y.left) w.row) (subst MayLog (sym stage) (may_log w.stage w.own))
    (λ serial posted _. not_posted w.stage serial w.own (sym stage ∙ posted))
    (goes_idle w.stage w.own ∙ ap stage_after (sym stage)) given
