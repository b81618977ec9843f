-- A turn on the fill's row is one of the fill.
use Rattle.std.proofs.Common.{◌≡◌, ◌≢◌, ℕ, zero, suc, Some, None, refl, sym, ap, ◌∙◌}
use Rattle.std.proofs.Common.{inl, inr, arith}
use Rattle.std.proofs.lemmas.Bool.{cases_eq}
use Rattle.page_disk.specs.declared.disk.PageDisk.{Ghosts}
use Rattle.volume_model.specs.declared.reply.Reply.{Reply}
use Rattle.store_model.specs.Cases as kind
use Rattle.store_model.specs.Cases.{Kind}
use Rattle.store_model.specs.Cases.Copy.{stage_left}
use Rattle.store_model.specs.Cases.Halt.{Halts}
use Rattle.store_model.specs.Cases.HaltFill.{HaltsFill}
use Rattle.store_model.specs.Claiming.{given_back, logs_filled, logs_own, LogsWork}
use Rattle.store_model.specs.Device.{Device}
use Rattle.store_model.specs.Filling.{FillStands}
use Rattle.store_model.specs.Rows.{Copying, fill_row, Idle, Row, Rows, Stage}
use Rattle.store_model.specs.Rows.{with_row}
use Rattle.store_model.specs.StoreState.{StoreState}
use Rattle.store_model.specs.Turning.{stopped_now}
use Rattle.store_model.proofs.FillKept.{with_command}
use Rattle.store_model.proofs.RowsKept.{row_here as row_at, row_other}
use Rattle.run_moves.specs.FillTurns as fill
use Rattle.run_moves.specs.FillTurns.{FillEnd, FillTurn}
use Rattle.channel_turns.specs.ClaimTurns.{IsOfCopy, IsOfSend}
use Rattle.job_begins.specs.Inserts.{IsLack}
use Rattle.running_store.specs.TurnMade.{TurnMade, TurnsAs}
use Rattle.running_store.specs.StoreView.{rows_of, state_of, StoreView}

module _ {D : Type 0} (d : Ghosts D) (p q : StoreView D) (stands : FillStands (state_of d p)) where
  abbrev s : StoreState
  s = state_of d p

  abbrev t : StoreState
  t = state_of d q

  -- the fill's row is at another stage
  abbrev pub HasChanged : Type 0
  HasChanged = (rows_of q.rows fill_row).stage ≢ (rows_of p.rows fill_row).stage

  module _ (changed : HasChanged) where
    -- the one row that is another is the fill's
    one : (next : StoreState) → t ≡ next → (row : ℕ) (now : Row) → next.rows ≡ with_row s.rows row now → row ≡ fill_row
    one next is row now rows = elim (cases_eq row fill_row) [
      | inl e ↦ e
      | inr ne ↦ absurd (changed (ap (λ (v : StoreState). (v.rows fill_row).stage) is
          ∙ ap (λ (r : Rows). (r fill_row).stage) rows
          ∙ ap (λ (r : Row). r.stage) (row_other s.rows row now fill_row (λ e. ne (sym e)))))
    ]

    -- so is the one that gave up
    gave_up : (mid : StoreState) → mid.rows ≡ s.rows → (row : ℕ) (stage : Stage) (reply : Reply) (device : Device)
        → LogsWork mid row stage reply device t → row ≡ fill_row
    gave_up mid same row stage reply device (logs_filled x) = x.fills
    gave_up mid same row stage reply device (logs_own x) =
        let left : (s.rows row).left ≡ _ = ap (λ (r : Rows). (r row).left) (sym same) ∙ x.left in
        let apart : fill_row ≢ row = with_command s stands row _ x.rest left in
        absurd (changed (ap (λ (v : StoreState). (v.rows fill_row).stage) x.next
        ∙ ap (λ (r : Row). r.stage) (row_other (given_back mid row stage).rows row
        (record { left = x.rest; stage = stage; claim = None }) fill_row apart)
        ∙ ap (λ (r : Row). r.stage) (row_other mid.rows row
        (record { left = (mid.rows row).left; stage = stage; claim = None }) fill_row apart)
        ∙ ap (λ (r : Rows). (r fill_row).stage) same))

    -- a row with a command isn't
    halts_none : Halts s t → ⊥
    halts_none x =
        with_command s stands x.channel x.command x.rest (ap (λ (r : Row). r.left) x.row)
        (sym (one _ x.next x.channel _ refl))

    module _ (channel : ℕ) (works : (other : ℕ) → p.filling ≡ Some other → other ≡ channel) where
      halted : (s.rows fill_row).stage ≢ Idle → HaltsFill s t → FillEnd d.tells s t channel
      halted at x = fill.halts_fill x (elim x.works [
        | inl unused ↦ absurd (at (ap (λ (r : Row). r.stage) unused))
        | inr is ↦ works x.posted.channel is
      ])

      -- a copy was given up,
      pub ended_copy : (s.rows fill_row).stage ≢ Idle → TurnsAs d IsOfCopy p q → FillEnd d.tells s t channel
      ended_copy at made = by made.kind made.is made.made
        where
          by : (k : Kind) → IsOfCopy k → TurnMade d p q k → FillEnd d.tells s t channel
          by kind.copy_not_read is m =
              fill.copy_not_read m.0 (gave_up s refl m.0.copying.row _ _ m.0.device m.0.logs)
          by kind.copy_fails is m =
              fill.copy_fails m.0 (gave_up (stopped_now s) refl m.0.copying.row _ _ m.0.device m.0.logs)
          by kind.halts is m = absurd (halts_none m.0)
          by kind.halts_fill is m = halted at m.0
          by _ is m = absurd is

      -- or the flush of the copies,
      pub ended_send : (s.rows fill_row).stage ≢ Idle → TurnsAs d IsOfSend p q → FillEnd d.tells s t channel
      ended_send at made = by made.kind made.is made.made
        where
          by : (k : Kind) → IsOfSend k → TurnMade d p q k → FillEnd d.tells s t channel
          by kind.copy_fails is m =
              fill.copy_fails m.0 (gave_up (stopped_now s) refl m.0.copying.row _ _ m.0.device m.0.logs)
          by kind.halts is m = absurd (halts_none m.0)
          by kind.halts_fill is m = halted at m.0
          by _ is m = absurd is

      -- or the insert.
      pub ended_insert : TurnsAs d IsLack p q → FillEnd d.tells s t channel
      ended_insert made = by made.kind made.is made.made
        where
          by : (k : Kind) → IsLack k → TurnMade d p q k → FillEnd d.tells s t channel
          by kind.lacks_for_insert is m =
              fill.lacks_for_insert m.0 (gave_up s refl m.0.posted.row _ _ s.device m.0.logs)
          by kind.lacks_memory_for_insert is m =
              fill.lacks_memory_for_insert m.0 (gave_up s refl m.0.posted.row _ _ s.device m.0.logs)
          by _ is m = absurd is

      pub ended_halted : (s.rows fill_row).stage ≢ Idle → TurnMade d p q kind.halts_fill → FillEnd d.tells s t channel
      ended_halted at m = halted at m.0

    -- it goes on
    pub on_loses_copy : (channel : ℕ) → TurnMade d p q kind.loses_copy → FillTurn d.tells s t channel
    on_loses_copy channel m = fill.loses_copy m.0 (one _ m.0.next m.0.copying.row _ refl)

    pub on_sends : (channel : ℕ) → TurnMade d p q kind.sends → FillTurn d.tells s t channel
    on_sends channel m = fill.sends m.0 (one _ m.0.next m.0.copying.row _ refl)

    pub on_begins : (channel : ℕ) → TurnMade d p q kind.begins_insert → FillTurn d.tells s t channel
    on_begins channel m = fill.begins_insert m.0 (one _ m.0.next m.0.posted.row _ refl)

    pub on_loses : (channel : ℕ) → TurnMade d p q kind.loses_insert → FillTurn d.tells s t channel
    on_loses channel m = fill.loses_insert m.0 (one _ m.0.next m.0.posted.row _ refl)

    pub on_settles : (channel : ℕ) → TurnMade d p q kind.settles → FillTurn d.tells s t channel
    on_settles channel m = fill.settles m.0 (one _ m.0.next m.0.channel _ refl)

  -- a page less is left
  fewer : (left : ℕ) → Copying (suc left) ≡ stage_left left → ⊥
  fewer zero bad = cc bad
  fewer (suc n) bad = let e : suc (suc n) ≡ suc n = cc bad in omega (arith, e)

  -- a page was copied on the one row that is another, the fill's
  pub on_copies : (channel : ℕ) → ((other : ℕ) → other ≢ fill_row → rows_of q.rows other ≡ rows_of p.rows other)
      → TurnMade d p q kind.copies → FillTurn d.tells s t channel
  on_copies channel others m =
      let x = m.0 in
      fill.copies x (elim (cases_eq x.copying.row fill_row) [
        | inl e ↦ e
        | inr ne ↦ absurd (fewer x.left (
            sym (ap (λ (r : Row). r.stage) x.copying.is) ∙ ap (λ (r : Row). r.stage) (sym (others x.copying.row ne))
            ∙ ap (λ (v : StoreState). (v.rows x.copying.row).stage) x.next
            ∙ ap (λ (r : Row). r.stage) (row_at s.rows x.copying.row _ x.copying.row refl)))
      ])
