-- What a message that was served makes of the fill.
use Rattle.std.proofs.Common.{◌≡◌, ◌≢◌, ◌<◌, Some, None, refl, sym, ap, ◌∙◌, subst, arith}
use Rattle.page_disk.specs.declared.disk.PageDisk.{Ghosts}
use Rattle.volume_model.specs.declared.reply.Msg.{Msg}
use Rattle.store_model.specs.Filling.{IsFilledFor}
use Rattle.store_model.specs.Rows.{fill_row, Posted, Row}
use Rattle.run_moves.specs.DriverSteps.{ServingTurn}
use Rattle.run_moves.specs.FillTurns.{FillEnd, FillTurn}
use Rattle.running_store.specs.Requests.{IsPostedBy}
use Rattle.running_store.specs.StoreView.{rows_of, state_of, StoreView}
use Rattle.md_thread.specs.Holding.{IsKept, MetadataState}
use Rattle.md_thread.specs.Turns as made
use Rattle.md_thread.specs.Turns.{ServiceMade}
use Rattle.md_thread.proofs.RowsLeft.{filling_leaves, serving_leaves}

module _ {D : Type 0} (d : Ghosts D) (p q : StoreView D) (s : MetadataState) (msg : Msg) (low : msg.channel < 16)
    (posted : (rows_of p.rows msg.channel).stage ≡ Posted msg.serial)
    (unfilled : IsPostedBy p.rows msg → s.fill ≡ None) where
  not_fill : msg.channel ≢ fill_row
  not_fill e = omega (arith, low, e)

  -- no fill goes on where a command was served
  none_for : IsFilledFor (rows_of p.rows msg.channel) → s.fill ≡ None
  none_for f = unfilled (record { stage = posted; unclaimed = ap (λ (r : Row). r.claim) f.is })

  pub went_on : IsFilledFor (rows_of p.rows msg.channel) × FillTurn d.tells (state_of d p) (state_of d q) msg.channel
      → ServiceMade d.tells (state_of d p) (state_of d q) msg s (record s { fill = Some msg })
  went_on x = made.filled (none_for x.0) (made.goes_on x.1 refl)

  pub ended : IsFilledFor (rows_of p.rows msg.channel) × FillEnd d.tells (state_of d p) (state_of d q) msg.channel
      → ServiceMade d.tells (state_of d p) (state_of d q) msg s s
  ended x = made.filled (none_for x.0) (made.ended x.1 (ap (λ o. record s { fill = o }) (none_for x.0)))

  pub done : ServingTurn d.tells (state_of d p) (state_of d q) msg.channel
      → ServiceMade d.tells (state_of d p) (state_of d q) msg s s
  done x = made.served x refl

  -- the fill that goes on then is of an inflate or a decouple
  pub asked_on : IsFilledFor (rows_of p.rows msg.channel) × FillTurn d.tells (state_of d p) (state_of d q) msg.channel
      → (other : Msg) → Some msg ≡ Some other → IsFilledFor (rows_of q.rows other.channel)
  asked_on x other is =
      let same : msg ≡ other = cc is in
      subst (λ (m : Msg). IsFilledFor (rows_of q.rows m.channel)) same
      (subst IsFilledFor
      (sym (filling_leaves (state_of d p) (state_of d q) d.tells msg.channel msg.channel not_fill x.1))
      x.0)

  pub asked_ended : IsFilledFor (rows_of p.rows msg.channel) → (other : Msg) → s.fill ≡ Some other
      → IsFilledFor (rows_of q.rows other.channel)
  asked_ended f other is = let bad = sym (none_for f) ∙ is in absurd (cc bad)

  pub asked_done : IsKept d p s → ServingTurn d.tells (state_of d p) (state_of d q) msg.channel → (other : Msg)
      → s.fill ≡ Some other → IsFilledFor (rows_of q.rows other.channel)
  asked_done kept turn other is =
      let f = kept.asked other is in
      let apart : other.channel ≢ msg.channel = λ e.
      let none = none_for (subst (λ n. IsFilledFor (rows_of p.rows n)) e f) in
      let bad = sym none ∙ is in cc bad in
      subst IsFilledFor (sym (serving_leaves (state_of d p) (state_of d q) msg.channel other.channel apart d.tells low
      turn)) f
