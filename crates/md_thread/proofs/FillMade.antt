-- What a turn of the fill makes of it.
use Rattle.std.proofs.Common.{◌≡◌, ℕ, ◌<◌, Some, None, refl, sym, ap, ◌∙◌, subst, arith}
use Rattle.page_disk.specs.declared.disk.PageDisk.{Ghosts}
use Rattle.volume_model.specs.declared.reply.Msg.{Msg}
use Rattle.store_model.specs.Filling.{IsFilledFor}
use Rattle.store_model.specs.Rows.{Row}
use Rattle.run_work.specs.RunFacts.{is_filled_for}
use Rattle.run_moves.specs.FillTurns.{FillTurn, worked_for}
use Rattle.running_store.specs.Requests.{IsPostedBy}
use Rattle.running_store.specs.StoreView.{rows_of, state_of, StoreView}
use Rattle.md_thread.specs.Holding.{IsKept, MetadataState}
use Rattle.md_thread.specs.Tasks.{FillMoves}
use Rattle.md_thread.specs.Turns as made
use Rattle.md_thread.specs.Turns.{FillMade}
use Rattle.md_thread.specs.declared.serving.Filling.{Filling}
use Rattle.md_thread.specs.declared.serving.Filling.TheVariants as filling
use Rattle.md_thread.proofs.RowsLeft.{filling_leaves}

module _ {D : Type 0} (d : Ghosts D) (p q : StoreView D) (s : MetadataState) (kept : IsKept d p s) (msg : Msg)
    (fills : s.fill ≡ Some msg) where
  -- its message is a channel's, whose row is posted under its number without a claim
  low : msg.channel < 16
  low = (kept.current msg (is_filled_for fills)).0

  posted : IsPostedBy p.rows msg
  posted = record {
    stage = (kept.current msg (is_filled_for fills)).1;
    unclaimed = ap (λ (r : Row). r.claim) (kept.asked msg fills).is;
  }

  -- and the fill's row works for it
  works : (channel : ℕ) → p.filling ≡ Some channel → channel ≡ msg.channel
  works channel is =
      let x = kept.works channel is in
      let both : Some msg ≡ Some x.0 = sym (ap (λ o. worked_for o s.held) fills) ∙ x.1 in
      let same : msg ≡ x.0 = cc both in
      sym (ap (λ (m : Msg). m.channel) same ∙ x.2)

  module _ (turn : Filling) (moves : msg.channel < 16 → IsPostedBy p.rows msg
      → ((channel : ℕ) → p.filling ≡ Some channel → channel ≡ msg.channel)
      → FillMoves d.tells (state_of d p) (state_of d q) msg.channel turn) where
    pub fill_ended : turn ≡ filling.Ended
        → FillMade d.tells (state_of d p) (state_of d q) msg s (record s { fill = None })
    fill_ended is = made.ended (subst (FillMoves d.tells (state_of d p) (state_of d q) msg.channel) is
        (moves low posted works)) refl

    went : turn ≡ filling.GoesOn → FillTurn d.tells (state_of d p) (state_of d q) msg.channel
    went is = subst (FillMoves d.tells (state_of d p) (state_of d q) msg.channel) is (moves low posted works)

    pub fill_went_on : turn ≡ filling.GoesOn → FillMade d.tells (state_of d p) (state_of d q) msg s s
    fill_went_on is = made.goes_on (went is) (ap (λ o. record s { fill = o }) fills)

    pub fill_asked : turn ≡ filling.GoesOn → (other : Msg) → s.fill ≡ Some other
        → IsFilledFor (rows_of q.rows other.channel)
    fill_asked is other has =
        let below = (kept.current other (is_filled_for has)).0 in
        subst IsFilledFor (sym (filling_leaves (state_of d p) (state_of d q) d.tells msg.channel other.channel
        (λ e. omega (arith, below, e)) (went is))) (kept.asked other has)
