-- The fill's row gives its claim back, and the command that it works for is logged: what becomes of the rows.
use Rattle.std.proofs.Common.{None, Some, ◌≡◌, ◌≢◌, ℕ, ◌<◌, ◌∷◌, List, length, sym, ◌∙◌, ap, subst, arith}
use Rattle.volume_model.specs.declared.command.Command.{Command}
use Rattle.volume_model.specs.declared.reply.Reply.{Reply}
use Rattle.store_model.specs.Rows.{fill_row, Row, Stage}
use Rattle.running_store.specs.GivingBack.{filled, HasCommand, HasGivenUp, IsGivenUp, row_given_back}
use Rattle.running_store.specs.Steps.{decided, logged_at, OnlyRow}
use Rattle.running_store.specs.StoreView.{rows_of, StoreView}
use Rattle.running_store.proofs.Rowing.{only_row}

module _ {D : Type 0} (p mid : StoreView D) (seventeen : length p.rows ≡ 17) (row : ℕ) (next : Stage)
    (mid_is : mid ≡ row_given_back p row next) (here : row ≡ fill_row) (channel : ℕ)
    (works : p.filling ≡ Some channel) (has : HasCommand p.rows channel) where
  abbrev back : Row
  back = record { left = (rows_of p.rows row).left; stage = next; claim = None }

  given : OnlyRow p.rows mid.rows row back
  given = subst (λ (rows : List Row). OnlyRow p.rows rows row back) (sym (ap (λ (m : StoreView D). m.rows) mid_is))
      (only_row p.rows row back (omega (arith, seventeen, here)))

  other : channel ≢ row
  other e = let low = has.0 in omega (arith, low, e, here)

  kept : rows_of mid.rows channel ≡ rows_of p.rows channel
  kept = given.others channel other

  -- so that command has a first one still
  pub some_left : 0 < length (rows_of mid.rows channel).left
  some_left = let n = ap (λ (r : Row). length r.left) kept in let some = has.1 in omega (arith, n, some)

  pub fill_entered : (q : StoreView D) (reply : Reply) (mark : ℕ) → ((command : Command) (rest : List Command)
      → (rows_of mid.rows channel).left ≡ command ∷ rest
      → q ≡ logged_at (record mid { filling = None }) channel command rest reply mark)
      → IsGivenUp p q row next reply mark
  fill_entered q reply mark logged = filled channel here works (λ command rest left.
      logged command rest (ap (λ (r : Row). r.left) kept ∙ left)
      ∙ ap (λ (m : StoreView D). logged_at (record m { filling = None }) channel command rest reply mark) mid_is
      ∙ ap (λ n. logged_at (record (row_given_back p n next) { filling = None }) channel command rest reply mark) here)

  pub fill_rows : (new : List Row) → OnlyRow mid.rows new channel (decided (rows_of mid.rows channel))
      → HasGivenUp p.filling p.rows new row next
  fill_rows new only = filled channel here works (record {
    fill = only.others fill_row (λ e. other (sym e ∙ sym here)) ∙ ap (rows_of mid.rows) (sym here) ∙ given.row
        ∙ ap (λ n. record (rows_of p.rows n) { stage = next; claim = None }) here;
    told = only.row ∙ ap decided kept;
    others = λ k out not. only.others k not ∙ given.others k (λ e. out (e ∙ here));
  })
