-- The state once a claim is given back, and once a command is logged besides.
use Rattle.std.proofs.Common.{None, ◌≡◌, ℕ, ◌<◌, List, length, Option, sym, ◌∙◌, ap}
use Rattle.std.proofs.Common.{subst}
use Rattle.std.proofs.lemmas.List.{length-set}
use Rattle.page_disk.specs.declared.disk.PageDisk.{Ghosts}
use Rattle.volume_model.specs.declared.command.Command.{Command}
use Rattle.volume_model.specs.declared.reply.Reply.{Reply}
use Rattle.store_model.specs.Claiming.{given_back}
use Rattle.store_model.specs.Places.{without_claim}
use Rattle.store_model.specs.Rows.{fill_row, OpenClaim, Row, Rows, Stage}
use Rattle.store_model.specs.StoreState.{logged, logged_to, StoreState}
use Rattle.running_store.specs.Steps.{logged_at, logged_then}
use Rattle.running_store.specs.GivingBack.{fill_given_back, row_given_back}
use Rattle.running_store.specs.declared.stages.OpenClaim as held
use Rattle.running_store.specs.StoreView.{device_of, rows_of, state_of, StoreView}
use Rattle.running_store.proofs.Entered.{entered, entered_then}
use Rattle.running_store.proofs.Rowing.{rows_set, with_row_twice}

module _ {D : Type 0} (d : Ghosts D) (p : StoreView D) (row : ℕ) (low : row < length p.rows) (next : Stage) where
  abbrev was : Row
  was = rows_of p.rows row

  pub state_given_back : state_of d (row_given_back p row next) ≡ given_back (state_of d p) row next
  state_given_back =
      ap (λ (rows : Rows). record (state_of d p) { rows = rows; clusters = without_claim p.clusters was.claim })
      (rows_set p.rows row (record { left = was.left; stage = next; claim = None }) low)

  module _ (q : StoreView D) (command : Command) (rest : List Command) (reply : Reply)
      (is : q ≡ logged_then next (row_given_back p row next) row command rest reply (d.clock q.disk)) where
    pub disk_given_up : q.disk ≡ p.disk
    disk_given_up = ap (λ (a : StoreView D). a.disk) is

    -- the row's first command is logged behind the claim that is given back
    pub given_up : state_of d q
        ≡ logged_to next (given_back (state_of d p) row next) row command rest reply (device_of d p.disk)
    given_up =
        entered_then next d (row_given_back p row next) q row command rest reply
        (subst (λ n. row < n)
        (sym (length-set p.rows row (record { left = was.left; stage = next; claim = None }))) low) is
        ∙ ap (λ (s : StoreState). logged_to next s row command rest reply (device_of d p.disk)) state_given_back

    -- and so the claim is gone from the clusters in use, and the row has gone on
    pub given_up_once : (claim : Option OpenClaim) → was.claim ≡ claim
        → state_of d q
        ≡ logged_to next (record (state_of d p) { clusters = without_claim p.clusters claim }) row command rest reply
        (device_of d p.disk)
    given_up_once claim held =
        given_up
        ∙ ap (λ (rows : Rows). record (logged_to next (state_of d p) row command rest reply (device_of d p.disk)) {
          rows = rows;
          clusters = without_claim p.clusters was.claim;
        }) (with_row_twice (rows_of p.rows) row (record { left = was.left; stage = next; claim = None })
        (record { left = rest; stage = next; claim = None }))
        ∙ ap (λ (o : Option OpenClaim).
        logged_to next (record (state_of d p) { clusters = without_claim p.clusters o }) row command rest reply
        (device_of d p.disk)) held

-- the fill's row gives its claim back and works for no command any more, and that of a channel is logged
module _ {D : Type 0} (d : Ghosts D) (p : StoreView D) (low : fill_row < length p.rows) (next : Stage) (q : StoreView D)
    (channel : ℕ) (command : Command) (rest : List Command) (reply : Reply)
    (is : q ≡ logged_at (fill_given_back p next) channel command rest reply (d.clock q.disk))
    (channel_low : channel < length p.rows) where
  pub fill_disk : q.disk ≡ p.disk
  fill_disk = ap (λ (a : StoreView D). a.disk) is

  pub fill_given_up : state_of d q
      ≡ logged (record (given_back (state_of d p) fill_row next) { filling = None }) channel command rest reply
      (device_of d p.disk)
  fill_given_up =
      entered d (fill_given_back p next) q channel command rest reply
      (subst (λ n. channel < n)
      (sym (length-set p.rows fill_row (record {
        left = (rows_of p.rows fill_row).left;
        stage = next;
        claim = None;
      }))) channel_low) is
      ∙ ap (λ (s : StoreState). logged (record s { filling = None }) channel command rest reply (device_of d p.disk))
      (state_given_back d p fill_row low next)
