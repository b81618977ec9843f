-- What a message asks for that is posted without a claim.
use Rattle.std.proofs.Common.{◌≡◌, List, ◌∷◌, sym, ◌∙◌, subst}
use Rattle.page_disk.specs.declared.disk.PageDisk.{Ghosts}
use Rattle.volume_model.specs.declared.command.Command.{Command}
use Rattle.volume_model.specs.declared.reply.Msg.{Msg}
use Rattle.store_model.specs.Rows.{IsForMetadata, Posted, Row}
use Rattle.running_store.specs.Requests.{IsPostedBy}
use Rattle.store_core.specs.StoreInvariant.{StoreInvariant}
use Rattle.running_store.specs.StoreView.{rows_of, state_of, WithOpening}
use Rattle.turn_columns.proofs.RowSteps.{AsksUnclaimed, HasMetadata, IsAsked, IsAskedAt}
use Rattle.md_thread.proofs.RowsAlong.{asked_along}

-- a list begins with one command
pub same_first : (c k : Command) (cs ks : List Command) → c ∷ cs ≡ k ∷ ks → c ≡ k
same_first c k cs ks e = cc e

module _ {D : Type 0} (d : Ghosts D) (p : WithOpening D) (kept : StoreInvariant d p) (msg : Msg)
    (posted : IsPostedBy p.at.rows msg) where
  abbrev row : Row
  row = rows_of p.at.rows msg.channel

  asked : HasMetadata row.left
  asked =
      let is : IsAsked row = asked_along d.tells (state_of d p.opening) kept.run.0 (state_of d p.at) kept.began
      kept.run.1 msg.channel in
      let at : IsAskedAt row.left row.claim (Posted msg.serial) =
      subst (IsAskedAt row.left row.claim) posted.stage is in
      subst (AsksUnclaimed row.left) posted.unclaimed at

  -- it is a command for the metadata thread
  pub asks_metadata : (command : Command) (rest : List Command) → row.left ≡ command ∷ rest → IsForMetadata command
  asks_metadata command rest is =
      let x = asked in
      subst IsForMetadata (same_first x.command command x.rest rest (sym x.is ∙ is)) x.for
