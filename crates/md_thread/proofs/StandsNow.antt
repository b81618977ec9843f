-- What is known of the fill's row of a store that runs.
use Rattle.std.proofs.Common.{◌≡◌, ◌≢◌, ℕ, List, [], ◌∷◌, Option, Some, None, refl, sym, ap, ◌∙◌, subst, inl}
use Rattle.page_disk.specs.declared.disk.PageDisk.{Ghosts}
use Rattle.volume_model.specs.declared.command.Command.{Command}
use Rattle.volume_model.specs.declared.reply.Msg.{Msg}
use Rattle.store_model.specs.Filling.{AsksForFill, FillStands, IsFilledFor, unused_row}
use Rattle.running_store.specs.Requests.{IsPostedBy}
use Rattle.running_store.specs.Steps.{Asks}
use Rattle.store_model.specs.Rows.{fill_row, Idle, OpenClaim, Posted, Row}
use Rattle.store_model.specs.Rows.{Stage}
use Rattle.store_model.specs.RunInvariant.{MayClaim}
use Rattle.store_model.specs.StateLaws.{StateLaws}
use Rattle.store_model.proofs.FillKept.{idle_fills_none}
use Rattle.store_model.specs.Filling.{StandsAt}
use Rattle.running_store.specs.Stages.{is_stage}
use Rattle.store_core.specs.StoreInvariant.{StoreInvariant}
use Rattle.running_store.specs.StoreView.{rows_of, state_of, WithOpening}
use Rattle.running_store.specs.declared.rows.RowStage.TheVariants.{Over}
use Rattle.md_thread.proofs.StepsDue.{over_idle}

module _ {D : Type 0} (d : Ghosts D) (laws : StateLaws) (p : WithOpening D) (kept : StoreInvariant d p) where
  pub stands : FillStands (state_of d p.at)
  stands = laws.fill_stands d.tells (state_of d p.opening) (state_of d p.at) kept.run.0 kept.began kept.run.1

  module _ (over : is_stage (rows_of p.at.rows fill_row) fill_row ≡ Over) where
    abbrev row : Row
    row = rows_of p.at.rows fill_row

    idle : row.stage ≡ Idle
    idle = over_idle row.left row.stage row.claim fill_row over

    -- while its row isn't used it works for no command
    pub works_for_none : p.at.filling ≡ None
    works_for_none = idle_fills_none p.at.filling (subst (StandsAt p.at.filling) idle stands.stage)

    pub unfilled : (channel : ℕ) → p.at.filling ≢ Some channel
    unfilled channel works = let bad = sym works_for_none ∙ works in cc bad

    unclaimed : (o : Option OpenClaim) → row.claim ≡ o → o ≡ None
    unclaimed None is = refl
    unclaimed (Some claim) is = absurd (subst MayClaim idle (kept.facts.shaped.claims fill_row claim is))

    pub unused : row ≡ unused_row
    unused = ap (λ (l : List Command). record { left = l; stage = row.stage; claim = row.claim }) stands.left
        ∙ ap (λ (x : Stage). record { left = []; stage = x; claim = row.claim }) idle
        ∙ ap (λ (o : Option OpenClaim). record { left = []; stage = Idle; claim = o }) (unclaimed row.claim refl)

  -- a row that is posted without a claim, of which the first command is an inflate or a decouple
  pub posted_filled : (msg : Msg) → IsPostedBy p.at.rows msg → Asks p.at msg.channel AsksForFill
      → IsFilledFor (rows_of p.at.rows msg.channel)
  posted_filled msg posted asks = go (rows_of p.at.rows msg.channel).left refl
    where
      row_of : (left : List Command) → (rows_of p.at.rows msg.channel).left ≡ left
          → rows_of p.at.rows msg.channel ≡ record { left = left; stage = Posted msg.serial; claim = None }
      row_of left is =
          let r = rows_of p.at.rows msg.channel in
          ap (λ (l : List Command). record { left = l; stage = r.stage; claim = r.claim }) is
          ∙ ap (λ (x : Stage). record { left = left; stage = x; claim = r.claim }) posted.stage
          ∙ ap (λ (o : Option OpenClaim). record { left = left; stage = Posted msg.serial; claim = o })
          posted.unclaimed

      go : (left : List Command) → (rows_of p.at.rows msg.channel).left ≡ left
          → IsFilledFor (rows_of p.at.rows msg.channel)
      go [] none = absurd (kept.facts.shaped.posted msg.channel msg.serial posted.stage (inl posted.unclaimed) none)
      go (command ∷ rest) is = record {
        serial = msg.serial;
        command = command;
        rest = rest;
        is = row_of (command ∷ rest) is;
        asks = asks command rest is;
      }
