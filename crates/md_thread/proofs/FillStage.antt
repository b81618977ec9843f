-- At which stage the fill's row is, by what it waits for, and behind its calls.
use Rattle.std.proofs.Common.{◌≡◌, ℕ, List, [], Option, Some, None, refl, sym, ap, ◌∙◌, subst, inl}
use Rattle.std.specs.Prelude.{IsSome}
use Rattle.volume_model.specs.declared.command.Command.{Command}
use Rattle.volume_model.specs.declared.reply.Msg.{Msg}
use Rattle.store_model.specs.Filling.{FillStands, StandsAt}
use Rattle.store_model.specs.Rows.{Claiming, Copying, Decided, Decision, Ended, fill_row, Idle, InJob, OpenClaim}
use Rattle.store_model.specs.Rows.{Posted}
use Rattle.store_model.specs.Rows.{Ready, Row, Stage}
use Rattle.store_model.specs.RunInvariant.{IsShaped}
use Rattle.store_model.specs.StoreState.{StoreState}
use Rattle.running_store.specs.GivingBack.{filled, HasGivenUp, own}
use Rattle.running_store.specs.Requests.{IsInsertPosted}
use Rattle.running_store.specs.Stages.{is_stage}
use Rattle.running_store.specs.StoreView.{rows_of}
use Rattle.running_store.specs.declared.rows.RowStage.{RowStage}
use Rattle.running_store.specs.declared.rows.RowStage.TheVariants as waits

-- the stage of a row without commands, by what it waits for
abbrev pub StageFor : RowStage → ℕ → Stage → Type 0
StageFor waits.Over n stage = stage ≡ Idle
StageFor (waits.Copy left) n stage = stage ≡ Copying left
StageFor waits.Ready n stage = stage ≡ Ready
StageFor (waits.Posted msg) n stage = (stage ≡ Posted msg.serial) × (msg ≡ record { channel = n; serial = msg.serial })
StageFor waits.InJob n stage = stage ≡ InJob
StageFor waits.Decided n stage = (outcome : Decision) × (stage ≡ Decided outcome)
StageFor waits.Ended n stage = stage ≡ Ended
StageFor waits.Claim n stage = stage ≡ Claiming
StageFor _ n stage = ⊥

at_none : (stage : Stage) (claim : Option OpenClaim) (n : ℕ)
    → StageFor (is_stage (record { left = []; stage = stage; claim = claim }) n) n stage
at_none Idle claim n = refl
at_none Claiming claim n = refl
at_none (Copying left) claim n = refl
at_none Ready claim n = refl
at_none (Posted serial) claim n = (refl, refl)
at_none InJob claim n = refl
at_none (Decided outcome) claim n = (outcome, refl)
at_none Ended claim n = refl

pub stage_for : (row : Row) (n : ℕ) → row.left ≡ [] → (w : RowStage) → is_stage row n ≡ w → StageFor w n row.stage
stage_for row n none w is = subst (λ x. StageFor x n row.stage) (ap (λ (l : List Command). is_stage (record {
  left = l;
  stage = row.stage;
  claim = row.claim;
}) n) (sym none) ∙ is) (at_none row.stage row.claim n)

-- behind what it gave up
pub gave_stage : (filling : Option ℕ) (old new : List Row) (next : Stage) → HasGivenUp filling old new fill_row next
    → (rows_of new fill_row).stage ≡ next
gave_stage filling old new next (own apart rows) = absurd (apart refl)
gave_stage filling old new next (filled channel is works rows) = ap (λ (r : Row). r.stage) rows.fill

-- what is posted on it is an insert
pub insert_posted : (p : StoreState) (rows : List Row) → p.rows ≡ rows_of rows → FillStands p → IsShaped p → (msg : Msg)
    → is_stage (rows_of rows fill_row) fill_row ≡ waits.Posted msg → IsInsertPosted rows msg
insert_posted p rows same stands shaped msg is =
    let left : (rows_of rows fill_row).left ≡ [] = ap (λ r. (r fill_row).left) (sym same) ∙ stands.left in
    let at = stage_for (rows_of rows fill_row) fill_row left (waits.Posted msg) is in
    subst (IsInsertPosted rows) (sym at.1) (record {
      stage = at.0;
      claimed = some (rows_of rows fill_row).claim refl (λ none. shaped.posted fill_row msg.serial
          (ap (λ r. (r fill_row).stage) same ∙ at.0)
          (inl (ap (λ r. (r fill_row).claim) same ∙ none)) stands.left);
    })
  where
    some : (o : Option OpenClaim) → (rows_of rows fill_row).claim ≡ o
        → ((rows_of rows fill_row).claim ≡ None → ⊥) → IsSome o
    some None is not = absurd (not is)
    some (Some claim) is not = refl

-- it waits for nothing else while no job runs
pub nothing_else : (p : StoreState) (w : RowStage) → FillStands p → IsShaped p → p.job ≡ None
    → is_stage (p.rows fill_row) fill_row ≡ w → (w ≡ waits.Over → ⊥) → ((left : ℕ) → w ≡ waits.Copy left → ⊥)
    → (w ≡ waits.Ready → ⊥) → ((msg : Msg) → w ≡ waits.Posted msg → ⊥) → (w ≡ waits.Decided → ⊥) → ⊥
nothing_else p w stands shaped none is over copy ready posted decided =
    go w (stage_for (p.rows fill_row) fill_row stands.left w is) over copy ready posted decided
  where
    no : (stage : Stage) → (p.rows fill_row).stage ≡ stage → ((o : Option ℕ) → StandsAt o stage → ⊥) → ⊥
    no stage at not = not p.filling (subst (StandsAt p.filling) at stands.stage)

    never_claiming : (o : Option ℕ) → StandsAt o Claiming → ⊥
    never_claiming None x = x
    never_claiming (Some ch) x = x

    never_ended : (o : Option ℕ) → StandsAt o Ended → ⊥
    never_ended None x = x
    never_ended (Some ch) x = x

    go : (w : RowStage) → StageFor w fill_row (p.rows fill_row).stage → (w ≡ waits.Over → ⊥)
        → ((left : ℕ) → w ≡ waits.Copy left → ⊥) → (w ≡ waits.Ready → ⊥) → ((msg : Msg) → w ≡ waits.Posted msg → ⊥)
        → (w ≡ waits.Decided → ⊥) → ⊥
    go waits.Over at over copy ready posted decided = over refl
    go (waits.Copy left) at over copy ready posted decided = copy left refl
    go waits.Ready at over copy ready posted decided = ready refl
    go (waits.Posted msg) at over copy ready posted decided = posted msg refl
    go waits.Decided at over copy ready posted decided = decided refl
    go waits.InJob at over copy ready posted decided =
        let j = shaped.in_job fill_row at in let bad = sym none ∙ j.1 in cc bad
    go waits.Ended at over copy ready posted decided = no Ended at never_ended
    go waits.Claim at over copy ready posted decided = no Claiming at never_claiming
    go _ at over copy ready posted decided = at
