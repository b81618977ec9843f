-- What a call asks of a store as it is seen holds of its own fields.
use Rattle.std.proofs.Common.{◌≡◌, ℕ, sym, subst}
use Rattle.volume_model.specs.declared.reply.Msg.{Msg}
use Rattle.running_store.specs.Requests.{IsPostedBy}
use Rattle.running_store.specs.Stages.{is_stage}
use Rattle.running_store.specs.StoreView.{WithOpening, rows_of}
use Rattle.running_store.specs.declared.rows.RowStage.{RowStage}

module _ {D : Type 0} {fields seen : WithOpening D} (same : fields ≡ seen) where
  pub stage_by : (channel : ℕ) {stage : RowStage} → is_stage (rows_of seen.at.rows channel) channel ≡ stage
      → is_stage (rows_of fields.at.rows channel) channel ≡ stage
  stage_by channel {stage} is =
      subst (λ (b : WithOpening D). is_stage (rows_of b.at.rows channel) channel ≡ stage) (sym same) is

  pub posted_by : {msg : Msg} → IsPostedBy seen.at.rows msg → IsPostedBy fields.at.rows msg
  posted_by {msg} posted = subst (λ (b : WithOpening D). IsPostedBy b.at.rows msg) (sym same) posted
