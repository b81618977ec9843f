-- The turns lacks_for_insert and lacks_memory_for_insert: an insert can't begin.
use Rattle.std.proofs.Common.{◌≡◌, ℕ, None, refl, subst, sym}
use Rattle.volume_model.specs.declared.reply.Reply.{Reply}
use Rattle.volume_model.specs.declared.reply.Reply.TheVariants as r
use Rattle.store_model.specs.Claiming.{IsCopying, LogsWork}
use Rattle.store_model.specs.Rows.{Answered, Decided, entry_of, Posted}
use Rattle.store_model.specs.StoreState.{StoreState}
use Rattle.store_model.specs.Turning.{IsQuiet}
use Rattle.store_model.specs.Cases.LackForInsert as pages
use Rattle.store_model.specs.Cases.LackMemoryForInsert as memory
use Rattle.store_model.specs.RunInvariant.{RunInvariant}
use Rattle.volume_model.proofs.RefusalsSettleNothing.{not_flushing}
use Rattle.store_model.proofs.GivenBack.{ends_refusal, EndsWork, logged_work, logged_work_facts}
use Rattle.store_model.proofs.Known.{Known}
use Rattle.store_model.proofs.Refusals.{RefusalsChangeNothing}
use Rattle.store_model.proofs.Over.{answer, Effect, stays, TurnLaw}
use Rattle.store_model.proofs.Shapes.{idles, Idles, notes, untouched_images}
use Rattle.store_model.proofs.Shaped.{decided_may}
use Rattle.store_model.proofs.StateKept.{not_in_job}

-- the command that the row works for is logged with this reply
module _ (reply : Reply) (ends : EndsWork reply) where
  keeps : RefusalsChangeNothing → (known : Known) (serial : ℕ) (posted : IsCopying known.p (Posted serial))
      (q : StoreState) → LogsWork known.p posted.row (Decided Answered) reply known.p.device q
      → RunInvariant known.s known.first known.script q
  keeps quiet known serial posted q logs =
      logged_work_facts quiet known posted.row (Decided Answered) decided_may (λ bad. cc bad)
      (not_in_job known _ _ posted.is (λ bad. cc bad)) reply q (logged_work logs) ends

  module _ (p q : StoreState) (row : ℕ) (logs : LogsWork p row (Decided Answered) reply p.device q) where
    effect : IsQuiet reply → (reply ≡ r.ReadFault → ⊥) → p.stopped ≡ None → Effect p q
    effect quiet unread runs =
        let x = logged_work logs in
        subst (Effect p) (sym x.next) (record {
          goes = stays refl refl;
          logs = answer (entry_of p.log x.channel x.command reply) refl refl quiet runs
              (λ bad. absurd (unread bad));
        })

    idle : Idles p q
    idle =
        let x = logged_work logs in
        subst (Idles p) (sym x.next) (idles p _ refl refl refl refl (λ _. notes
        (entry_of p.log x.channel x.command reply) refl (not_flushing x.command reply (ends_refusal reply ends))))

pub law : TurnLaw pages.kind
law = record {
  keeps = λ below told known q t. keeps r.NoPage tt below.refusals known t.serial t.posted q t.logs;
  effect = λ told p q t. effect r.NoPage tt p q t.posted.row t.logs tt (λ bad. cc bad) t.runs;
  images = λ d x t does. untouched_images d x does (idle r.NoPage tt x.p x.q t.posted.row t.logs);
  job = λ of. absurd of;
}

pub memory_law : TurnLaw memory.kind
memory_law = record {
  keeps = λ below told known q t. keeps r.Memory tt below.refusals known t.serial t.posted q t.logs;
  effect = λ told p q t. effect r.Memory tt p q t.posted.row t.logs tt (λ bad. cc bad) t.runs;
  images = λ d x t does. untouched_images d x does (idle r.Memory tt x.p x.q t.posted.row t.logs);
  job = λ of. absurd of;
}
