-- The turn refuses a write.
use Rattle.std.proofs.Common.{ap, refl, subst, sym}
use Rattle.volume_model.specs.declared.command.Command.{Command}
use Rattle.volume_model.specs.declared.command.Command.TheVariants as c
use Rattle.store_model.specs.Rows.{entry_of, Idle, Row}
use Rattle.store_model.specs.StoreState.{StoreState}
use Rattle.store_model.specs.Turning.{IsRefusedAtBegin}
use Rattle.store_model.specs.Cases.RefuseWrite as case
use Rattle.store_model.specs.Cases.RefuseWrite.{RefusesWrite}
use Rattle.store_model.specs.RunInvariant.{RunInvariant}
use Rattle.store_model.proofs.Known.{Known}
use Rattle.store_model.proofs.Refusals.{RefusalsChangeNothing}
use Rattle.store_model.proofs.Over.{answer, Effect, stays, TurnLaw}
use Rattle.store_model.proofs.Shapes.{idles, Idles, notes, untouched_images}
use Rattle.store_model.proofs.Shaped.{idle_may}
use Rattle.store_model.proofs.StateKept.{refused_here, caused_so, is_allowed, is_refusal, logged_facts, not_in_job}
use Rattle.store_model.proofs.StateKept.{refused_same}
use Rattle.store_model.proofs.Turns.Refuse.{refused_quiet, refused_unread}

module _ (p q : StoreState) (t : RefusesWrite p q) where
  abbrev command : Command
  command = c.Write t.volume t.page t.word

  why : IsRefusedAtBegin p command t.reply
  why = caused_so p command t.reply t.caused t.cause

-- ---- it keeps what every state has

module _ (quiet : RefusalsChangeNothing) (known : Known) where
  open known use {s, placed, first, script, p, facts}

  keeps : (q : StoreState) → RefusesWrite p q → RunInvariant s first script q
  keeps q t =
      let is = is_refusal p (command p q t) t.reply (why p q t) in
      let allowed = is_allowed p (command p q t) t.reply (why p q t) in
      subst (RunInvariant s first script) (sym t.next)
      (logged_facts known Idle idle_may t.channel (command p q t) t.rest t.reply
      (not_in_job known _ _ t.row (λ bad. cc bad)) (λ runs. ap (λ (r : Row). r.claim) t.row)
      (ap (λ (r : Row). r.left) t.row)
      (refused_here known (command p q t) t.reply is t.runs allowed)
      (λ runs. refused_same known quiet (command p q t) t.reply is allowed))

pub law : TurnLaw case.kind
law = record {
  keeps = λ below told known q t. keeps below.refusals known q t;
  effect = λ told p q t. subst (Effect p) (sym t.next)
      (record {
        goes = stays refl refl;
        logs = answer (entry_of p.log t.channel (command p q t) t.reply) refl refl
            (refused_quiet p (command p q t) t.reply (why p q t)) t.runs
            (λ bad. absurd (refused_unread p (command p q t) t.reply (why p q t) bad));
      });
  images = λ d x t does. untouched_images d x does
      (subst (Idles x.p) (sym t.next) (idles x.p _ refl refl refl refl
      (λ _. notes (entry_of x.p.log t.channel (command x.p x.q t) t.reply) refl refl)));
  job = λ of. absurd of;
}
