-- The turn refuses_claim.
use Rattle.std.proofs.Common.{◌≡◌, inl, inr, ap, refl, subst, sym}
use Rattle.volume_model.specs.Steps.{Allowed, IsRefusal}
use Rattle.volume_model.specs.declared.command.Command.{Command}
use Rattle.volume_model.specs.declared.command.Command.TheVariants as c
use Rattle.volume_model.specs.declared.reply.Reply.{Reply}
use Rattle.volume_model.specs.declared.reply.Reply.TheVariants as r
use Rattle.store_model.specs.Shown.{fixed_of}
use Rattle.store_model.specs.Rows.{entry_of, Idle, Row}
use Rattle.store_model.specs.StoreState.{shown, StoreState}
use Rattle.store_model.specs.Turning.{IsQuiet}
use Rattle.store_model.specs.Cases.RefuseClaim as case
use Rattle.store_model.specs.Cases.RefuseClaim.{RefusesClaim}
use Rattle.store_model.specs.RunInvariant.{RunInvariant}
use Rattle.store_model.proofs.Known.{Known}
use Rattle.store_model.proofs.Refusals.{RefusalsChangeNothing}
use Rattle.store_model.proofs.Over.{answer, Effect, stays, TurnLaw}
use Rattle.store_model.proofs.Shapes.{idles, Idles, notes, untouched_images}
use Rattle.store_model.proofs.Shaped.{idle_may}
use Rattle.store_model.proofs.StateKept.{caused_so, is_allowed, is_refusal, logged_facts, not_in_job, refused_here}
use Rattle.store_model.proofs.StateKept.{refused_same}
use Rattle.store_model.proofs.Turns.Refuse.{refused_quiet, refused_unread}

-- what is known of the reply, whichever cause it has
record IsRefusing (p : StoreState) (command : Command) (reply : Reply) : Type 0 where
  refuses : IsRefusal reply
  allowed : Allowed (fixed_of p.super) (shown p) command reply
  quiet : IsQuiet reply
  unread : reply ≡ r.ReadFault → ⊥

module _ (p q : StoreState) (t : RefusesClaim p q) where
  abbrev command : Command
  command = c.Write t.write.volume t.write.page t.write.word

  refusing : IsRefusing p command t.reply
  refusing = elim t.why [
    | inl cause ↦
        let why = caused_so p command t.reply cause.0 cause.1 in
        record {
          refuses = is_refusal p command t.reply why;
          allowed = is_allowed p command t.reply why;
          quiet = refused_quiet p command t.reply why;
          unread = refused_unread p command t.reply why;
        }
    | inr full ↦ subst (IsRefusing p command) (sym full.0)
        (record { refuses = tt; allowed = (full.1, tt); quiet = tt; unread = λ bad. cc bad })
  ]

-- ---- it keeps what every state has

module _ (quiet : RefusalsChangeNothing) (known : Known) where
  open known use {s, placed, first, script, p, facts}

  keeps : (q : StoreState) → RefusesClaim p q → RunInvariant s first script q
  keeps q t =
      let is = refusing p q t in
      subst (RunInvariant s first script) (sym t.next)
      (logged_facts known Idle idle_may t.write.channel (command p q t) t.write.rest t.reply
      (not_in_job known _ _ t.write.row (λ bad. cc bad)) (λ runs. ap (λ (r : Row). r.claim) t.write.row)
      (ap (λ (r : Row). r.left) t.write.row)
      (refused_here known (command p q t) t.reply is.refuses t.runs is.allowed)
      (λ runs. refused_same known quiet (command p q t) t.reply is.refuses is.allowed))

pub law : TurnLaw case.kind
law = record {
  keeps = λ below told known q t. keeps below.refusals known q t;
  effect = λ told p q t. subst (Effect p) (sym t.next)
      (record {
        goes = stays refl refl;
        logs = answer (entry_of p.log t.write.channel (command p q t) t.reply) refl refl (refusing p q t).quiet t.runs
            (λ bad. absurd ((refusing p q t).unread bad));
      });
  images = λ d x t does. untouched_images d x does
      (subst (Idles x.p) (sym t.next) (idles x.p _ refl refl refl refl
      (λ _. notes (entry_of x.p.log t.write.channel (command x.p x.q t) t.reply) refl refl)));
  job = λ of. absurd of;
}
