-- The turn breaks_down.
use Rattle.std.proofs.Common.{◌≡◌, ◌∷◌, ◌<◌, [], ℕ, length, length-append, None, Some, ap, arith, inl, inr, refl, subst}
use Rattle.std.proofs.Common.{sym, ◌∙◌, List, ◌≢◌}
use Rattle.volume_model.specs.declared.reply.Reply.TheVariants as r
use Rattle.store_model.specs.Rows.{Answered, Decided, entry_of, Row}
use Rattle.store_model.specs.StoreState.{JobState, logged, StoreState, turns_left}
use Rattle.store_model.specs.Cases.BreakDown as case
use Rattle.store_model.specs.Cases.BreakDown.{BreaksDown, IsUnlogged, WasLogged}
use Rattle.store_model.specs.RunInvariant.{RunInvariant}
use Rattle.store_model.proofs.FactsKept.{facts_kept, log_kept, log_stays}
use Rattle.store_model.proofs.Known.{Known}
use Rattle.store_model.proofs.Over.{Effect, halt, nothing, stays, TurnLaw}
use Rattle.store_model.proofs.Progress.{clears, JobLaw, logs_served, no_job}
use Rattle.store_model.proofs.Shapes.{Idles, untouched_images}
use Rattle.store_model.proofs.Shaped.{decided_may, shaped_same, shaped_with, waits_for_commit}
use Rattle.store_model.proofs.JobKept.{no_other, none_here}
use Rattle.store_model.proofs.StateKept.{runs_here}
use Rattle.store_model.specs.Phases.{Phase}
use Rattle.store_model.proofs.Guarding.{none_guarded}

-- ---- it keeps what every state has

module _ (known : Known) (j : JobState) (is : known.p.job ≡ Some j) (at : ℕ) (stands : known.p.stopped ≡ Some at) where
  open known use {s, placed, first, script, p, facts}

  module _ (q : StoreState) (t : IsUnlogged p j at q) where
    open t.served use {channel, serves, command, rest, row}

    keeps_unlogged : RunInvariant s first script q
    keeps_unlogged =
        let base : StoreState = record p { job = None } in
        let now : StoreState = logged base channel command rest (r.Stopped at) p.device in
        let done : RunInvariant s first script now =
        facts_kept known now refl refl (record {
          logs = log_kept known (Decided Answered) base channel command rest (r.Stopped at) p.device refl refl refl refl
              (ap (λ (row : Row). row.left) row) (omega arith) tt;
          well = λ runs. absurd (runs_here known at runs stands);
          shaped = shaped_with p facts.shaped now channel _ refl
              (no_other known j is channel (waits_for_commit j channel serves t.waits) now)
              (decided_may now channel rest)
              (λ job c bad serves waits. absurd (cc bad));
          guarded = none_guarded now (facts.guarded.stopped at stands);
          halted = λ n halts.
              let below = facts.halted n halts in
              omega (arith, below, length-append p.log (entry_of p.log channel command (r.Stopped at) ∷ []));
          unfinished = λ job bad. absurd (cc bad);
        }) in
        subst (RunInvariant s first script) (sym t.next) done

  keeps_logged : (q : StoreState) → WasLogged p j q → RunInvariant s first script q
  keeps_logged q t =
      let now : StoreState = record p { job = None } in
      let done : RunInvariant s first script now =
      facts_kept known now refl refl (record {
        logs = log_stays known now refl refl refl (λ c. refl) (omega arith);
        well = λ runs. absurd (runs_here known at runs stands);
        shaped = shaped_same p now facts.shaped refl (none_here known j is t.waits now)
            (λ job c bad serves waits. absurd (cc bad));
        guarded = none_guarded now (facts.guarded.stopped at stands);
        halted = facts.halted;
        unfinished = λ job bad. absurd (cc bad);
      }) in
      subst (RunInvariant s first script) (sym t.next) done

-- ---- the job is done

module _ (known : Known) (q : StoreState) (t : BreaksDown known.p q) where
  less : q.job ≡ None → turns_left q.job < turns_left known.p.job
  less none =
      let before : turns_left known.p.job ≡ length t.job.todo = ap turns_left t.is in
      let then : turns_left q.job ≡ 0 = ap turns_left none in
      let some : 0 < length t.job.todo = some_left t.job.todo (known.facts.unfinished t.job t.is) in
      omega (arith, some, before, then)
    where
      some_left : (l : List Phase) → l ≢ [] → 0 < length l
      some_left [] some = absurd (some refl)
      some_left (x ∷ xs) some = omega arith

  job_law : JobLaw known.p q
  job_law = elim t.ends [
    | inl x ↦
        let none : q.job ≡ None = ap (λ (v : StoreState). v.job) x.next in
        record {
          progress = logs_served known.p q t.job t.is x.served x.waits (ap (λ (v : StoreState). v.rows) x.next)
              (no_job q.job none);
          less = less none;
        }
    | inr x ↦
        let none : q.job ≡ None = ap (λ (v : StoreState). v.job) x.next in
        record {
          progress = clears t.job t.is x.waits (ap (λ (v : StoreState). v.rows) x.next) (no_job q.job none);
          less = less none;
        }
  ]

effect_of : (p q : StoreState) → BreaksDown p q → Effect p q
effect_of p q t = elim t.ends [
  | inl x ↦ subst (Effect p) (sym x.next) (record {
    goes = stays refl refl;
    logs = halt (entry_of p.log x.served.channel x.served.command (r.Stopped t.at)) t.at refl refl refl t.stands;
  })
  | inr x ↦ subst (Effect p) (sym x.next) (record { goes = stays refl refl; logs = nothing refl refl })
]

idles_of : (p q : StoreState) → BreaksDown p q → Idles p q
idles_of p q t = elim t.ends [
  | inl x ↦ subst (Idles p) (sym x.next) (record {
    base = refl;
    chains = refl;
    stopped = refl;
    job = inr (λ job bad. absurd (cc bad));
    log = λ runs. absurd (let bad = sym runs ∙ t.stands in cc bad);
  })
  | inr x ↦ subst (Idles p) (sym x.next) (record {
    base = refl;
    chains = refl;
    stopped = refl;
    job = inr (λ job bad. absurd (cc bad));
    log = λ runs. absurd (let bad = sym runs ∙ t.stands in cc bad);
  })
]

pub law : TurnLaw case.kind
law = record {
  keeps = λ _ told known q t. elim t.ends [
    | inl x ↦ keeps_unlogged known t.job t.is t.at t.stands q x
    | inr x ↦ keeps_logged known t.job t.is t.at t.stands q x
  ];
  effect = λ told p q t. effect_of p q t;
  images = λ d x t does. untouched_images d x does (idles_of x.p x.q t);
  job = λ _ told known q t. job_law known q t;
}
