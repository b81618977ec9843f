-- A job that begins marks the store as in use before all else, where the store is clean: what every state has is kept.
use Rattle.std.proofs.Common.{◌≡◌, ◌≢◌, Bool, true, false, List, [], ◌∷◌, Some, None, refl, sym, ap, ◌∙◌, subst, arith}
use Rattle.store_model.specs.Jobs.{JobStands}
use Rattle.store_model.specs.Phases.{has_commit, marking, Marks, Phase}
use Rattle.store_model.specs.Places.{claimed_by, held_by, UsedPages}
use Rattle.store_model.specs.RunInvariant.{RunInvariant, RunsWell}
use Rattle.store_model.specs.StoreState.{ForCommand, ForInsert, ForRepair, JobState, marked, Service, StoreState}
use Rattle.store_model.specs.StoreState.{waiting}
use Rattle.store_model.proofs.Copies.{copied_same}
use Rattle.store_model.proofs.Guarding.{guarded_on}
use Rattle.store_model.proofs.JobKept.{moves_on}
use Rattle.store_model.proofs.Known.{Known}
use Rattle.store_model.proofs.Moved.{stands_same}
use Rattle.store_model.proofs.Shaped.{serves}

-- a mark commits nothing
pub commit_marking : (b : Bool) (todo : List Phase) → has_commit (marking b todo) ≡ has_commit todo
commit_marking true todo = refl
commit_marking false todo = refl

-- whoever waits for a job waits for it with the mark before it
waits_as : (x : Service) (todo : List Phase) → waiting x (Marks ∷ todo) ≡ waiting x todo
waits_as (ForCommand channel) todo = refl
waits_as (ForInsert channel) todo = refl
waits_as ForRepair todo = refl

module _ (known : Known) (j : JobState) (is : known.p.job ≡ Some j) (runs : known.p.stopped ≡ None)
    (some : j.todo ≢ []) where
  open known use {s, placed, first, script, p, facts}

  abbrev later : JobState
  later = record j { todo = Marks ∷ j.todo }

  abbrev now : StoreState
  now = record p { job = Some later }

  well : RunsWell first p
  well = facts.well runs

  stood : JobStands p j
  stood = well.job j is

  stands : JobStands p later
  stands = record {
    lays = (some, stood.lays);
    distinct = stood.distinct;
    served = λ channel serving waits.
        let y = stood.served channel serving waits in
        record { command = y.command; rest = y.rest; row = y.row; does = y.does };
    keeps = stood.keeps;
    settles = stood.settles;
    mends = stood.mends;
    zeroed = stood.zeroed;
    inserts = λ row serving.
        let y = stood.inserts row serving in
        record {
          unmarked = y.unmarked;
          waits = y.waits;
          thaws = y.thaws;
          unclaimed = y.unclaimed;
          puts = y.puts;
        };
  }

  with_mark : RunInvariant s first script now
  with_mark = moves_on known now refl runs (omega arith) refl
      (copied_same p now well.copied refl refl refl (λ row claim page x. x) refl) (ap claimed_by (sym is))
      (subst (UsedPages p.super.md_len p.pages p.chains) (ap held_by is) well.pages)
      (λ k here. let e : later ≡ k = cc here in subst (JobStands now) e
      (stands_same p now refl refl refl refl refl later (λ c in_job. refl) (λ page among. refl) stands))
      (λ c in_job.
      let y = serves p facts.shaped c in_job in
      let e : y.job ≡ j = let both = sym y.is ∙ is in cc both in
      record {
        job = later;
        is = refl;
        waits = waits_as j.serves j.todo ∙ ap (λ (i : JobState). waiting i.serves i.todo) (sym e) ∙ y.waits;
      })
      (λ k here. let e : later ≡ k = cc here in subst (λ (i : JobState). i.todo ≢ []) e (λ bad. cc bad))
      (λ k c here serving ahead.
      let e : later ≡ k = cc here in
      facts.shaped.served j c is (ap (λ (i : JobState). i.serves) e ∙ serving)
      (ap (λ (i : JobState). has_commit i.todo) e ∙ ahead))
      (guarded_on p now facts.guarded j later is refl runs refl refl)

  -- with the mark or without it
  pub marked_keeps : (b : Bool) → RunInvariant s first script (record p { job = Some (marked b j) })
  marked_keeps true = with_mark
  marked_keeps false = subst (λ o. RunInvariant s first script (record p { job = o })) is facts
