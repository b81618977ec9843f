-- What repairs have come to, turn by turn.
use Rattle.std.proofs.Common.{◌≡◌, ◌⊎◌, ◌∙◌, ℕ, ◌<◌, ◌∷◌, List, [], length, Some, None, refl, sym, ap, subst}
use Rattle.std.proofs.Common.{inl, inr}
use Rattle.std.proofs.Common.{Option, true, false}
use Rattle.std.specs.Prelude.{is_some}
use Rattle.std.specs.List.{All}
use Rattle.std.proofs.lemmas.List.Elements.{All-head, All-tail}
use Rattle.page_disk.specs.declared.disk.PageDisk.{Ghosts}
use Rattle.volume_model.specs.declared.reply.Entry.{Entry}
use Rattle.metadata_turns.specs.JobTurns.{IsOfJob, TurnsJob}
use Rattle.repair_runs.specs.RepairLaws.{GoesOnMending, RepairLaws}
use Rattle.repair_runs.specs.RepairRuns.{marks_left, IsMending, IsOfInsert, IsOfRepair, RepairRun}
use Rattle.store_core.specs.StoreInvariant.{opening_script, StoreInvariant}
use Rattle.running_store.specs.StoreView.{rows_of, state_of, StoreView, WithOpening}
use Rattle.store_model.specs.Cases.{Kind, Run, the}
use Rattle.store_model.specs.Cases as kind
use Rattle.store_model.specs.Cases.BeginRepair.{BeginsRepair}
use Rattle.store_model.specs.Rows.{Rows}
use Rattle.store_model.specs.StoreState.{shown, JobState, StoreState}
use Rattle.blob_meta.specs.Repairs.{repairs}
use Rattle.store_model.proofs.Repairing.{repaired_unmarked}
use Rattle.blob_tool.specs.Repairing.{AreMade, EndsRepairs, IsStoppedNow, Mends}
use Rattle.blob_tool.specs.declared.repairing.RepairsEnd.TheVariants as end

-- a job's kind of turn is any job's, or an insert's
of_kind : (k : Kind) → IsOfJob k → (the k).OfJob ⊎ IsOfInsert k
of_kind kind.inserts is = inr tt
of_kind kind.insert_ends is = inr tt
of_kind kind.insert_fails is = inr tt
of_kind kind.insert_breaks_down is = inr tt
of_kind other is = inl is

module _ {D : Type 0} (d : Ghosts D) where
  -- A repair's job has made some of its turns since a state of the store: it goes on, or is done, or the store stopped.
  pub record MendsSoFar (marks : ℕ) (p q : StoreView D) : Type 0 where
    pub run : RepairRun d.tells (state_of d p) (state_of d q)
    pub unlogged : q.log ≡ p.log
    pub rows : rows_of q.rows ≡ rows_of p.rows
    pub after : ((q.stopped ≡ None) × IsMending marks (state_of d q)) ⊎ (IsStoppedNow q × (q.job ≡ None))

  -- A repair's job is being finished: it has made some of its turns, by the one right of the store.
  pub record IsFinishing (old now : WithOpening D) (right : ℕ) : Type 0 where
    pub kept : StoreInvariant d now
    pub mends : (marks : ℕ) → IsMending marks (state_of d old.at) → MendsSoFar marks old.at now.at
    pub opening : now.opening ≡ old.opening
    pub own : right ≡ now.right
    pub same : now.right ≡ old.right

  -- Repairs are being made, one after another, and no job runs between two of them.
  pub record IsRepairing (old now : WithOpening D) (right : ℕ) : Type 0 where
    pub made : AreMade d old.at now.at
    pub runs : now.at.stopped ≡ None
    pub opening : now.opening ≡ old.opening
    pub own : right ≡ now.right
    pub same : now.right ≡ old.right

  -- no repair is made so far
  pub none_made : (laws : RepairLaws) (p : StoreView D) → p.job ≡ None → AreMade d p p
  none_made laws p no_job = record {
    run = laws.none d.tells (state_of d p);
    unlogged = refl;
    rows = λ channel. refl;
    no_job = no_job;
  }

  -- runs of repairs are joined
  joined_by : (laws : RepairLaws) (p : StoreState) (kinds : List Kind) (q r : StoreState) → RepairRun d.tells p q
      → All IsOfRepair kinds → Run d.tells q kinds r → RepairRun d.tells p r
  joined_by laws p [] q r first all is = subst (RepairRun d.tells p) (sym is) first
  joined_by laws p (k ∷ kinds) q r first all x =
      joined_by laws p kinds x.0 r
      (laws.go_on d.tells p q x.0 k first (All-head IsOfRepair k kinds all) x.1) (All-tail IsOfRepair k kinds all) x.2

  -- what is made behind repairs that were made
  pub both_made : (laws : RepairLaws) (p q r : StoreView D) → AreMade d p q → AreMade d q r → AreMade d p r
  both_made laws p q r first second = record {
    run = joined_by laws (state_of d p) second.run.kinds (state_of d q) (state_of d r) first.run second.run.of_repair
        second.run.run;
    unlogged = second.unlogged ∙ first.unlogged;
    rows = λ channel. second.rows channel ∙ first.rows channel;
    no_job = second.no_job;
  }

  module _ (laws : RepairLaws) (b : WithOpening D) (kept : StoreInvariant d b) (marks : ℕ) (p : StoreView D)
      (so_far : MendsSoFar marks p b.at) (job : JobState) (is : b.at.job ≡ Some job) (r : StoreView D)
      (turn : TurnsJob d b.at r) where
    abbrev q : StoreView D
    q = b.at

    still : (q.stopped ≡ None) × IsMending marks (state_of d q)
    still = elim so_far.after [
      | inl runs ↦ runs
      | inr stopped ↦ absurd (let bad = sym is ∙ stopped.1 in cc bad)
    ]

    goes : GoesOnMending marks (state_of d q) turn.kind (state_of d r)
    goes = laws.turn d.tells b.opening.super (shown (state_of d b.opening)) (opening_script b.opening) marks
        (state_of d q) (state_of d r) turn.kind kept.facts still.0 still.1 (of_kind turn.kind turn.of_job) turn.made.0

    -- behind one turn more
    pub mends_more : MendsSoFar marks p r
    mends_more = record {
      run = laws.go_on d.tells (state_of d p) (state_of d q) (state_of d r) turn.kind so_far.run goes.of_repair
          turn.made.0;
      unlogged = goes.log ∙ so_far.unlogged;
      rows = goes.rows ∙ so_far.rows;
      after = elim goes.after [
        | inl runs ↦ inl runs
        | inr stopped ↦ inr (stopped.0 ∙ ap (λ (log : List Entry). Some (length log)) (sym goes.log), stopped.1)
      ];
    }

  -- the job is done, or the store has stopped
  pub mends : (laws : RepairLaws) (marks : ℕ) (p q : StoreView D) → MendsSoFar marks p q → q.job ≡ None
      → Mends d p q marks
  mends laws marks p q so_far no_job = record {
    made = record {
      run = so_far.run;
      unlogged = so_far.unlogged;
      rows = λ channel. ap (λ (rows : Rows). rows channel) so_far.rows;
      no_job = no_job;
    };
    either = elim so_far.after [
      | inl runs ↦ inr (runs.0, laws.done marks (state_of d q) runs.1 no_job)
      | inr stopped ↦ inl stopped.0
    ];
  }

  -- a repair that begins is the first turn of a run of repairs
  pub mends_begun : (laws : RepairLaws) (p q r : StoreView D) (marks : ℕ) → BeginsRepair (state_of d p) (state_of d q)
      → Mends d q r marks → AreMade d p r
  mends_begun laws p q r marks begins x =
      let begun = laws.begun (state_of d p) (state_of d q) begins in
      let first = laws.go_on d.tells (state_of d p) (state_of d p) (state_of d q) kind.begins_repair
      (laws.none d.tells (state_of d p)) tt begins in
      record {
        run = joined_by laws (state_of d p) x.made.run.kinds (state_of d q) (state_of d r) first x.made.run.of_repair
            x.made.run.run;
        unlogged = x.made.unlogged ∙ begun.log;
        rows = λ channel. x.made.rows channel ∙ ap (λ (rows : Rows). rows channel) begun.rows;
        no_job = x.made.no_job;
      }

  -- the store stopped in the job
  pub stops_mending : (p q : StoreView D) (marks at : ℕ) → Mends d p q marks → q.stopped ≡ Some at → IsStoppedNow q
  stops_mending p q marks at x is = elim x.either [
    | inl stopped ↦ stopped
    | inr runs ↦ absurd (let bad = sym is ∙ runs.0 in cc bad)
  ]

  -- it didn't, and fewer blobs have a mark
  pub fewer_marks : (p q : StoreView D) (marks : ℕ) → Mends d p q marks → q.stopped ≡ None
      → marks_left (state_of d q) < marks
  fewer_marks p q marks x is = elim x.either [
    | inl stopped ↦ absurd (let bad = sym is ∙ stopped in cc bad)
    | inr runs ↦ runs.1
  ]

  -- no repair is left
  pub repairs_ended : (laws : RepairLaws) (b : WithOpening D) → StoreInvariant d b → (q : StoreView D)
      → b.at.stopped ≡ None → b.at.job ≡ None → repairs b.at.super.md_len (state_of d b.at).base ≡ [] → q ≡ b.at
      → EndsRepairs d b.at q end.Repaired
  repairs_ended laws b kept q runs no_job none same =
      let repaired = laws.clean b.opening.super (shown (state_of d b.opening)) (opening_script b.opening)
      (state_of d b.at) kept.facts none in
      subst (λ (v : StoreView D). EndsRepairs d b.at v end.Repaired) (sym same) (record {
        made = none_made laws b.at no_job;
        ended = (runs, repaired_unmarked (state_of d b.at) repaired runs no_job);
      })

-- a job runs, or none does
pub running_job : (o : Option JobState) → is_some o ≡ true → (job : JobState) × (o ≡ Some job)
running_job None is = absurd (cc is)
running_job (Some job) is = (job, refl)

pub no_job_runs : (o : Option JobState) → is_some o ≡ false → o ≡ None
no_job_runs None is = refl
no_job_runs (Some job) is = absurd (cc is)
