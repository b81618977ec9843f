-- A store with nothing left to repair stays so, and so does one that serves a command or has stopped.
use Rattle.std.proofs.Common.{◌≡◌, ◌≢◌, ◌⊎◌, ℕ, Bool, List, [], ◌∷◌, length, Some, None, refl, sym, ap, ◌∙◌, subst}
use Rattle.std.proofs.Common.{inl, inr}
use Rattle.super_block.specs.declared.page.Super.{Super}
use Rattle.volume_model.specs.Volumes.{Volumes}
use Rattle.volume_model.specs.declared.command.Command.{Command}
use Rattle.blob_meta.specs.Repairs.{HasNoMarks}
use Rattle.blob_meta.specs.Resolving.{mark_of}
use Rattle.store_model.specs.Maps.{Metas}
use Rattle.store_model.specs.Phases.{behind, OnlyMend, Phase, replaced}
use Rattle.store_model.specs.Cases.{Kind, Turn}
use Rattle.store_model.specs.Cases as k
use Rattle.store_model.specs.Cases.BeginRepair.{BeginsRepair}
use Rattle.store_model.specs.Cases.BreakDown.{BreaksDown, IsUnlogged, WasLogged}
use Rattle.store_model.specs.Cases.Commit.{Commits}
use Rattle.store_model.specs.Cases.Free.{Frees}
use Rattle.store_model.specs.Cases.Insert.{Inserts}
use Rattle.store_model.specs.Cases.InsertEnd.{InsertEnds}
use Rattle.store_model.specs.Cases.ReplaceMore.{ReplacesMore}
use Rattle.store_model.specs.Repairing.{at_work, halted, IsRepaired, unmarked}
use Rattle.store_model.specs.RunInvariant.{RunInvariant}
use Rattle.store_model.specs.StoreState.{ForCommand, ForInsert, ForRepair, going_on, JobState, Service, StoreState}
use Rattle.store_model.specs.Turning.{Runs}
use Rattle.store_model.proofs.GivenBack.{logged_work}
use Rattle.store_model.proofs.Heads.{replaced_is}
use Rattle.store_model.proofs.WithEntry.{option_all}

-- ---- by what a turn does to the metadata, the job and the stop

-- the same
same : {p q n : StoreState} → q ≡ n → n.base ≡ p.base → n.job ≡ p.job → n.stopped ≡ p.stopped → IsRepaired p
    → IsRepaired q
same next base job stopped (unmarked none) = subst IsRepaired (sym next) (unmarked (subst HasNoMarks (sym base) none))
same next base job stopped (at_work j is serves) = subst IsRepaired (sym next) (at_work j (job ∙ is) serves)
same next base job stopped (halted at is) = subst IsRepaired (sym next) (halted at (stopped ∙ is))

-- the store stops, or has stopped
stops : {q n : StoreState} (at : ℕ) → q ≡ n → n.stopped ≡ Some at → IsRepaired q
stops at next is = subst IsRepaired (sym next) (halted at is)

-- a job begins that is no repair
begins : {q n : StoreState} (j : JobState) → q ≡ n → n.job ≡ Some j → j.serves ≢ ForRepair → IsRepaired q
begins j next is serves = subst IsRepaired (sym next) (at_work j is serves)

is_repair : (x : Service) → (x ≡ ForRepair) ⊎ (x ≢ ForRepair)
is_repair (ForCommand c) = inr (λ e. cc e)
is_repair (ForInsert c) = inr (λ e. cc e)
is_repair ForRepair = inl refl

-- the job goes on as one that serves the same, or ends where no blob has a mark
works : (q : StoreState) (other : JobState) (written : List ℕ) (rest : List Phase) → q.job ≡ going_on other written rest
    → other.serves ≢ ForRepair → HasNoMarks (behind q.base rest) → IsRepaired q
works q other written [] job serves none = unmarked none
works q other written (x ∷ xs) job serves none = at_work (record other { written = written; todo = x ∷ xs }) job serves

module _ (s : Super) (first : Volumes) (script : ℕ → List Command) (p : StoreState)
    (facts : RunInvariant s first script p) (q : StoreState) {phase : Phase} (running : Runs p phase) where
  -- the running job goes on or ends
  goes_on : (other : JobState) (written : List ℕ) → q.job ≡ going_on other written running.rest
      → other.serves ≡ running.job.serves → behind p.base running.job.todo ≡ behind q.base running.rest
      → (running.job.serves ≡ ForRepair → HasNoMarks p.base → HasNoMarks q.base) → IsRepaired p → IsRepaired q
  goes_on other written job serves leads mends was = elim (is_repair running.job.serves) [
    | inr no_repair ↦ works q other written running.rest job (λ e. no_repair (sym serves ∙ e))
        (subst HasNoMarks leads (((facts.well running.runs).job running.job running.is).settles no_repair))
    | inl repair ↦ by repair was
  ]
    where
      by : running.job.serves ≡ ForRepair → IsRepaired p → IsRepaired q
      by repair (unmarked none) = unmarked (mends repair none)
      by repair (at_work j is other) =
          let e : running.job ≡ j = let both = sym running.is ∙ is in cc both in
          absurd (other (ap (λ (i : JobState). i.serves) (sym e) ∙ repair))
      by repair (halted at is) = absurd (let bad = sym running.runs ∙ is in cc bad)

-- the job goes on for sure, over the same metadata
stays : {p q n : StoreState} {phase : Phase} (running : Runs p phase) (other : JobState) → q ≡ n → n.base ≡ p.base
    → n.job ≡ Some other → other.serves ≡ running.job.serves → n.stopped ≡ p.stopped → IsRepaired p → IsRepaired q
stays running other next base job serves stopped (unmarked none) =
    subst IsRepaired (sym next) (unmarked (subst HasNoMarks (sym base) none))
stays running other next base job serves stopped (at_work j is no_repair) =
    let e : running.job ≡ j = let both = sym running.is ∙ is in cc both in
    subst IsRepaired (sym next) (at_work other job (λ repair. no_repair (ap (λ (i : JobState). i.serves) (sym e)
    ∙ sym serves ∙ repair)))
stays running other next base job serves stopped (halted at is) = subst IsRepaired (sym next) (halted at (stopped ∙ is))

-- without a job, while it runs, nothing is left to repair
pub repaired_unmarked : (p : StoreState) → IsRepaired p → p.stopped ≡ None → p.job ≡ None → HasNoMarks p.base
repaired_unmarked p (unmarked none) runs no_job = none
repaired_unmarked p (at_work j is serves) runs no_job = absurd (let bad = sym no_job ∙ is in cc bad)
repaired_unmarked p (halted at is) runs no_job = absurd (let bad = sym runs ∙ is in cc bad)

-- ---- each kind

module _ (told : Bool) (s : Super) (first : Volumes) (script : ℕ → List Command) (p q : StoreState) where
  commits : RunInvariant s first script p → Commits told p q → IsRepaired p → IsRepaired q
  commits facts t = goes_on s first script p facts q t.running (record t.running.job { claimed = [] }) []
      (ap (λ (v : StoreState). v.job) t.next) refl
      (ap (behind p.base) t.running.next ∙ ap (λ (m : Metas). behind m t.running.rest)
      (sym (ap (λ (v : StoreState). v.base) t.next)))
      (λ repair. absurd (let bad = sym t.served.serves ∙ repair in cc bad))

  inserts : RunInvariant s first script p → Inserts told p q → IsRepaired p → IsRepaired q
  inserts facts t = goes_on s first script p facts q t.running t.running.job []
      (ap (λ (v : StoreState). v.job) t.next) refl
      (ap (behind p.base) t.running.next ∙ ap (λ (m : Metas). behind m t.running.rest)
      (replaced_is p.base t.replacing t.new t.new_is ∙ sym (ap (λ (v : StoreState). v.base) t.next)))
      (λ repair. absurd (let bad = sym t.inserting.serves ∙ repair in cc bad))

  replaces : RunInvariant s first script p → ReplacesMore told p q → IsRepaired p → IsRepaired q
  replaces facts t =
      let now : q.base ≡ replaced p.base t.replacing = ap (λ (v : StoreState). v.base) t.next in
      goes_on s first script p facts q t.running (record t.running.job { claimed = [] }) []
      (ap (λ (v : StoreState). v.job) t.next) refl
      (ap (behind p.base) t.running.next ∙ ap (λ (m : Metas). behind m t.running.rest) (sym now))
      (λ repair none. subst HasNoMarks (sym now)
      (option_all p.base t.replacing.head t.replacing.new (λ h m. mark_of m ≡ None) none
      (subst OnlyMend t.running.next (((facts.well t.running.runs).job t.running.job t.running.is).mends repair)).0))

  frees : RunInvariant s first script p → Frees told p q → IsRepaired p → IsRepaired q
  frees facts t =
      let now : q.base ≡ p.base = ap (λ (v : StoreState). v.base) t.next in
      goes_on s first script p facts q t.running t.running.job [] (ap (λ (v : StoreState). v.job) t.next) refl
      (ap (behind p.base) t.running.next ∙ ap (λ (m : Metas). behind m t.running.rest) (sym now))
      (λ repair none. subst HasNoMarks (sym now) none)

  insert_ends : RunInvariant s first script p → InsertEnds told p q → IsRepaired q
  insert_ends facts t = unmarked (subst HasNoMarks (sym (ap (λ (v : StoreState). v.base) t.next))
      (((facts.well t.running.runs).job t.running.job t.running.is).inserts t.inserting.row
      t.inserting.serves).unmarked)

  begins_repair : BeginsRepair p q → IsRepaired p → IsRepaired q
  begins_repair t was = unmarked (subst HasNoMarks (sym (ap (λ (v : StoreState). v.base) t.next))
      (repaired_unmarked p was t.runs t.no_job))

  -- a job that is broken down was stopped before
  breaks_down : BreaksDown p q → IsRepaired q
  breaks_down t = halted t.at (by t.ends)
    where
      by : IsUnlogged p t.job t.at q ⊎ WasLogged p t.job q → q.stopped ≡ Some t.at
      by (inl x) = ap (λ (v : StoreState). v.stopped) x.next ∙ t.stands
      by (inr x) = ap (λ (v : StoreState). v.stopped) x.next ∙ t.stands

  pub repaired_stays : (kind : Kind) → RunInvariant s first script p → Turn told p kind q → IsRepaired p → IsRepaired q
  repaired_stays k.posts facts t r = same t.next refl refl refl r
  repaired_stays k.answers facts t r = same t.next refl refl refl r
  repaired_stays k.refuses facts t r = same t.next refl refl refl r
  repaired_stays k.halts facts t r = same t.next refl refl refl r
  repaired_stays k.settles facts t r = same t.next refl refl refl r
  repaired_stays k.ends facts t r = same t.next refl refl refl r
  repaired_stays k.begins facts t r = begins _ t.next refl (λ e. cc e)
  repaired_stays k.marks_dirty facts t r = stays t.running _ t.next refl refl refl refl r
  repaired_stays k.zeroes facts t r = stays t.running _ t.next refl refl refl refl r
  repaired_stays k.writes facts t r = stays t.running _ t.next refl refl refl refl r
  repaired_stays k.commits facts t r = commits facts t r
  repaired_stays k.erases facts t r = stays t.running _ t.next refl refl refl refl r
  repaired_stays k.frees facts t r = frees facts t r
  repaired_stays k.fails facts t r = stops (length p.log) t.next refl
  repaired_stays k.breaks_off facts t r = stops (length p.log) t.next refl
  repaired_stays k.breaks_down facts t r = breaks_down t
  repaired_stays k.begins_repair facts t r = begins_repair t r
  repaired_stays k.replaces_more facts t r = replaces facts t r
  repaired_stays k.more_fails facts t r = stops (length p.log) t.next refl
  repaired_stays k.more_breaks_off facts t r = stops (length p.log) t.next refl
  repaired_stays k.flushes facts t r = same t.next refl refl refl r
  repaired_stays k.flush_fails facts t r = stops (length p.log) t.next refl
  repaired_stays k.reads facts t r = same t.next refl refl refl r
  repaired_stays k.refuses_write facts t r = same t.next refl refl refl r
  repaired_stays k.writes_page facts t r = same t.next refl refl refl r
  repaired_stays k.fails_to_write facts t r = stops (length p.log) t.next refl
  repaired_stays k.finds_empty facts t r = same t.next refl refl refl r
  repaired_stays k.finds_filled facts t r = same t.next refl refl refl r
  repaired_stays k.claims facts t r = same t.next refl refl refl r
  repaired_stays k.refuses_claim facts t r = same t.next refl refl refl r
  repaired_stays k.copies facts t r = same t.next refl refl refl r
  repaired_stays k.loses_copy facts t r = same t.next refl refl refl r
  repaired_stays k.copy_not_read facts t r = same (logged_work t.logs).next refl refl refl r
  repaired_stays k.copy_fails facts t r = stops (length p.log) (logged_work t.logs).next refl
  repaired_stays k.sends facts t r = same t.next refl refl refl r
  repaired_stays k.loses_insert facts t r = same t.next refl refl refl r
  repaired_stays k.lacks_for_insert facts t r = same (logged_work t.logs).next refl refl refl r
  repaired_stays k.lacks_memory_for_insert facts t r = same (logged_work t.logs).next refl refl refl r
  repaired_stays k.begins_insert facts t r = begins _ t.next refl (λ e. cc e)
  repaired_stays k.inserts facts t r = inserts facts t r
  repaired_stays k.insert_ends facts t r = insert_ends facts t
  repaired_stays k.insert_fails facts t r = stops (length p.log) (logged_work t.logs).next refl
  repaired_stays k.insert_breaks_down facts t r =
      halted t.at (ap (λ (v : StoreState). v.stopped) (logged_work t.logs).next ∙ t.stands)
  repaired_stays k.claims_fill facts t r = same t.next refl refl refl r
  repaired_stays k.lacks_for_fill facts t r = same t.next refl refl refl r
  repaired_stays k.halts_fill facts t r = same t.next refl refl refl r
  repaired_stays k.ends_fill facts t r = same t.next refl refl refl r
