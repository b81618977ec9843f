use Rattle.std.proofs.Common.{◌≡◌, ◌-◌, ◌≤◌, ℕ, zero, suc, false, Option, List, [], ◌∷◌, length, drop, take, refl}
use Rattle.std.proofs.Common.{sym, ◌∙◌, ap, subst, arith}
use Rattle.store_model.specs.Phases.{writing, erasing, Phase, Replaces}
use Rattle.store_model.specs.StoreState.{JobState}
use Rattle.running_store.specs.Jobs.{commit_in, job_seen, phases_in, replacing_of, waits_for_job, writing_for, IsHeaded}
use Rattle.running_store.specs.Blobs.{blobs_of, WillBeKept, Blobs}
use Rattle.running_store.specs.Running.{view_of}
use Rattle.running_store.specs.StoreView.{state_of, StoreView}
use Rattle.running_store.specs.declared.job.RunningJob.{RunningJob}
use Rattle.running_store.specs.declared.job.Serves.{Serves}
use Rattle.running_store.specs.declared.job.Work.{Work}
use Rattle.running_store.specs.declared.replacements.Planned.{Planned}
use Rattle.metadata_turns.specs.JobTurns.{with_job, IsAtWork, TurnsJob}
use Rattle.metadata_turns.proofs.AtWork.{pages_planned}
use Rattle.page_disk.specs.declared.disk.PageDisk.{Ghosts}
use Rattle.metadata_turns.proofs.job_turn.work_on.Goals as goal

-- the job with this work, with no mark before it
abbrev with_work : RunningJob → Work → RunningJob
with_work j w = record j { marks = false; work = w }

-- what is seen of it
seen_work : (j : RunningJob) (w : Work) → j.marks ≡ false → j.work ≡ w → job_seen j ≡ job_seen (with_work j w)
seen_work j w none is = ap (λ b. job_seen (record j { marks = b })) none ∙ ap (λ v. job_seen (with_work j v)) is

-- a turn of it is one of the job whose work this is
turned : {D : Type 0} {d : Ghosts D} {q : StoreView D} (p : StoreView D) (j : RunningJob) {w : Work} → j.marks ≡ false
    → j.work ≡ w → TurnsJob d (with_job p (job_seen (with_work j w))) q → TurnsJob d (with_job p (job_seen j)) q
turned {D} {d} {q} p j {w} none is = subst (λ k. TurnsJob d (with_job p k) q) (sym (seen_work j w none is))

-- what is known of a job that a channel or a row may wait for
record IsKnown {D : Type 0} (d : Ghosts D) (p : StoreView D) (blobs : Blobs) (waiting : Option ℕ) (j : RunningJob)
    : Type 0 where
  headed : IsHeaded j
  waits : waiting ≡ waits_for_job (job_seen j)
  kept : WillBeKept blobs j
  at_work : IsAtWork d p (job_seen j)

-- it is known of the job with this work
known_work : {D : Type 0} {d : Ghosts D} {p : StoreView D} (blobs : Blobs) {waiting : Option ℕ} (j : RunningJob)
    {w : Work} → IsHeaded j → waiting ≡ waits_for_job (job_seen j) → WillBeKept blobs j → IsAtWork d p (job_seen j)
    → j.marks ≡ false → j.work ≡ w → IsKnown d p blobs waiting (with_work j w)
known_work {D} {d} {p} blobs {waiting} j headed waits kept at_work none is =
    subst (λ v. IsKnown d p blobs waiting (with_work j v)) is
    (subst (λ b. IsKnown d p blobs waiting (record j { marks = b })) none
    (record { headed = headed; waits = waits; kept = kept; at_work = at_work }))

-- all fresh pages are written
all_written : (serves : Serves) (planned : Planned) (old : List ℕ) (written : ℕ) (more : List Phase)
    → length (drop 1 planned.chain) ≤ written
    → writing_for serves planned old written more ≡ writing_for serves planned old (length (drop 1 planned.chain)) more
all_written serves planned old written more le =
    ap (λ done. at done (drop written fresh)) (took fresh written le ∙ sym (took fresh (length fresh) (omega arith)))
    ∙ ap (at (take (length fresh) fresh))
    (dropped fresh written le ∙ sym (dropped fresh (length fresh) (omega arith)))
  where
    fresh : List ℕ
    fresh = drop 1 planned.chain

    at : List ℕ → List ℕ → JobState
    at done left = record (writing_for serves planned old written more) {
      written = done;
      todo = writing left (Replaces (replacing_of planned old) (commit_in planned) ∷ erasing old old more);
    }

    took : (l : List ℕ) (n : ℕ) → length l ≤ n → take n l ≡ l
    took [] zero le = refl
    took [] (suc n) le = refl
    took (x ∷ xs) zero le = absurd (omega (arith, le))
    took (x ∷ xs) (suc n) le = ap (λ l. x ∷ l) (took xs n (omega (arith, le)))

    dropped : (l : List ℕ) (n : ℕ) → length l ≤ n → drop n l ≡ []
    dropped [] zero le = refl
    dropped [] (suc n) le = refl
    dropped (x ∷ xs) zero le = absurd (omega (arith, le))
    dropped (x ∷ xs) (suc n) le = dropped xs n (omega (arith, le))

module _ {D : Type 0} {d : Ghosts D} {p : StoreView D} (j : RunningJob) (planned : Planned) (written : ℕ)
    (w : IsAtWork d p (writing_for j.serves planned j.old written (phases_in j.later.items))) where
  -- the plan has a page for the head, and one for each fresh place
  all_planned : length planned.pages ≡ suc (length (drop 1 planned.chain))
  all_planned =
      pages_planned (state_of d (with_job p (writing_for j.serves planned j.old written (phases_in j.later.items))))
      w.running w.not_stopped j.serves planned j.old written (phases_in j.later.items) refl

  -- no fresh page is left where all but the head of the plan are written
  no_fresh : (pages : ℕ) → pages ≡ length planned.pages → pages - 1 ≤ written
      → writing_for j.serves planned j.old written (phases_in j.later.items)
      ≡ writing_for j.serves planned j.old (length (drop 1 planned.chain)) (phases_in j.later.items)
  no_fresh pages pages_are none =
      let all = all_planned in
      all_written j.serves planned j.old written (phases_in j.later.items) (omega (arith, all, pages_are, none))

pub zero-requires : goal.zero-requires
zero-requires g c =
    let x = known_work (blobs_of c.args.running.now) c.args.job c.requires.headed c.requires.waits c.requires.kept
    c.requires.at_work c.requires.unmarked c.in-Zeroing.is in
    record {
      order = c.requires.order;
      zeroed = x.headed.0;
      follows = x.headed.1;
      waits = x.waits;
      kept = x.kept;
      at_work = x.at_work;
    }

pub overflow_sub-fresh : goal.overflow_sub-fresh
overflow_sub-fresh g c =
    let x = known_work (blobs_of c.args.running.now) c.args.job c.requires.headed c.requires.waits c.requires.kept
    c.requires.at_work c.requires.unmarked c.in-Writing.is in
    let all = all_planned c.args.job c.in-Writing.planned c.in-Writing.written x.at_work in
    let len = c.len-fresh.ensures in
    omega (arith, all, len)

pub write_fresh-requires : goal.write_fresh-requires
write_fresh-requires g c =
    let x = known_work (blobs_of c.args.running.now) c.args.job c.requires.headed c.requires.waits c.requires.kept
    c.requires.at_work c.requires.unmarked c.in-Writing.is in
    record {
      order = c.requires.order;
      matched = x.headed.0;
      follows = x.headed.1;
      waits = x.waits;
      kept = x.kept;
      at_work = x.at_work;
      left = omega (arith, c.len-fresh.ensures);
    }

pub replace_head-requires : goal.replace_head-requires
replace_head-requires g c =
    let x = known_work (blobs_of c.args.running.now) c.args.job c.requires.headed c.requires.waits c.requires.kept
    c.requires.at_work c.requires.unmarked c.in-Writing.is in
    let all = no_fresh c.args.job c.in-Writing.planned c.in-Writing.written x.at_work c.len-fresh.result
    c.len-fresh.ensures c.if-written-fresh.false in
    record {
      order = c.requires.order;
      matched = x.headed.0;
      follows = x.headed.1;
      waits = x.waits ∙ ap waits_for_job all;
      kept = x.kept;
      at_work = subst (IsAtWork g.D.PageDisk (view_of c.args.running.now)) all x.at_work;
    }

pub remove_head-requires : goal.remove_head-requires
remove_head-requires g c =
    let x = known_work (blobs_of c.args.running.now) c.args.job c.requires.headed c.requires.waits c.requires.kept
    c.requires.at_work c.requires.unmarked c.in-Removing.is in
    record {
      order = c.requires.order;
      removed = x.headed.0;
      follows = x.headed.1;
      waits = x.waits;
      kept = x.kept;
      at_work = x.at_work;
    }

pub overflow_sub-last : goal.overflow_sub-last
overflow_sub-last g c =
    let x = known_work (blobs_of c.args.running.now) c.args.job c.requires.headed c.requires.waits c.requires.kept
    c.requires.at_work c.requires.unmarked c.in-Erasing.is in
    let some = x.headed.0 in
    let len = c.len-last.ensures in
    omega (arith, some, len)

pub erase-requires : goal.erase-requires
erase-requires g c =
    let x = known_work (blobs_of c.args.running.now) c.args.job c.requires.headed c.requires.waits c.requires.kept
    c.requires.at_work c.requires.unmarked c.in-Erasing.is in
    record {
      order = c.requires.order;
      follows = x.headed.1;
      waits = x.waits;
      kept = x.kept;
      at_work = x.at_work;
      left = omega (arith, c.len-last.ensures);
    }

pub free-requires : goal.free-requires
free-requires g c =
    let x = known_work (blobs_of c.args.running.now) c.args.job c.requires.headed c.requires.waits c.requires.kept
    c.requires.at_work c.requires.unmarked c.in-Erasing.is in
    let some = x.headed.0 in
    let len = c.len-last.ensures in
    let none = c.if-erased-last.false in
    record {
      order = c.requires.order;
      follows = x.headed.1;
      waits = x.waits;
      kept = x.kept;
      at_work = x.at_work;
      last = omega (arith, some, len, none);
    }

pub returns-else-written-fresh-clause-case : goal.returns-else-written-fresh-clause-case
returns-else-written-fresh-clause-case g c =
    let x = known_work (blobs_of c.args.running.now) c.args.job c.requires.headed c.requires.waits c.requires.kept
    c.requires.at_work c.requires.unmarked c.in-Writing.is in
    let all = no_fresh c.args.job c.in-Writing.planned c.in-Writing.written x.at_work c.len-fresh.result
    c.len-fresh.ensures c.if-written-fresh.false in
    let p = view_of c.args.running.now in
    turned p c.args.job c.requires.unmarked c.in-Writing.is
    (subst (λ k. TurnsJob g.D.PageDisk (with_job p k) (view_of c.replace_head.new.running)) (sym all)
    c.replace_head.ensures.case)

pub returns-then-written-fresh-clause-case : goal.returns-then-written-fresh-clause-case
returns-then-written-fresh-clause-case g c =
    turned (view_of c.args.running.now) c.args.job c.requires.unmarked c.in-Writing.is c.write_fresh.ensures.case

pub returns-in-Zeroing-clause-case : goal.returns-in-Zeroing-clause-case
returns-in-Zeroing-clause-case g c =
    turned (view_of c.args.running.now) c.args.job c.requires.unmarked c.in-Zeroing.is c.zero.ensures.case

pub returns-in-Removing-clause-case : goal.returns-in-Removing-clause-case
returns-in-Removing-clause-case g c =
    turned (view_of c.args.running.now) c.args.job c.requires.unmarked c.in-Removing.is c.remove_head.ensures.case

pub returns-then-erased-last-clause-case : goal.returns-then-erased-last-clause-case
returns-then-erased-last-clause-case g c =
    turned (view_of c.args.running.now) c.args.job c.requires.unmarked c.in-Erasing.is c.erase.ensures.case

pub returns-else-erased-last-clause-case : goal.returns-else-erased-last-clause-case
returns-else-erased-last-clause-case g c =
    turned (view_of c.args.running.now) c.args.job c.requires.unmarked c.in-Erasing.is c.free.ensures.case
