-- A job of which the replacement of a head's page failed: the store stops, and what waits for it is logged.
use Rattle.std.proofs.Common.{◌≡◌, ℕ, ◌+◌, Bool, true, false, List, ◌∷◌, length, Option, Some, None, refl, sym, ◌∙◌, ap}
use Rattle.std.proofs.Common.{subst}
use Rattle.std.specs.Option.{option_map}
use Rattle.page_disk.specs.declared.disk.PageDisk.{Ghosts}
use Rattle.blob_meta.specs.declared.meta.Meta.{Meta}
use Rattle.store_model.specs.Cases.{FailsToReplace}
use Rattle.store_model.specs.Cases as kind
use Rattle.store_model.specs.Cases.Fail as fail
use Rattle.store_model.specs.Cases.InsertFail as insert
use Rattle.store_model.specs.Phases.{has_commit, page_in, Committing, Phase, Replaces, Replacing, erasing}
use Rattle.store_model.specs.StoreState.{ForCommand, ForInsert, ForRepair, JobState, Service, waiting}
use Rattle.store_model.specs.Touches.{replaces, Touched}
use Rattle.store_model.proofs.Shaped.{waits_for_commit, waits_no_more}
use Rattle.running_store.specs.Effects.{commit_seen}
use Rattle.running_store.specs.Jobs.{waits_for_job}
use Rattle.running_store.specs.StoreView.{StoreView, device_of}
use Rattle.running_store.specs.declared.job.Serves.{Serves}
use Rattle.running_store.specs.declared.job.Serves.TheVariants as whom
use Rattle.running_store.specs.declared.replacements.Change.{Change}
use Rattle.running_store.specs.declared.replacements.Change.TheVariants as changed
use Rattle.job_views.specs.Replacing.{committing, replacing_for}
use Rattle.metadata_turns.specs.JobTurns.{with_job, IsAtWork, TurnsJob}
use Rattle.metadata_turns.specs.Telling.{HasFailed}
use Rattle.metadata_turns.proofs.AtHead.{IsAtHead, IsFor, TouchesHead}
use Rattle.metadata_turns.proofs.InsertFailed.{fails_insert, insert_disk, stopped_state}
use Rattle.metadata_turns.proofs.JobFailed.{by_waiting, entry, fails_case, fails_more}

module _ {D : Type 0} (d : Ghosts D) (p : StoreView D) (j : JobState) (w : IsAtWork d p j)
    (seventeen : length p.rows ≡ 17) (disk : D) (q : StoreView D) {told : Option ℕ} (told_is : told ≡ waits_for_job j)
    (failed : HasFailed j.freeze told (record p { disk = disk }) q (d.clock q.disk))
    (replacing : Replacing) (commit : Option Committing) (others : List Phase)
    (todo : j.todo ≡ Replaces replacing commit ∷ others)
    (touches : TouchesHead d p replacing disk)
    (fails : FailsToReplace (Some (p.super.md_start + replacing.head)) (device_of d p.disk) (device_of d disk)) where
  todo_as : (o : Option Committing) → commit ≡ o → j.todo ≡ Replaces replacing o ∷ others
  todo_as o is = todo ∙ ap (λ (x : Option Committing). Replaces replacing x ∷ others) is

  no_row : commit ≡ None → waits_for_job j ≡ None → TurnsJob d (with_job p j) q
  no_row no_commit none = subst (TurnsJob d (with_job p j)) (sym
      (by_waiting d p j w seventeen disk q told_is failed None none)) (record {
        kind = kind.more_breaks_off;
        of_job = tt;
        made = (
          record {
            replacing = replacing;
            running = record {
              job = j;
              is = refl;
              rest = others;
              next = todo_as None no_commit;
              runs = w.not_stopped;
            };
            waits = none;
            device = device_of d disk;
            fails = fails;
            next = stopped_state d p j w disk;
          },
          record { moments = touches.moments; durable = λ never. absurd (cc never); pages = touches.pages },
        );
      })

  at_commit : (channel : ℕ) → j.serves ≡ ForCommand channel → (c : Committing) → commit ≡ Some c
      → TurnsJob d (with_job p j) q
  at_commit channel serves c is =
      let waits : has_commit j.todo ≡ true = ap has_commit (todo_as (Some c) is) in
      subst (TurnsJob d (with_job p j)) (sym (entry d p j w channel serves waits disk q
      (by_waiting d p j w seventeen disk q told_is failed (Some channel)
      (waits_for_commit j channel serves waits)))) (record {
        kind = kind.fails;
        of_job = tt;
        made = (
          fails_case d p j w channel serves waits disk (Replaces replacing (Some c)) others (todo_as (Some c) is)
              (fail.head replacing c refl) fails,
          record { moments = touches.moments; durable = λ never. absurd (cc never); pages = touches.pages },
        );
      })

  before_commit : (channel : ℕ) → j.serves ≡ ForCommand channel → commit ≡ None → (b : Bool)
      → has_commit j.todo ≡ b → TurnsJob d (with_job p j) q
  before_commit channel serves no_commit true waits = subst (TurnsJob d (with_job p j))
      (sym (entry d p j w channel serves waits disk q
      (by_waiting d p j w seventeen disk q told_is failed (Some channel)
      (waits_for_commit j channel serves waits)))) (record {
        kind = kind.more_fails;
        of_job = tt;
        made = (
          fails_more d p j w channel serves waits disk replacing others (todo_as None no_commit) fails,
          record { moments = touches.moments; durable = λ never. absurd (cc never); pages = touches.pages },
        );
      })
  before_commit channel serves no_commit false waits = no_row no_commit (waits_no_more j channel serves waits)

  -- of a command's job
  pub failed_for_command : (channel : ℕ) → j.serves ≡ ForCommand channel → TurnsJob d (with_job p j) q
  failed_for_command channel serves = by commit refl
    where
      by : (o : Option Committing) → commit ≡ o → TurnsJob d (with_job p j) q
      by (Some c) is = at_commit channel serves c is
      by None is = before_commit channel serves is (has_commit j.todo) refl

  -- of an insert's
  pub failed_for_insert : (row : ℕ) → j.serves ≡ ForInsert row → commit ≡ None → (new : Meta)
      → replacing.new ≡ Some new → TurnsJob d (with_job p j) q
  failed_for_insert at serves no_commit new new_is =
      let given = by_waiting d p j w seventeen disk q told_is failed (Some at)
      (ap (λ (x : Service). waiting x j.todo) serves) in
      record {
        kind = kind.insert_fails;
        of_job = tt;
        made = (
          fails_insert d p j w at serves seventeen disk q given (Replaces replacing None) others
              (todo_as None no_commit) (insert.head replacing new refl new_is) fails,
          subst (λ (x : D). Touched d p.disk x (replaces (p.super.md_start + replacing.head)
              (page_in replacing.planned replacing.head) false))
              (sym (insert_disk d p j w at serves seventeen disk q given))
              (record { moments = touches.moments; durable = λ never. absurd (cc never); pages = touches.pages }),
        );
      }

  -- of a repair's
  pub failed_for_repair : j.serves ≡ ForRepair → commit ≡ None → TurnsJob d (with_job p j) q
  failed_for_repair serves no_commit = no_row no_commit (ap (λ (x : Service). waiting x j.todo) serves)

module _ {D : Type 0} (d : Ghosts D) (p : StoreView D) (x : Change) (old : List ℕ) (more : List Phase) (j : JobState)
    (disk : D) (touched : TouchesHead d p (replacing_for x old) disk) where
  pub head_failed : (serves : Serves) → IsAtHead d p serves x old more j → length p.rows ≡ 17
      → FailsToReplace (Some (p.super.md_start + (replacing_for x old).head)) (device_of d p.disk) (device_of d disk)
      → (q : StoreView D)
      → {told : Option ℕ} → told ≡ waits_for_job j
      → HasFailed j.freeze told (record p { disk = disk }) q (d.clock q.disk) → TurnsJob d (with_job p j) q
  head_failed (whom.Command channel freeze) n seventeen fails q told_is failed =
      failed_for_command d p j n.work seventeen disk q told_is failed (replacing_for x old) (committing x)
      (erasing old old more) n.todo touched fails channel n.serves_is
  head_failed (whom.Insert channel) n seventeen fails q told_is failed = by x refl n.fits
    where
      by : (y : Change) → x ≡ y → IsFor (whom.Insert channel) y → TurnsJob d (with_job p j) q
      by (changed.Writes planned) e fits =
          failed_for_insert d p j n.work seventeen disk q told_is failed (replacing_for x old) (committing x)
          (erasing old old more) n.todo touched fails channel n.serves_is
          (ap committing e ∙ ap (option_map commit_seen) fits.1.commit) planned.new
          (ap (λ (y : Change). (replacing_for y old).new) e)
      by (changed.Erases erasure) e fits = absurd fits
  head_failed whom.Repair n seventeen fails q told_is failed = by x refl n.fits
    where
      by : (y : Change) → x ≡ y → IsFor whom.Repair y → TurnsJob d (with_job p j) q
      by (changed.Writes planned) e fits =
          failed_for_repair d p j n.work seventeen disk q told_is failed (replacing_for x old) (committing x)
          (erasing old old more) n.todo touched fails n.serves_is
          (ap committing e ∙ ap (option_map commit_seen) fits.1.commit)
      by (changed.Erases erasure) e fits =
          failed_for_repair d p j n.work seventeen disk q told_is failed (replacing_for x old) (committing x)
          (erasing old old more) n.todo touched fails n.serves_is (ap committing e ∙ ap (option_map commit_seen) fits.1)
