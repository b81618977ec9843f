-- What a turn makes of the store in which a head's page is replaced, by whom the job serves.
use Rattle.std.proofs.Common.{◌≡◌, ℕ, ◌+◌, List, [], Option, Some, None, refl, sym, ◌∙◌, ap, subst, IsTrue}
use Rattle.std.specs.Option.{option_map}
use Rattle.std.specs.FinSet as set
use Rattle.page_disk.specs.Disk.{Only}
use Rattle.page_disk.specs.declared.disk.PageDisk.{Ghosts}
use Rattle.volume_model.specs.declared.reply.Reply.{Reply}
use Rattle.store_model.specs.Cases.{WritesOnePage}
use Rattle.store_model.specs.Claiming.{stage_behind}
use Rattle.store_model.specs.Phases.{erasing, page_in, Phase}
use Rattle.store_model.specs.Rows.{Stage}
use Rattle.store_model.specs.StoreState.{JobState}
use Rattle.running_store.specs.Blobs.{commit_of, CanBeKept}
use Rattle.running_store.specs.Effects.{reply_of}
use Rattle.running_store.specs.Jobs.{job_left}
use Rattle.running_store.specs.StoreView.{StoreView, device_of}
use Rattle.running_store.specs.declared.job.Serves.{Serves}
use Rattle.running_store.specs.declared.job.Serves.TheVariants as whom
use Rattle.running_store.specs.declared.replacements.Change.{Change}
use Rattle.running_store.specs.declared.replacements.Change.TheVariants as changed
use Rattle.running_store.specs.declared.replacements.Commit.{Commit}
use Rattle.running_store.specs.declared.replacements.Planned.{Planned}
use Rattle.metadata_turns.specs.JobTurns.{with_job, TurnsJob}
use Rattle.metadata_turns.specs.Telling.{let_go_at, IsTold}
use Rattle.job_views.specs.Replacing.{blobs_in, replacing_for}
use Rattle.metadata_turns.proofs.AtHead.{IsAtHead, IsFor, TouchesHead}
use Rattle.metadata_turns.proofs.Behind.{behind_view, IsWhole}
use Rattle.metadata_turns.proofs.HeadForCommand.{committed, logged_is, made_more}
use Rattle.metadata_turns.proofs.HeadForInsert.{inserted}

-- it is made, this is left of the job, and who waits for it is told
pub record IsMade {D : Type 0} (d : Ghosts D) (p : StoreView D) (serves : Serves) (x : Change) (old : List ℕ)
    (more : List Phase) (disk : D) (l : StoreView D) : Type 0 where
  pub left : Option JobState
  pub left_is : left ≡ job_left serves (erasing old old more)
  pub alone : (channel : ℕ) → serves ≡ whom.Insert channel → more ≡ []
  pub next : Stage
  pub next_is : next ≡ stage_behind (erasing old old [])
  pub after : StoreView D
  pub after_is : after ≡ behind_view p x serves disk left
  pub reply : Option Reply
  pub reply_is : reply ≡ option_map reply_of (commit_of x)
  pub told : IsTold serves reply next after l (d.clock l.disk)
  pub moves : WritesOnePage d.tells (device_of d p.disk) (p.super.md_start + (replacing_for x old).head)
      (page_in (replacing_for x old).planned (replacing_for x old).head) 3 (device_of d disk)
  pub durable : IsTrue d.tells → Only (d.now disk) (d.images disk)

module _ {D : Type 0} (d : Ghosts D) (p : StoreView D) (x : Change) (old : List ℕ) (more : List Phase) (j : JobState)
    (disk : D) (touched : TouchesHead d p (replacing_for x old) disk) (can : CanBeKept (blobs_in p) x)
    (whole : IsWhole (set.contains p.guards.frozen) x) (l : StoreView D) where
  pub head_made : (serves : Serves) → IsAtHead d p serves x old more j → IsMade d p serves x old more disk l
      → TurnsJob d (with_job p j) l
  head_made (whom.Command channel freeze) n m = by (commit_of x) refl
    where
      told_as : (o : Option Commit) → commit_of x ≡ o
          → IsTold (whom.Command channel freeze) (option_map reply_of o) m.next m.after l (d.clock l.disk)
      told_as o is = subst (λ (y : Option Reply).
          IsTold (whom.Command channel freeze) y m.next m.after l (d.clock l.disk))
          (m.reply_is ∙ ap (λ (c : Option Commit). option_map reply_of c) is) m.told

      by : (o : Option Commit) → commit_of x ≡ o → TurnsJob d (with_job p j) l
      by None is =
          made_more d p x old more j disk touched (whom.Command channel freeze) n can whole m.moves m.durable m.left
          m.left_is (λ row bad. cc bad) is l (told_as None is ∙ m.after_is)
      by (Some c) is =
          committed d p x old more j disk touched (whom.Command channel freeze) n can whole m.moves m.durable m.left
          m.left_is channel n.serves_is c is l
          (logged_is d p x old more j disk touched (whom.Command channel freeze) n can whole m.moves m.durable m.left
          m.left_is channel n.serves_is c is m.after m.after_is l (told_as (Some c) is))
  head_made (whom.Insert channel) n m = by x refl n can whole m
    where
      by : (y : Change) → x ≡ y → IsAtHead d p (whom.Insert channel) x old more j → CanBeKept (blobs_in p) x
          → IsWhole (set.contains p.guards.frozen) x → IsMade d p (whom.Insert channel) x old more disk l
          → TurnsJob d (with_job p j) l
      by (changed.Writes planned) e n can whole m =
          for_writes planned (subst (λ (z : Change). TouchesHead d p (replacing_for z old) disk) e touched)
          (subst (λ (z : Change). IsAtHead d p (whom.Insert channel) z old more j) e n)
          (subst (CanBeKept (blobs_in p)) e can) (subst (IsWhole (set.contains p.guards.frozen)) e whole)
          (subst (λ (z : Change). IsMade d p (whom.Insert channel) z old more disk l) e m)
        where
          for_writes : (planned : Planned) (touched : TouchesHead d p (replacing_for (changed.Writes planned) old) disk)
              → IsAtHead d p (whom.Insert channel) (changed.Writes planned) old more j
              → CanBeKept (blobs_in p) (changed.Writes planned)
              → IsWhole (set.contains p.guards.frozen) (changed.Writes planned)
              → IsMade d p (whom.Insert channel) (changed.Writes planned) old more disk l → TurnsJob d (with_job p j) l
          for_writes planned touched n can whole m =
              inserted d p channel planned old more j disk touched n can whole m.moves m.durable m.left m.left_is m.next
              (m.next_is
              ∙ ap (λ (others : List Phase). stage_behind (erasing old old others)) (sym (m.alone channel refl))) l
              (m.told ∙ ap (λ (a : StoreView D). let_go_at a channel m.next) m.after_is)
      by (changed.Erases erasure) e n can whole m =
          absurd (subst (IsFor (whom.Insert channel)) e n.fits)
  head_made whom.Repair n m =
      made_more d p x old more j disk touched whom.Repair n can whole m.moves m.durable m.left m.left_is
      (λ row bad. cc bad) (none x n.fits) l (m.told ∙ m.after_is)
    where
      none : (y : Change) → IsFor whom.Repair y → commit_of y ≡ None
      none (changed.Writes planned) fits = fits.1.commit
      none (changed.Erases erasure) fits = fits.1
