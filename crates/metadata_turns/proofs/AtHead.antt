-- A job at work on a replacement whose head's page comes next, and the row that is told of it.
use Rattle.std.proofs.Common.{◌≡◌, ℕ, ◌+◌, true, List, ◌∷◌, length, Option, Some, None, refl, sym, ◌∙◌, ap, subst}
use Rattle.std.proofs.Common.{subst₂}
use Rattle.std.specs.Option.{option_map}
use Rattle.page_disk.specs.Moments.{CallsLeaveOnly, IsReplaced}
use Rattle.page_disk.specs.declared.disk.PageDisk.{Ghosts}
use Rattle.volume_model.specs.declared.reply.Reply.{Reply}
use Rattle.store_model.specs.Cases.{FailsToReplace, WritesOnePage}
use Rattle.store_model.specs.Phases.{erasing, has_commit, page_in, Phase, Replaces, Replacing}
use Rattle.store_model.specs.Rows.{Row}
use Rattle.store_model.specs.StoreState.{JobState}
use Rattle.running_store.specs.Blobs.{commit_of}
use Rattle.running_store.specs.Effects.{commit_seen, reply_of}
use Rattle.running_store.specs.Jobs.{freeze_of, service_of, IsMatchedFor, IsRemovedFor}
use Rattle.running_store.specs.StoreView.{device_of, StoreView}
use Rattle.running_store.specs.declared.job.Serves.{Serves}
use Rattle.running_store.specs.declared.job.Serves.TheVariants as whom
use Rattle.running_store.specs.declared.replacements.Change.{Change}
use Rattle.running_store.specs.declared.replacements.Change.TheVariants as changed
use Rattle.running_store.specs.declared.replacements.Commit.{Commit}
use Rattle.metadata_turns.specs.JobTurns.{with_job, IsAtWork}
use Rattle.metadata_turns.specs.Telling.{HasServedRow}
use Rattle.job_views.specs.Replacing.{committing, replacing_for}
use Rattle.metadata_turns.proofs.InsertFailed.{insert_low}
use Rattle.metadata_turns.proofs.JobFailed.{command, rest, row_left}
use Rattle.metadata_turns.proofs.WhatWaits.{has_command}

-- what is planned or erased is so for whom the job serves
abbrev pub IsFor : Serves → Change → Type 0
IsFor serves (changed.Writes p) = IsMatchedFor serves p
IsFor serves (changed.Erases e) = IsRemovedFor serves e

-- A job at work on a replacement, whose head's page comes next.
pub record IsAtHead {D : Type 0} (d : Ghosts D) (p : StoreView D) (serves : Serves) (x : Change) (old : List ℕ)
    (more : List Phase) (j : JobState) : Type 0 where
  pub work : IsAtWork d p j
  pub serves_is : j.serves ≡ service_of serves
  pub freezes : j.freeze ≡ freeze_of serves
  pub todo : j.todo ≡ Replaces (replacing_for x old) (committing x) ∷ erasing old old more
  pub fits : IsFor serves x

-- Device calls replace that page, and nothing else is touched.
pub record TouchesHead {D : Type 0} (d : Ghosts D) (p : StoreView D) (r : Replacing) (disk : D) : Type 0 where
  pub moments : CallsLeaveOnly d p.disk disk
      (IsReplaced (d.images p.disk) (d.now p.disk) (p.super.md_start + r.head) (page_in r.planned r.head))
  pub pages : d.pages disk ≡ d.pages p.disk

module _ {D : Type 0} (d : Ghosts D) (p : StoreView D) (r : Replacing) (disk : D) {at : ℕ} {page : List ℕ}
    (at_is : at ≡ p.super.md_start + r.head) (page_is : page ≡ page_in r.planned r.head) where
  -- device calls that replace this page with what is planned for the head replace the head's,
  pub touches_head : CallsLeaveOnly d p.disk disk (IsReplaced (d.images p.disk) (d.now p.disk) at page)
      → d.pages disk ≡ d.pages p.disk → TouchesHead d p r disk
  touches_head moments pages = record {
    moments = subst₂ (λ n page. CallsLeaveOnly d p.disk disk (IsReplaced (d.images p.disk) (d.now p.disk) n page))
        at_is page_is moments;
    pages = pages;
  }

  -- those that fail leave all but the head's,
  pub fails_head : FailsToReplace (Some at) (device_of d p.disk) (device_of d disk)
      → FailsToReplace (Some (p.super.md_start + r.head)) (device_of d p.disk) (device_of d disk)
  fails_head = subst (λ n. FailsToReplace (Some n) (device_of d p.disk) (device_of d disk)) at_is

  -- and those that are done write it
  pub moves_head : WritesOnePage d.tells (device_of d p.disk) at page 3 (device_of d disk)
      → WritesOnePage d.tells (device_of d p.disk) (p.super.md_start + r.head) (page_in r.planned r.head) 3
      (device_of d disk)
  moves_head =
      subst₂ (λ n page. WritesOnePage d.tells (device_of d p.disk) n page 3 (device_of d disk)) at_is page_is

module _ {D : Type 0} (d : Ghosts D) (p : StoreView D) (x : Change) (old : List ℕ) (more : List Phase) (j : JobState)
  where
    -- it is one of those that there are,
    told_row : (serves : Serves) → IsAtHead d p serves x old more j → length p.rows ≡ 17
        → HasServedRow p.rows serves (option_map reply_of (commit_of x))
    told_row (whom.Command channel freeze) n seventeen = by (commit_of x) refl
      where
        by : (o : Option Commit) → commit_of x ≡ o
            → HasServedRow p.rows (whom.Command channel freeze) (option_map reply_of (commit_of x))
        by None is = rw is tt
        by (Some c) is =
            let waits : has_commit j.todo ≡ true = ap has_commit (n.todo
            ∙ ap (λ (o : Option Commit).
            Replaces (replacing_for x old) (option_map commit_seen o) ∷ erasing old old more) is) in
            rw is (has_command d (with_job p j) channel seventeen n.work.work.fill (record {
              command = command d p j n.work channel n.serves_is waits;
              rest = rest d p j n.work channel n.serves_is waits;
              left = row_left d p j n.work channel n.serves_is waits;
            }))
    told_row (whom.Insert at) n seventeen = insert_low d p j n.work at n.serves_is seventeen
    told_row whom.Repair n seventeen = tt

    -- also where the rows and the reply are named otherwise
    pub row_told : (serves : Serves) → IsAtHead d p serves x old more j → length p.rows ≡ 17 → {rows : List Row}
        → rows ≡ p.rows → {reply : Option Reply} → reply ≡ option_map reply_of (commit_of x)
        → HasServedRow rows serves reply
    row_told serves n seventeen same reply_is =
        subst₂ (λ rows reply. HasServedRow rows serves reply) (sym same) (sym reply_is) (told_row serves n seventeen)
