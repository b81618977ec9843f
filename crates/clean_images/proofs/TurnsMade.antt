-- What a turn of each kind writes, and what it makes of the job and of the mark.
use Rattle.std.proofs.Common.{◌≡◌, ◌≢◌, ℕ, suc, ◌+◌, ◌*◌, ◌≤◌, Bool, true, false, List, [], ◌∷◌, ◌++◌, Option}
use Rattle.std.proofs.Common.{Some, None, refl, sym, ap, ◌∙◌, subst, inl, inr, arith}
use Rattle.std.proofs.lemmas.Bool.{false≢true}
use Rattle.page_disk.specs.Disk.{Image}
use Rattle.page_disk.proofs.Images.{with_page-here}
use Rattle.super_block.specs.Numbers.{cluster_pages_of, fixed_clusters_of}
use Rattle.super_block.specs.declared.page.Super.{Super}
use Rattle.volume_model.specs.Volumes.{zero_page}
use Rattle.volume_model.specs.declared.reply.Reply.{Reply}
use Rattle.md_chain.specs.declared.plan.PlannedPage.{PlannedPage}
use Rattle.store_model.specs.Cases.{Kind, the, Turn}
use Rattle.store_model.specs.Cases as k
use Rattle.store_model.specs.Cases.BreakDown.{BreaksDown}
use Rattle.store_model.specs.Cases.BreakOff as break_off
use Rattle.store_model.specs.Cases.CopyFail as copy_fail
use Rattle.store_model.specs.Cases.Fail as fail
use Rattle.store_model.specs.Cases.InsertFail as insert_fail
use Rattle.store_model.specs.Cases.MarkDirty.{MarksDirty}
use Rattle.store_model.specs.Claiming.{LogsWork, logs_filled, logs_own}
use Rattle.store_model.specs.Copying.{page_of_claim}
use Rattle.store_model.specs.Device.{Device}
use Rattle.store_model.specs.Jobs.{zeroing}
use Rattle.store_model.specs.Phases.{marking, Marks, Phase, phases_of, Replaces, Replacing, todo_of, Committing}
use Rattle.store_model.specs.Recovers.{SaysInUse}
use Rattle.store_model.specs.Rows.{OpenClaim, Row, Stage}
use Rattle.store_model.specs.StoreState.{JobState, planned_at, StoreState}
use Rattle.store_model.specs.Touches.{is_lasting, no_new, puts, replaces, Touch, untouched}
use Rattle.store_model.specs.Turning.{page_of_place, put_by, read_after_write, Runs}
use Rattle.store_model.proofs.CopyTurning.{claimed_behind}
use Rattle.store_model.proofs.Known.{Known}
use Rattle.clean_images.specs.CleanImages.{MarksFirst}
use Rattle.clean_images.proofs.PagesWritten.{head_outside, put_outside, volume_behind, zeroed_behind}
use Rattle.clean_images.proofs.TouchedPages.{WritesNone, WritesTo}

-- a store that is clean runs on behind the turn
abbrev pub RunsClean : StoreState → Type 0
RunsClean q = (q.clean ≡ true) × (q.stopped ≡ None)

-- The device is left alone or read; a page behind the fixed clusters is written; on a store that is marked, any but the
-- super block; or the super block is replaced by one that says that the store is in use, which is marked then, or
-- stops.
pub data Pages (s : Super) (p q : StoreState) (touch : Touch) : Type 0 where
  none : WritesNone touch → Pages s p q touch
  behind : (page : ℕ) → WritesTo touch page → fixed_clusters_of s * cluster_pages_of s ≤ page → Pages s p q touch
  other : p.clean ≡ false → (page : ℕ) → WritesTo touch page → 0 ≢ page → Pages s p q touch
  marks : (content : List ℕ) (lasting : Bool) → SaysInUse s content → touch ≡ replaces 0 content lasting
      → (RunsClean q → ⊥) → Pages s p q touch

-- The store is clean just where it was: the job stays or ends, or one begins, or goes on where the store was marked. Or
-- the store is marked now.
pub data Goes (s : Super) (told : Bool) (p q : StoreState) (touch : Touch) : Type 0 where
  stays : q.clean ≡ p.clean → q.job ≡ p.job → Goes s told p q touch
  ends : q.clean ≡ p.clean → q.job ≡ None → Goes s told p q touch
  begins : (job : JobState) (others : List Phase) → q.clean ≡ p.clean → q.job ≡ Some job
      → job.todo ≡ marking p.clean others → Goes s told p q touch
  goes_on : q.clean ≡ p.clean → p.clean ≡ false → Goes s told p q touch
  is_marked : (content : List ℕ) → SaysInUse s content → is_lasting touch ≡ true
      → (told ≡ true → q.device.reads 0 ≡ content) → q.clean ≡ false → Goes s told p q touch

pub record Made (s : Super) (told : Bool) (p q : StoreState) (touch : Touch) : Type 0 where
  pub pages : Pages s p q touch
  pub goes : Goes s told p q touch

-- the command that a row works for is logged
work_logged : {base : StoreState} {row : ℕ} {stage : Stage} {reply : Reply} {device : Device} {q : StoreState}
    → LogsWork base row stage reply device q → (q.clean ≡ base.clean) × (q.job ≡ base.job)
work_logged (logs_own x) = (ap (λ (v : StoreState). v.clean) x.next, ap (λ (v : StoreState). v.job) x.next)
work_logged (logs_filled x) = (ap (λ (v : StoreState). v.clean) x.next, ap (λ (v : StoreState). v.job) x.next)

work_stopped : {base : StoreState} {row : ℕ} {stage : Stage} {reply : Reply} {device : Device} {q : StoreState}
    → LogsWork base row stage reply device q → q.stopped ≡ base.stopped
work_stopped (logs_own x) = ap (λ (v : StoreState). v.stopped) x.next
work_stopped (logs_filled x) = ap (λ (v : StoreState). v.stopped) x.next

-- a turn by which the store stops doesn't leave it running
stops : (q : StoreState) (at : ℕ) → q.stopped ≡ Some at → RunsClean q → ⊥
stops q at is runs = let bad : None ≡ Some at = sym runs.1 ∙ is in cc bad

module _ (known : Known) (told : Bool) (first : MarksFirst known.p) where
  open known use {s, p, facts}

  -- a job that doesn't mark the store next runs on one that is marked
  in_use : {phase : Phase} → Runs p phase → phase ≢ Marks → p.clean ≡ false
  in_use {phase} running ne = by p.clean refl
    where
      by : (b : Bool) → p.clean ≡ b → p.clean ≡ false
      by false is = is
      by true is =
          let x = first is running.job running.is in
          let both : phase ∷ running.rest ≡ Marks ∷ x.0 = sym running.next ∙ x.1 in
          absurd (ne (cc both))

  says_here : (content : List ℕ) → SaysInUse p.super content → SaysInUse s content
  says_here content = subst (λ (x : Super). SaysInUse x content) facts.super

  module _ (q : StoreState) where
    -- ---- pages

    put_pages : {phase : Phase} (running : Runs p phase) (put : PlannedPage) → put_by running.job phase ≡ Some put
        → (lasting : Bool) → Pages s p q (puts (page_of_place p put.place) put.page lasting)
    put_pages {phase} running put is lasting = other
        (in_use running (λ bad. let e = sym (ap (put_by running.job) bad) ∙ is in cc e))
        (page_of_place p put.place) refl (put_outside known running put is)

    head_pages : (r : Replacing) (commit : Option Committing) → Runs p (Replaces r commit) → (content : List ℕ)
        (lasting : Bool) → Pages s p q (replaces (page_of_place p r.head) content lasting)
    head_pages r commit running content lasting =
        other (in_use running (λ bad. cc bad)) (page_of_place p r.head) refl (head_outside known r commit running)

    claim_pages : (row : ℕ) (left : List _) (stage : Stage) (claim : OpenClaim)
        → p.rows row ≡ record { left = left; stage = stage; claim = Some claim } → p.stopped ≡ None → (page n : ℕ)
        → page + suc n ≡ cluster_pages_of p.super → (content : List ℕ)
        → Pages s p q (puts (page_of_claim p claim page) content false)
    claim_pages row left stage claim is runs page n next content = behind (page_of_claim p claim page) refl
        (claimed_behind known runs row claim (ap (λ (r : Row). r.claim) is) page (omega (arith, next)))

    tried_pages : (RunsClean q → ⊥)
        → {phase : Phase} (running : Runs p phase) (tried : fail.Tried p.super running.job phase)
        → Pages s p q (fail.tried_at p tried)
    tried_pages never running (fail.mark content is says) = marks content false (says_here content says) refl never
    tried_pages never running (fail.zeros at is) = behind at refl (zeroed_behind known at (subst (Runs p) is running))
    tried_pages never running (fail.page put is) = put_pages running put is false
    tried_pages never running (fail.head r commit is) = head_pages r (Some commit) (subst (Runs p) is running) _ false

    alone_pages : (RunsClean q → ⊥)
        → {phase : Phase} (running : Runs p phase) (tried : break_off.TriedAlone p.super running.job phase)
        → Pages s p q (break_off.tried_alone p tried)
    alone_pages never running (break_off.mark content is says) = marks content false (says_here content says) refl never
    alone_pages never running (break_off.page put is) = put_pages running put is false

    insert_pages : (RunsClean q → ⊥)
        → {phase : Phase} (running : Runs p phase) (tried : insert_fail.TriedInsert p.super running.job phase)
        → Pages s p q (insert_fail.tried_insert p tried)
    insert_pages never running (insert_fail.mark content is says) = marks content false
        (says_here content says) refl never
    insert_pages never running (insert_fail.page put is) = put_pages running put is false
    insert_pages never running (insert_fail.head r new is new_is) = head_pages r None
        (subst (Runs p) is running) _ false

    copy_pages : (t : copy_fail.CopyFails p q) → Pages s p q ((the k.copy_fails).touch told p q t)
    copy_pages t = by t.tried
      where
        by : (tried : copy_fail.TriedCopy p t.copying.claim t.stage)
            → Pages s p q (copy_fail.tried_copy p t.copying.claim tried)
        by (copy_fail.copy left page content at current next) = claim_pages t.copying.row t.copying.left t.stage
            t.copying.claim t.copying.is t.runs page left next content
        by (copy_fail.flush at) = none tt

    -- ---- the job and the mark

    clean_is : {n : StoreState} → q ≡ n → q.clean ≡ n.clean
    clean_is = ap (λ (v : StoreState). v.clean)

    stopped_is : {n : StoreState} → q ≡ n → q.stopped ≡ n.stopped
    stopped_is = ap (λ (v : StoreState). v.stopped)

    job_is : {n : StoreState} → q ≡ n → q.job ≡ n.job
    job_is = ap (λ (v : StoreState). v.job)

    -- nothing is written
    quiet : (touch : Touch) → WritesNone touch → {n : StoreState} → q ≡ n → n.clean ≡ p.clean → n.job ≡ p.job
        → Made s told p q touch
    quiet touch written next clean job =
        record { pages = none written; goes = stays (clean_is next ∙ clean) (job_is next ∙ job) }

    logs : (touch : Touch) → WritesNone touch → {row : ℕ} {stage : Stage} {reply : Reply} {device : Device}
        → LogsWork p row stage reply device q → Made s told p q touch
    logs touch written x =
        let kept = work_logged x in record { pages = none written; goes = stays kept.0 kept.1 }

    -- a job goes on, or ends, behind a page that it wrote
    wrote : (touch : Touch) → Pages s p q touch → {phase : Phase} → Runs p phase → phase ≢ Marks → q.clean ≡ p.clean
        → Made s told p q touch
    wrote touch pages running ne clean = record { pages = pages; goes = goes_on clean (in_use running ne) }

    marks_it : (t : MarksDirty told p q) → Made s told p q (replaces 0 t.page true)
    marks_it t = record {
      pages = marks t.page true (says_here t.page t.says) refl
          (λ runs. false≢true (sym (clean_is t.next) ∙ runs.0));
      goes = is_marked t.page (says_here t.page t.says) refl
          (λ is. ap (λ (v : StoreState). v.device.reads 0) t.next ∙ ap (λ (i : Image). i 0) t.moves.reads
          ∙ ap (λ (b : Bool). read_after_write b p.device.reads 0 t.page 0) is ∙ with_page-here p.device.reads 0 t.page)
          (clean_is t.next);
    }

    breaks_down : (t : BreaksDown p q) → Made s told p q untouched
    breaks_down t = record {
      pages = none tt;
      goes = elim t.ends [
        | inl x ↦ ends (clean_is x.next) (job_is x.next)
        | inr x ↦ ends (clean_is x.next) (job_is x.next)
      ];
    }

    -- a line for each kind
    pub made : (kind : Kind) (t : Turn told p kind q) → Made s told p q ((the kind).touch told p q t)
    made k.posts t = quiet untouched tt t.next refl refl
    made k.answers t = quiet untouched tt t.next refl refl
    made k.refuses t = quiet untouched tt t.next refl refl
    made k.halts t = quiet untouched tt t.next refl refl
    made k.settles t = quiet untouched tt t.next refl refl
    made k.ends t = quiet untouched tt t.next refl refl
    made k.begins t = record {
      pages = none tt;
      goes = begins _ (zeroing p.super t.claimed ++ todo_of t.list t.changes.commit t.commit) (clean_is t.next)
          (job_is t.next) refl;
    }
    made k.marks_dirty t = marks_it t
    made k.zeroes t = wrote _ (behind t.page refl (zeroed_behind known t.page t.running)) t.running (λ bad. cc bad)
        (clean_is t.next)
    made k.writes t = wrote _ (put_pages t.running
        (record { place = t.place; page = planned_at t.running.job t.place }) refl false) t.running (λ bad. cc bad)
        (clean_is t.next)
    made k.commits t = wrote _ (head_pages t.replacing (Some t.commit) t.running _ true) t.running (λ bad. cc bad)
        (clean_is t.next)
    made k.erases t = wrote _ (put_pages t.running (record { place = t.place; page = zero_page }) refl false) t.running
        (λ bad. cc bad) (clean_is t.next)
    made k.frees t = wrote _ (put_pages t.running (record { place = t.place; page = zero_page }) refl true) t.running
        (λ bad. cc bad) (clean_is t.next)
    made k.fails t = record {
      pages = tried_pages (stops q _ (stopped_is t.next)) t.running t.tried;
      goes = ends (clean_is t.next) (job_is t.next);
    }
    made k.breaks_off t = record {
      pages = alone_pages (stops q _ (stopped_is t.next)) t.running t.tried;
      goes = ends (clean_is t.next) (job_is t.next);
    }
    made k.breaks_down t = breaks_down t
    made k.begins_repair t = record {
      pages = none tt;
      goes = begins _ (phases_of t.replacing None []) (clean_is t.next) (job_is t.next) refl;
    }
    made k.replaces_more t = wrote _ (head_pages t.replacing None t.running _ true) t.running (λ bad. cc bad)
        (clean_is t.next)
    made k.more_fails t = record {
      pages = head_pages t.replacing None t.running _ false;
      goes = ends (clean_is t.next) (job_is t.next);
    }
    made k.more_breaks_off t = record {
      pages = head_pages t.replacing None t.running _ false;
      goes = ends (clean_is t.next) (job_is t.next);
    }
    made k.flushes t = quiet (no_new true) tt t.next refl refl
    made k.flush_fails t = quiet (no_new false) tt t.next refl refl
    made k.reads t = quiet (no_new false) tt t.next refl refl
    made k.refuses_write t = quiet untouched tt t.next refl refl
    made k.writes_page t = record {
      pages = behind t.at.place refl (volume_behind known t.at);
      goes = stays (clean_is t.next) (job_is t.next);
    }
    made k.fails_to_write t = record {
      pages = behind t.at.place refl (volume_behind known t.at);
      goes = stays (clean_is t.next) (job_is t.next);
    }
    made k.finds_empty t = quiet untouched tt t.next refl refl
    made k.finds_filled t = quiet untouched tt t.next refl refl
    made k.claims t = quiet untouched tt t.next refl refl
    made k.refuses_claim t = quiet untouched tt t.next refl refl
    made k.copies t = record {
      pages = claim_pages t.copying.row t.copying.left _ t.copying.claim t.copying.is t.runs t.page t.left t.is_next
          t.content;
      goes = stays (clean_is t.next) (job_is t.next);
    }
    made k.loses_copy t = quiet untouched tt t.next refl refl
    made k.copy_not_read t = logs (no_new false) tt t.logs
    made k.copy_fails t = record {
      pages = copy_pages t;
      goes = let kept = work_logged t.logs in stays kept.0 kept.1;
    }
    made k.sends t = quiet (no_new true) tt t.next refl refl
    made k.loses_insert t = quiet untouched tt t.next refl refl
    made k.lacks_for_insert t = logs untouched tt t.logs
    made k.lacks_memory_for_insert t = logs untouched tt t.logs
    made k.begins_insert t = record {
      pages = none tt;
      goes = begins _ (phases_of t.replacing None []) (clean_is t.next) (job_is t.next) refl;
    }
    made k.inserts t = wrote _ (head_pages t.replacing None t.running _ true) t.running (λ bad. cc bad)
        (clean_is t.next)
    made k.insert_ends t = wrote _ (put_pages t.running (record { place = t.place; page = zero_page }) refl true)
        t.running (λ bad. cc bad) (clean_is t.next)
    made k.insert_fails t = record {
      pages = insert_pages (stops q _ (work_stopped t.logs)) t.running t.tried;
      goes = let kept = work_logged t.logs in ends kept.0 kept.1;
    }
    made k.insert_breaks_down t = record {
      pages = none tt;
      goes = let kept = work_logged t.logs in ends kept.0 kept.1;
    }
    made k.claims_fill t = quiet untouched tt t.next refl refl
    made k.lacks_for_fill t = quiet untouched tt t.next refl refl
    made k.halts_fill t = quiet untouched tt t.next refl refl
    made k.ends_fill t = quiet untouched tt t.next refl refl
