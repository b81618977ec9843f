-- What a channel's copy of a page comes to.
use Rattle.std.proofs.Common.{◌≡◌, ◌≢◌, ◌⊎◌, ℕ, suc, ◌<◌, Bool, false, List, Option, Some, None, length}
use Rattle.std.proofs.Common.{refl, sym, ◌∙◌, ap, subst, arith, IsTrue}
use Rattle.std.specs.Prelude.{if◌then◌else◌}
use Rattle.std.specs.Option.{option_map_or}
use Rattle.std.specs.FinMap as map
use Rattle.page_disk.specs.Disk.{Image, IsSameElsewhere, Rose, RoseByOne, Telling, Written}
use Rattle.page_disk.specs.Moments.{CallsLeaveOnly}
use Rattle.page_disk.specs.declared.disk.PageDisk.{Ghosts}
use Rattle.page_disk.specs.declared.disk.WriteKind.TheVariants.{Plain}
use Rattle.page_disk.proofs.Moments.{joined, kept_before}
use Rattle.volume_model.specs.Volumes.{zero_page}
use Rattle.volume_model.specs.declared.reply.Reply.TheVariants as r
use Rattle.store_model.specs.Cases as kind
use Rattle.store_model.specs.Cases.{FailsToReplace, WritesOnePage}
use Rattle.store_model.specs.Cases.Copy.{stage_left}
use Rattle.store_model.specs.Cases.CopyFail.{copy}
use Rattle.store_model.specs.Cases.CopyNotRead.{IsNotRead}
use Rattle.store_model.specs.Cases.Read.{IsRead}
use Rattle.store_model.specs.Copying.{page_of_claim}
use Rattle.store_model.specs.Filling.{FillStands}
use Rattle.store_model.specs.Rows.{Copying, Idle, Row}
use Rattle.store_model.specs.StoreState.{StoreState}
use Rattle.store_model.specs.Touches.{no_new, puts, Touched}
use Rattle.store_model.specs.Turning.{read_after_write}
use Rattle.channel_turns.proofs.Thawed.{IsThawed}
use Rattle.running_store.specs.Steps.{stopped_here, with_row_at}
use Rattle.running_store.specs.TurnMade.{TurnMade, TurnsAs}
use Rattle.channel_turns.specs.ClaimTurns.{CopiesNow, HoldsClaim, IsOfCopy, WaitsToCopy}
use Rattle.running_store.specs.GivingBack.{filling_left, IsGivenUp, row_given_back}
use Rattle.running_store.specs.StoreView.{device_of, read_now, rows_of, state_of, StoreView}
use Rattle.channel_turns.proofs.GivenUp.{copying, disk_failed, disk_still, logs_failed, logs_still}
use Rattle.running_store.proofs.GivenBack.{state_given_back}
use Rattle.running_store.proofs.WorkLogged.{work_low}
use Rattle.channel_turns.proofs.ReadAsked.{content_seen}
use Rattle.running_store.proofs.Rowing.{state_with_row}
use Rattle.channel_turns.proofs.Written.{blank}

-- ---- the copy itself

module _ {D : Type 0} (d : Ghosts D) (p : StoreView D) (row : ℕ) (from : Option ℕ) (to left : ℕ)
    (x : CopiesNow d p row from to left) (fill : FillStands (state_of d p)) (seventeen : length p.rows ≡ 17) where
  abbrev now : StoreState
  now = state_of d p

  abbrev w : HoldsClaim d p row (Copying (suc left))
  w = x.holds

  low : row < length p.rows
  low = let lt = work_low d p seventeen fill row w.works in omega (arith, lt, seventeen)

  -- the page can't be read
  pub copy_not_read : (disk : D) → CallsLeaveOnly d p.disk disk (d.images p.disk) → d.pages disk ≡ d.pages p.disk
      → IsNotRead (device_of d p.disk) (device_of d disk) → (q : StoreView D)
      → IsGivenUp (record p { disk = disk }) q row Idle r.ReadFault (d.clock q.disk) → TurnsAs d IsOfCopy p q
  copy_not_read disk moments pages failed q given = record {
    kind = kind.copy_not_read;
    is = tt;
    made = (
      record {
        left = left;
        copying = copying d p row (Copying (suc left)) w;
        runs = x.runs;
        current = x.current;
        device = device_of d disk;
        failed = failed;
        logs = logs_still d p row (Copying (suc left)) w fill seventeen disk q r.ReadFault given;
      },
      subst (λ (y : D). Touched d p.disk y (no_new false))
          (sym (disk_still d p row (Copying (suc left)) w fill seventeen disk q r.ReadFault given))
          (record { moments = moments; durable = λ never. absurd (cc never); pages = pages }),
    );
  }

  -- the page is read, and then it is written or not
  module _ (law : IsTrue d.tells → Telling d.now d.images d.since d.clock) (mid : D)
      (reading : CallsLeaveOnly d p.disk mid (d.images p.disk)) (as_many : d.pages mid ≡ d.pages p.disk)
      (read : IsRead (device_of d p.disk) (device_of d mid) r.Ok) (content : List ℕ) (disk : D)
      (writing : CallsLeaveOnly d mid disk (Written (d.images mid) to Plain content))
      (as_many_then : d.pages disk ≡ d.pages mid) where
    -- over both calls
    moments : CallsLeaveOnly d p.disk disk (Written (d.images p.disk) to Plain content)
    moments tells =
        let first = reading tells in
        joined d p.disk mid disk (d.images p.disk) (Written (d.images mid) to Plain content)
        (Written (d.images p.disk) to Plain content) first (writing tells)
        (kept_before (d.images p.disk) to Plain content)
        (λ image y. record {
          before = y.before;
          was = first.each y.before ((law tells).counts_now mid (d.clock p.disk) y.before first.later y.was);
          page = y.page;
          kept_or_put = y.kept_or_put;
        })

    touched : Touched d p.disk disk (puts (page_of_claim now w.claim x.page) content false)
    touched = subst (λ n. Touched d p.disk disk (puts n content false)) (sym x.to_is)
        (record { moments = moments; durable = λ never. absurd (cc never); pages = as_many_then ∙ as_many })

    calls : (after : ℕ) → after ≡ d.reads mid → (after ≡ d.reads p.disk) ⊎ RoseByOne (d.reads p.disk) after
    calls after is = subst (λ n. (n ≡ d.reads p.disk) ⊎ RoseByOne (d.reads p.disk) n) (sym is) read.read_calls

    no_read_fault : d.read_faults mid ≡ d.read_faults p.disk
    no_read_fault = read.no_fault (λ e. cc e)

    pub copy_made : (IsTrue d.tells → content ≡ option_map_or (d.now p.disk) from zero_page)
        → WritesOnePage d.tells (device_of d mid) to content 1 (device_of d disk)
        → (new : Row) → new ≡ record (rows_of p.rows row) { stage = stage_left left }
        → TurnMade d p (record (with_row_at p row new) { disk = disk }) kind.copies
    copy_made content_is moves new is = (
      record {
        told_so = refl;
        blank = blank d.tells (d.now p.disk);
        left = left;
        copying = copying d p row (Copying (suc left)) w;
        runs = x.runs;
        current = x.current;
        page = x.page;
        is_next = x.is_next;
        content = content;
        is_content = λ told. sym (x.content
            ∙ content_seen d.tells (d.now p.disk) from content content_is
            ∙ ap (λ (b : Bool). if b then content else zero_page) told);
        device = device_of d disk;
        reads = moves.reads
            ∙ ap (λ (image : Image). read_after_write d.tells image to content) read.reads
            ∙ ap (λ n. read_after_write d.tells now.device.reads n content) (sym x.to_is);
        clock = let rises = moves.clock in let still = read.clock in omega (arith, rises, still);
        read_calls = calls (d.reads disk) moves.read_calls;
        read_faults = moves.read_faults ∙ no_read_fault;
        write_faults = moves.write_faults ∙ read.write_faults;
        next = state_with_row d (record p { disk = disk }) row new
            (record { left = w.left; stage = stage_left left; claim = Some w.claim })
            (is ∙ ap (λ (y : Row). record y { stage = stage_left left }) w.is) low;
      },
      touched,
    )

    pub copy_failed : IsThawed p → FailsToReplace (Some to) (device_of d mid) (device_of d disk)
        → (q : StoreView D)
        → IsGivenUp (stopped_here (record p { disk = disk })) q row Idle r.Fault (d.clock q.disk)
        → TurnsAs d IsOfCopy p q
    copy_failed thawed fails q given = record {
      kind = kind.copy_fails;
      is = tt;
      made = (
        record {
          stage = Copying (suc left);
          copying = copying d p row (Copying (suc left)) w;
          tried = copy left x.page content refl x.current x.is_next;
          runs = x.runs;
          device = device_of d disk;
          fails = record {
            rest = subst (λ n. IsSameElsewhere n (read_now d p.disk) (read_now d disk)) (sym x.to_is)
                (λ n other. fails.rest n other ∙ ap (λ (image : Image). image n) read.reads);
            clock = let later = fails.clock in let still = read.clock in omega (arith, later, still);
            read_faults = fails.read_faults ∙ no_read_fault;
            write_faults = subst (λ n. Rose n (d.write_faults disk)) read.write_faults fails.write_faults;
            read_calls = calls (d.reads disk) fails.read_calls;
          };
          logs = logs_failed d p row (Copying (suc left)) w fill seventeen disk q given thawed;
        },
        subst (λ (y : D). Touched d p.disk y (puts (page_of_claim now w.claim x.page) content false))
            (sym (disk_failed d p row (Copying (suc left)) w fill seventeen disk q given)) touched,
      );
    }

-- ---- the claim is lost

pub copy_lost : {D : Type 0} (d : Ghosts D) (p : StoreView D) (row : ℕ) → row < length p.rows → p.stopped ≡ None
    → (w : WaitsToCopy d p row)
    → map.get p.guards.generations w.holds.claim.head ≢ Some w.holds.claim.generation → (q : StoreView D)
    → q ≡ record (row_given_back p row Idle) { filling = filling_left p.filling row } → TurnMade d p q kind.loses_copy
copy_lost {D = D} d p row low runs w late q is = (
  record {
    left = w.left;
    copying = copying d p row (Copying (suc w.left)) w.holds;
    runs = runs;
    late = late;
    next = ap (state_of d) is
        ∙ ap (λ (s : StoreState). record s { filling = filling_left p.filling row })
        (state_given_back d p row low Idle);
  },
  ap (λ (a : StoreView D). a.disk) is,
)
