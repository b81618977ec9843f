-- A job of which the write of a page, or of the super block, failed: the store stops, and what waits for it is logged.
use Rattle.std.proofs.Common.{◌≡◌, ◌≢◌, ℕ, ◌+◌, ◌<◌, Bool, true, false, List, ◌∷◌, length, Option, Some, None, refl}
use Rattle.std.proofs.Common.{sym, ◌∙◌, ap, subst}
use Rattle.page_disk.specs.Disk.{Written}
use Rattle.page_disk.specs.Moments.{CallsLeaveOnly, IsReplaced}
use Rattle.page_disk.specs.declared.disk.PageDisk.{Ghosts}
use Rattle.page_disk.specs.declared.disk.WriteKind.TheVariants.{Plain}
use Rattle.volume_model.specs.declared.command.Command.{Command}
use Rattle.volume_model.specs.declared.reply.Reply.TheVariants as r
use Rattle.md_chain.specs.declared.plan.PlannedPage.{PlannedPage}
use Rattle.store_model.specs.Cases.{FailsToReplace, put_by}
use Rattle.store_model.specs.Cases as kind
use Rattle.store_model.specs.Cases.Fail.{Tried}
use Rattle.store_model.specs.Cases.BreakOff as alone
use Rattle.store_model.specs.Cases.Fail as fail
use Rattle.store_model.specs.Cases.InsertFail as insert
use Rattle.store_model.specs.Jobs.{IsServed, JobStands}
use Rattle.store_model.specs.Phases.{has_commit, Marks, Phase, Replaces, Replacing}
use Rattle.store_model.specs.Recovers.{SaysInUse}
use Rattle.store_model.specs.Rows.{InJob, Row, Answered, Decided, fill_row}
use Rattle.store_model.specs.StoreState.{ForCommand, ForInsert, ForRepair, JobState, logged, Service, StoreState}
use Rattle.store_model.specs.StoreState.{waiting}
use Rattle.store_model.specs.Touches.{DoesTouch, page_touched, Touch}
use Rattle.store_model.proofs.Shaped.{waits_for_commit, waits_no_more}
use Rattle.running_store.specs.Jobs.{waits_for_job}
use Rattle.running_store.specs.Steps.{logged_at}
use Rattle.running_store.specs.StoreView.{StoreView, device_of, rows_of, state_of}
use Rattle.running_store.proofs.Rowing.{state_logged, low_left}
use Rattle.metadata_turns.specs.JobTurns.{stopped_at, with_job, IsAtWork, TurnsJob}
use Rattle.metadata_turns.specs.Telling.{HasFailed, HasWaitingRow}
use Rattle.metadata_turns.proofs.InsertFailed.{fails_insert, insert_disk, stopped_state, waits as waits_to_insert}
use Rattle.metadata_turns.proofs.WhatWaits.{entered, has_command}
use Rattle.running_store.proofs.WorkLogged.{given_up_plainly, has_work}
use Rattle.running_store.specs.GivingBack.{own}

module _ {D : Type 0} (d : Ghosts D) (p : StoreView D) (j : JobState) (w : IsAtWork d p j) where
  abbrev s : StoreState
  s = state_of d (with_job p j)

  pub stands : JobStands s j
  stands = (w.running.facts.well w.not_stopped).job j refl

  -- ---- a command that waits

  module _ (channel : ℕ) (serves : j.serves ≡ ForCommand channel) (waits : has_commit j.todo ≡ true) where
    pub x_served : IsServed s channel j.claimed j.todo
    x_served = stands.served channel serves waits

    abbrev pub command : Command
    command = x_served.command

    abbrev pub rest : List Command
    rest = x_served.rest

    pub row : rows_of p.rows channel ≡ record { left = command ∷ rest; stage = InJob; claim = None }
    row = x_served.row

    pub row_left : (rows_of p.rows channel).left ≡ command ∷ rest
    row_left = ap (λ (x : Row). x.left) row

    pub channel_low : channel < length p.rows
    channel_low = low_left p.rows channel command rest row_left

    -- its row is a channel's
    own_row : channel ≢ fill_row
    own_row here =
        let none = w.work.fill.left in
        let bad = sym none ∙ ap (λ n. (rows_of p.rows n).left) (sym here) ∙ row_left in cc bad

    module _ (disk : D) where
      abbrev pub fault : StoreView D
      fault =
          logged_at (stopped_at (record p { disk = disk }) j.freeze) channel command rest r.Fault (d.clock disk)

      -- the entry of a command that failed
      pub entry : (q : StoreView D) → entered d p j.freeze channel disk q → q ≡ fault
      entry q given =
          let is = given_up_plainly (stopped_at (record p { disk = disk }) j.freeze) q channel (Decided Answered)
          r.Fault (d.clock q.disk) own_row (ap (λ (x : Row). x.claim) row) given command rest
          row_left in
          is ∙ ap (λ mark. logged_at (stopped_at (record p { disk = disk }) j.freeze) channel command rest r.Fault mark)
          (ap (λ (b : StoreView D). d.clock b.disk) is)

      pub next : state_of d fault
          ≡ logged (record s { stopped = Some (length p.log); job = None; frozen = λ head. false })
          channel command rest r.Fault (device_of d disk)
      next = state_logged d (stopped_at (record p { disk = disk }) j.freeze) channel command rest r.Fault channel_low
          ∙ ap (λ (a : StoreState). logged a channel command rest r.Fault (device_of d disk))
          (stopped_state d p j w disk)

      abbrev pub fails_case : (phase : Phase) (others : List Phase) → j.todo ≡ phase ∷ others
          → (tried : Tried s.super j phase)
          → FailsToReplace (page_touched (fail.tried_at s tried)) (device_of d p.disk) (device_of d disk)
          → kind.Fails s (state_of d fault)
      fails_case phase others todo tried fails = record {
        phase = phase;
        running = record { job = j; is = refl; rest = others; next = todo; runs = w.not_stopped };
        served = record { channel = channel; serves = serves; command = command; rest = rest; row = row };
        waits = waits;
        tried = tried;
        device = device_of d disk;
        fails = fails;
        next = next;
      }

      abbrev pub fails_more : (replacing : Replacing) (others : List Phase) → j.todo ≡ Replaces replacing None ∷ others
          → FailsToReplace (Some (p.super.md_start + replacing.head)) (device_of d p.disk) (device_of d disk)
          → kind.MoreFails s (state_of d fault)
      fails_more replacing others todo fails = record {
        replacing = replacing;
        running = record { job = j; is = refl; rest = others; next = todo; runs = w.not_stopped };
        served = record { channel = channel; serves = serves; command = command; rest = rest; row = row };
        waits = waits;
        device = device_of d disk;
        fails = fails;
        next = next;
      }

  -- ---- what waits

  -- the row of the channel that waits for it
  pub waiting_row : length p.rows ≡ 17 → {row : Option ℕ} → row ≡ waits_for_job j → HasWaitingRow p.filling p.rows row
  waiting_row seventeen row_is =
      subst (HasWaitingRow p.filling p.rows) (sym row_is) (by j.serves refl (has_commit j.todo) refl)
    where
      by : (x : Service) → j.serves ≡ x → (b : Bool) → has_commit j.todo ≡ b
          → HasWaitingRow p.filling p.rows (waits_for_job j)
      by (ForCommand channel) serves true commit =
          subst (HasWaitingRow p.filling p.rows) (sym (waits_for_commit j channel serves commit))
          (own (has_command d (with_job p j) channel seventeen w.work.fill (record {
            command = command channel serves commit;
            rest = rest channel serves commit;
            left = row_left channel serves commit;
          })))
      by (ForCommand channel) serves false commit =
          subst (HasWaitingRow p.filling p.rows) (sym (waits_no_more j channel serves commit)) tt
      by (ForInsert channel) serves b commit =
          subst (HasWaitingRow p.filling p.rows) (sym (ap (λ (x : Service). waiting x j.todo) serves))
          (has_work d (with_job p j) seventeen w.work.fill channel (waits_to_insert d p j w channel serves).works)
      by ForRepair serves b commit =
          subst (HasWaitingRow p.filling p.rows) (sym (ap (λ (x : Service). waiting x j.todo) serves)) tt

  module _ (seventeen : length p.rows ≡ 17) (disk : D) (q : StoreView D) {told : Option ℕ}
      (told_is : told ≡ waits_for_job j)
      (failed : HasFailed j.freeze told (record p { disk = disk }) q (d.clock q.disk)) where
    pub by_waiting : (o : Option ℕ) → waits_for_job j ≡ o
        → HasFailed j.freeze o (record p { disk = disk }) q (d.clock q.disk)
    by_waiting o is =
        subst (λ (x : Option ℕ). HasFailed j.freeze x (record p { disk = disk }) q (d.clock q.disk)) (told_is ∙ is)
        failed

    stopped : state_of d (stopped_at (record p { disk = disk }) j.freeze)
        ≡ record s { stopped = Some (length p.log); job = None; frozen = λ head. false; device = device_of d disk }
    stopped = stopped_state d p j w disk

    -- ---- what was being written

    -- of a command's job, and of an insert's, the same may be
    abbrev by_command : {phase : Phase} → alone.TriedAlone s.super j phase → Tried s.super j phase
    by_command (alone.mark page is says) = fail.mark page is says
    by_command (alone.page put is) = fail.page put is

    abbrev by_insert : {phase : Phase} → alone.TriedAlone s.super j phase → insert.TriedInsert s.super j phase
    by_insert (alone.mark page is says) = insert.mark page is says
    by_insert (alone.page put is) = insert.page put is

    -- a write or a flush failed, of calls that touch the device so
    abbrev FailsAt : Touch → Type 0
    FailsAt touch = FailsToReplace (page_touched touch) (device_of d p.disk) (device_of d disk)

    module _ (phase : Phase) (others : List Phase) (todo : j.todo ≡ phase ∷ others)
        (tried : alone.TriedAlone s.super j phase) (touched : DoesTouch d p.disk disk (alone.tried_alone s tried))
        (fails : FailsAt (alone.tried_alone s tried)) where
      none_waits : waits_for_job j ≡ None → TurnsJob d (with_job p j) q
      none_waits none = subst (TurnsJob d (with_job p j)) (sym (by_waiting None none)) (record {
        kind = kind.breaks_off;
        of_job = tt;
        made = (
          record {
            phase = phase;
            running = record { job = j; is = refl; rest = others; next = todo; runs = w.not_stopped };
            waits = none;
            tried = tried;
            device = device_of d disk;
            fails = fails;
            next = stopped;
          },
          touched,
        );
      })

      -- the touch is the same whomever the job is for
      for_command : alone.tried_alone s tried ≡ fail.tried_at s (by_command tried)
      for_command = by tried
        where
          by : (t : alone.TriedAlone s.super j phase) → alone.tried_alone s t ≡ fail.tried_at s (by_command t)
          by (alone.mark page is says) = refl
          by (alone.page put is) = refl

      for_insert : alone.tried_alone s tried ≡ insert.tried_insert s (by_insert tried)
      for_insert = by tried
        where
          by : (t : alone.TriedAlone s.super j phase) → alone.tried_alone s t ≡ insert.tried_insert s (by_insert t)
          by (alone.mark page is says) = refl
          by (alone.page put is) = refl

      failed_trying : TurnsJob d (with_job p j) q
      failed_trying = by j.serves refl (has_commit j.todo) refl
        where
          by : (x : Service) → j.serves ≡ x → (b : Bool) → has_commit j.todo ≡ b → TurnsJob d (with_job p j) q
          by (ForCommand channel) serves true commit = subst (TurnsJob d (with_job p j))
              (sym (entry channel serves commit disk q
              (by_waiting (Some channel) (waits_for_commit j channel serves commit)))) (record {
                kind = kind.fails;
                of_job = tt;
                made = (
                  fails_case channel serves commit disk phase others todo (by_command tried)
                      (subst FailsAt for_command fails),
                  subst (DoesTouch d p.disk disk) for_command touched,
                );
              })
          by (ForCommand channel) serves false commit = none_waits (waits_no_more j channel serves commit)
          by (ForInsert channel) serves b commit =
              let given = by_waiting (Some channel) (ap (λ (x : Service). waiting x j.todo) serves) in
              record {
                kind = kind.insert_fails;
                of_job = tt;
                made = (
                  fails_insert d p j w channel serves seventeen disk q given phase others todo (by_insert tried)
                      (subst FailsAt for_insert fails),
                  subst (λ (x : D). DoesTouch d p.disk x (insert.tried_insert s (by_insert tried)))
                      (sym (insert_disk d p j w channel serves seventeen disk q given))
                      (subst (DoesTouch d p.disk disk) for_insert touched),
                );
              }
          by ForRepair serves b commit = none_waits (ap (λ (x : Service). waiting x j.todo) serves)

    -- a page,
    pub failed_putting : (phase : Phase) (others : List Phase) → j.todo ≡ phase ∷ others → (put : PlannedPage)
        → put_by j phase ≡ Some put
        → CallsLeaveOnly d p.disk disk (Written (d.images p.disk) (p.super.md_start + put.place) Plain put.page)
        → d.pages disk ≡ d.pages p.disk
        → FailsToReplace (Some (p.super.md_start + put.place)) (device_of d p.disk) (device_of d disk)
        → TurnsJob d (with_job p j) q
    failed_putting phase others todo put is_put touches pages fails =
        failed_trying phase others todo (alone.page put is_put)
        (record { moments = touches; durable = λ never. absurd (cc never); pages = pages }) fails

    -- or the super block, which was being replaced
    pub failed_marking : (others : List Phase) → j.todo ≡ Marks ∷ others → (page : List ℕ) → SaysInUse p.super page
        → CallsLeaveOnly d p.disk disk (IsReplaced (d.images p.disk) (d.now p.disk) 0 page)
        → d.pages disk ≡ d.pages p.disk → FailsToReplace (Some 0) (device_of d p.disk) (device_of d disk)
        → TurnsJob d (with_job p j) q
    failed_marking others todo page says touches pages fails =
        failed_trying Marks others todo (alone.mark page refl says)
        (record { moments = touches; durable = λ never. absurd (cc never); pages = pages }) fails
