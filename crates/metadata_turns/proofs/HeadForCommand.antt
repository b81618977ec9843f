-- What a turn makes of the store in which a head's page is replaced, where the job serves a command or a repair.
use Rattle.std.proofs.Common.{◌≡◌, ◌≢◌, ℕ, ◌+◌, true, List, [], ◌∷◌, Option, Some, None, refl, sym, ◌∙◌, ap}
use Rattle.std.proofs.Common.{subst, IsTrue}
use Rattle.std.specs.Option.{option_map}
use Rattle.std.specs.FinSet as set
use Rattle.page_disk.specs.Disk.{Only}
use Rattle.page_disk.specs.declared.disk.PageDisk.{Ghosts}
use Rattle.volume_model.specs.Steps.{change}
use Rattle.volume_model.specs.Xattrs.{Xattrs}
use Rattle.volume_model.specs.declared.command.Command.{Command}
use Rattle.store_model.specs.Cases.{WritesOnePage}
use Rattle.store_model.specs.Cases as kind
use Rattle.store_model.specs.Guarding.{frozen_behind}
use Rattle.store_model.specs.Jobs.{Does, IsStep, ReadsZeros}
use Rattle.store_model.specs.Maps.{Map}
use Rattle.store_model.specs.Phases.{erasing, has_commit, page_in, with_live, Committing, Phase, Replaces, Replacing}
use Rattle.store_model.specs.Shown.{fixed_of}
use Rattle.store_model.specs.StoreState.{going_on, live_of as live_shown, logged, shown, ForCommand, ForInsert}
use Rattle.store_model.specs.StoreState.{JobState, StoreState}
use Rattle.store_model.specs.WithReplaced.{made_by, with_replaced}
use Rattle.running_store.specs.Blobs.{commit_of, live_change, numbered_in, CanBeKept}
use Rattle.running_store.specs.Effects.{commit_seen, live_seen}
use Rattle.running_store.specs.GivingBack.{IsEntered}
use Rattle.running_store.specs.Jobs.{job_left, service_of}
use Rattle.running_store.specs.Steps.{logged_at}
use Rattle.running_store.specs.StoreView.{StoreView, device_of, rows_of, state_of}
use Rattle.running_store.specs.declared.job.Serves.{Serves}
use Rattle.running_store.specs.declared.replacements.Change.{Change}
use Rattle.running_store.specs.declared.replacements.Change.TheVariants as changed
use Rattle.running_store.specs.declared.replacements.Commit.{Commit}
use Rattle.running_store.proofs.JobLeft.{goes_on_left}
use Rattle.running_store.proofs.Rowing.{state_logged}
use Rattle.metadata_turns.specs.JobTurns.{with_job, TurnsJob}
use Rattle.job_views.specs.Replacing.{blobs_in, replacing_for}
use Rattle.metadata_turns.proofs.AtHead.{IsAtHead, TouchesHead}
use Rattle.metadata_turns.proofs.Behind.{behind_state, behind_view, state_behind, IsWhole}
use Rattle.metadata_turns.proofs.JobFailed.{channel_low, command, rest, row, row_left, x_served}

module _ {D : Type 0} (d : Ghosts D) (p : StoreView D) (x : Change) (old : List ℕ) (more : List Phase) (j : JobState)
    (disk : D) (touched : TouchesHead d p (replacing_for x old) disk) where
  module _ (serves : Serves) (n : IsAtHead d p serves x old more j) (can : CanBeKept (blobs_in p) x)
      (whole : IsWhole (set.contains p.guards.frozen) x)
      (moves : WritesOnePage d.tells (device_of d p.disk) (p.super.md_start + (replacing_for x old).head)
      (page_in (replacing_for x old).planned (replacing_for x old).head) 3 (device_of d disk))
      (durable : IsTrue d.tells → Only (d.now disk) (d.images disk)) (left : Option JobState)
      (left_is : left ≡ job_left serves (erasing old old more)) where
    abbrev s : StoreState
    s = state_of d (with_job p j)

    abbrev r : Replacing
    r = replacing_for x old

    abbrev others : List Phase
    others = erasing old old more

    abbrev after : StoreView D
    after = behind_view p x serves disk left

    goes_on : left ≡ going_on (record j { claimed = [] }) [] others
    goes_on = left_is ∙ sym (goes_on_left serves (record j { claimed = [] }) n.serves_is n.freezes refl others)

    pub is_behind : state_of d after ≡ behind_state d p serves j n.freezes others left left_is disk x old
    is_behind = state_behind d p serves j n.freezes others left left_is disk x old can whole

    abbrev with_parts : Replacing → List ℕ → Map Xattrs → Option JobState → StoreState
    with_parts replacing heads live job = record (with_replaced s replacing heads) {
      live = live;
      job = job;
      frozen = frozen_behind s.frozen j others;
      device = device_of d disk;
    }

    -- what a replacement makes with this commit, or with none
    abbrev with_commit : Replacing → Option Commit → StoreState
    with_commit replacing o = with_parts replacing (numbered_in o replacing.makes replacing.head)
        (with_live s.live (option_map live_seen (live_change o))) left

    by_commit : (y : Change) (o : Option Commit) → commit_of y ≡ o
        → behind_state d p serves j n.freezes others left left_is disk y old ≡ with_commit (replacing_for y old) o
    by_commit (changed.Writes planned) o is = ap (with_commit (replacing_for (changed.Writes planned) old)) is
    by_commit (changed.Erases erasure) o is = ap (with_commit (replacing_for (changed.Erases erasure) old)) is

    -- without a commit a new blob alone gets a generation,
    as_more : commit_of x ≡ None → state_of d after ≡ with_parts r (made_by r) s.live left
    as_more none = is_behind ∙ by_commit x None none

    -- and with one those that it renews
    as_commit : (c : Commit) → commit_of x ≡ Some c
        → state_of d after ≡ with_parts r (commit_seen c).renews (with_live s.live (commit_seen c).live) left
    as_commit c is = is_behind ∙ by_commit x (Some c) is

    -- ---- no commit, of a command's job or a repair's

    pub made_more : ((row : ℕ) → service_of serves ≢ ForInsert row) → commit_of x ≡ None → (q : StoreView D) → q ≡ after
        → TurnsJob d (with_job p j) q
    made_more no_insert none q is = subst (TurnsJob d (with_job p j)) (sym is) (record {
      kind = kind.replaces_more;
      of_job = tt;
      made = (
        record {
          replacing = r;
          running = record {
            job = j;
            is = refl;
            rest = others;
            next = n.todo ∙ ap (λ (o : Option Commit). Replaces r (option_map commit_seen o) ∷ others) none;
            runs = n.work.not_stopped;
          };
          no_insert = λ row bad. no_insert row (sym n.serves_is ∙ bad);
          device = device_of d disk;
          moves = moves;
          next = as_more none ∙ ap (with_parts r (made_by r) s.live) goes_on;
        },
        record { moments = touched.moments; durable = λ _. durable; pages = touched.pages },
      );
    })

    -- ---- the commit

    module _ (channel : ℕ) (for_command : j.serves ≡ ForCommand channel) (c : Commit) (commits : commit_of x ≡ Some c)
      where
        abbrev commit : Committing
        commit = commit_seen c

        todo_now : j.todo ≡ Replaces r (Some commit) ∷ others
        todo_now = n.todo ∙ ap (λ (o : Option Commit). Replaces r (option_map commit_seen o) ∷ others) commits

        waits : has_commit j.todo ≡ true
        waits = ap has_commit todo_now

        abbrev c_now : Command
        c_now = command d p j n.work channel for_command waits

        abbrev c_rest : List Command
        c_rest = rest d p j n.work channel for_command waits

        step : IsStep (ReadsZeros s.super j.claimed) s.super s.base r s.live c_now commit
        step = (subst (Does (ReadsZeros s.super j.claimed) s.super s.base s.live c_now) todo_now
            (x_served d p j n.work channel for_command waits).does).0

        pub committed : (q : StoreView D) → ((k : Command) (ks : List Command)
            → (rows_of p.rows channel).left ≡ k ∷ ks → q ≡ logged_at after channel k ks commit.reply (d.clock disk))
            → TurnsJob d (with_job p j) q
        committed q is = subst (TurnsJob d (with_job p j))
            (sym (is c_now c_rest (row_left d p j n.work channel for_command waits))) (record {
              kind = kind.commits;
              of_job = tt;
              made = (
                record {
                  replacing = r;
                  commit = commit;
                  done = step.done;
                  running = record { job = j; is = refl; rest = others; next = todo_now; runs = n.work.not_stopped };
                  served = record {
                    channel = channel;
                    serves = for_command;
                    command = c_now;
                    rest = c_rest;
                    row = row d p j n.work channel for_command waits;
                  };
                  device = device_of d disk;
                  moves = moves;
                  next = state_logged d after channel c_now c_rest commit.reply
                      (channel_low d p j n.work channel for_command waits)
                      ∙ ap (λ (a : StoreState). logged a channel c_now c_rest commit.reply (device_of d disk))
                      (as_commit c commits
                      ∙ ap (λ (live : Map Xattrs). with_parts r commit.renews live left)
                      (sym (step.lives s.device.reads))
                      ∙ ap (with_parts r commit.renews
                      (live_shown (change (fixed_of s.super) (shown s) c_now commit.reply))) goes_on);
                },
                record { moments = touched.moments; durable = λ _. durable; pages = touched.pages },
              );
            })

        -- the command is logged once the replacement is made
        pub logged_is : (a : StoreView D) → a ≡ after → (l : StoreView D)
            → IsEntered a l channel commit.reply (d.clock l.disk) → (k : Command) (ks : List Command)
            → (rows_of p.rows channel).left ≡ k ∷ ks → l ≡ logged_at after channel k ks commit.reply (d.clock disk)
        logged_is a a_is l entry k ks left_is =
            let e = (subst (λ (b : StoreView D). IsEntered b l channel commit.reply (d.clock l.disk)) a_is entry)
            k ks left_is in
            e ∙ ap (λ mark. logged_at after channel k ks commit.reply mark) (ap (λ (b : StoreView D). d.clock b.disk) e)
