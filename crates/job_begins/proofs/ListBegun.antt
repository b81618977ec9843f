-- The begin of a job of several replacements, as the model has it.
use Rattle.std.proofs.Common.{◌≡◌, ◌≢◌, ℕ, ◌<◌, Bool, true, false, List, [], ◌∷◌, length, Option, Some, None, refl, sym}
use Rattle.std.proofs.Common.{◌∙◌, ap, subst}
use Rattle.std.specs.Prelude.{if◌then◌else◌, slice_set, ◌||◌, ◌==◌}
use Rattle.std.specs.Cmp.{nat_cmp_total}
use Rattle.std.specs.FinSet as set
use Rattle.std.specs.List.{flat_map}
use Rattle.std.specs.Ordering.{nat_cmp}
use Rattle.std.proofs.Math.Path.{fun_ext}
use Rattle.page_disk.specs.declared.disk.PageDisk.{Ghosts}
use Rattle.volume_model.specs.declared.command.Command.{Command}
use Rattle.blob_meta.specs.Repairs.{HasNoMarks}
use Rattle.blob_meta.specs.declared.job.Job.{Job}
use Rattle.blob_meta.specs.declared.job.Replacement.{Replacement}
use Rattle.store_model.specs.Asking.{IsJobFor}
use Rattle.store_model.specs.Cases.{Begins}
use Rattle.store_model.specs.Guarding.{freezing}
use Rattle.store_model.specs.Jobs.{with_zeroed, AreLaid}
use Rattle.store_model.specs.Phases.{taken_by, Committing, Phase}
use Rattle.store_model.specs.Places.{all_set}
use Rattle.store_model.specs.Rows.{with_row, InJob, Row}
use Rattle.store_model.specs.StoreState.{ForCommand, JobState, marked, StoreState}
use Rattle.store_model.proofs.JobReady.{plain_zeroed}
use Rattle.running_store.specs.Jobs.{phases_in}
use Rattle.running_store.specs.Steps.{IsPostedAt}
use Rattle.running_store.specs.StoreView.{base_of, rows_of, state_of, StoreView}
use Rattle.running_store.specs.declared.replacements.LaidReplacement.{LaidReplacement}
use Rattle.running_store.proofs.Maps.{is_key}
use Rattle.running_store.proofs.Rowing.{rows_set}
use Rattle.job_begins.proofs.ListBegins.{phases_are, replacings, CommitsAt}

-- the blobs that are frozen once the job freezes one
abbrev pub frozen_with : set.FinSet nat_cmp → Option ℕ → set.FinSet nat_cmp
frozen_with frozen None = frozen
frozen_with frozen (Some head) = set.insert frozen head

-- as the model says it
pub frozen_is : (frozen : set.FinSet nat_cmp) (freeze : Option ℕ)
    → set.contains (frozen_with frozen freeze) ≡ freezing (set.contains frozen) freeze
frozen_is frozen None = refl
frozen_is frozen (Some head) = fun_ext (λ q.
    set.contains-insert nat_cmp_total frozen head q
    ∙ ap (λ b. b || set.contains frozen q) (is_key q head)
    ∙ by (q == head) (set.contains frozen q))
  where
    by : (b c : Bool) → (b || c) ≡ (if b then true else c)
    by true c = refl
    by false c = refl

module _ {D : Type 0} (d : Ghosts D) (p : StoreView D) (channel : ℕ) (posted : IsPostedAt p channel)
    (clean : HasNoMarks (base_of p.metas p.marked)) (runs : p.stopped ≡ None) (no_job : p.job ≡ None) (job : Job)
    (commit : Committing) (asked : IsJobFor (state_of d p) posted.waits.command job commit) (no_zeros : job.zero ≡ [])
    (list : List LaidReplacement) (at : CommitsAt job.commit commit list)
    (laid : AreLaid p.super (base_of p.metas p.marked) (state_of d p).chains p.pages [] job.list (replacings list))
    (after : List Bool) (taken : after ≡ all_set p.pages (flat_map taken_by (replacings list)) true) where
  abbrev s : StoreState
  s = state_of d p

  abbrev command : Command
  command = posted.waits.command

  abbrev in_job : Row
  in_job = record { left = command ∷ posted.waits.rest; stage = InJob; claim = None }

  -- with these phases left
  abbrev pub begun_with : List Phase → JobState
  begun_with todo =
      record { serves = ForCommand channel; freeze = job.freeze; claimed = []; written = []; todo = todo }

  -- the store then
  abbrev pub begun : StoreView D
  begun = record p {
    rows = slice_set p.rows channel (record (rows_of p.rows channel) { stage = InJob });
    job = Some (marked p.clean (begun_with (phases_in list)));
    guards = record p.guards { frozen = frozen_with p.guards.frozen job.freeze };
    pages = after;
  }

  rows_are : channel < length p.rows → rows_of begun.rows ≡ with_row (rows_of p.rows) channel in_job
  rows_are low =
      ap (λ (g : Row). rows_of (slice_set p.rows channel (record g { stage = InJob }))) posted.waits.row
      ∙ rows_set p.rows channel in_job low

  -- All pages are taken and the blob is frozen as the job begins.
  pub begins_list : p.filling ≢ Some channel → channel < length p.rows → Begins s (state_of d begun)
  begins_list unfilled low = record {
    posted = record {
      channel = channel;
      serial = posted.serial;
      command = command;
      rest = posted.waits.rest;
      row = posted.waits.row;
    };
    runs = runs;
    no_job = no_job;
    unfilled = unfilled;
    repaired = clean;
    changes = job;
    commit = commit;
    asked = asked;
    claimed = [];
    clusters = tt;
    one_each = sym (ap length no_zeros);
    list = replacings list;
    laid = subst (λ (l : List Replacement). AreLaid p.super s.base s.chains p.pages [] l (replacings list))
        (sym (ap (λ z. with_zeroed job.list z []) no_zeros ∙ plain_zeroed [] job.list)) laid;
    next = λ i. record s {
      rows = rows_are low i;
      job = Some (marked p.clean (begun_with (phases_are list job.commit commit at i)));
      frozen = frozen_is p.guards.frozen job.freeze i;
      pages = taken i;
    };
  }
