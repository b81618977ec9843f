-- The begin of a job, and a command that is logged instead.
use Rattle.std.proofs.Common.{◌≡◌, ◌≢◌, ℕ, ◌+◌, ◌<◌, Bool, true, false, List, [], ◌∷◌, ◌++◌, length, drop, map}
use Rattle.std.proofs.Common.{Option, Some, None, refl, sym, ◌∙◌, ap, subst, append-nil, arith}
use Rattle.store_model.specs.Jobs.{with_clusters, AreForZeros, LacksPages, LacksPagesFor, MovesClusters}
use Rattle.store_model.specs.Maps.{with_entry, Metas}
use Rattle.running_store.specs.Effects.{commit_by, is_renewed, live_behind, AreEffects}
use Rattle.std.specs.Prelude.{if◌then◌else◌, is_some, not, slice_index_or, slice_set}
use Rattle.std.proofs.lemmas.List.{get_or_default}
use Rattle.page_disk.specs.declared.disk.PageDisk.{Ghosts}
use Rattle.pools.specs.Pool.{clear_in}
use Rattle.super_block.specs.Numbers.{cluster_pages_of}
use Rattle.volume_model.specs.declared.command.Command.{Command}
use Rattle.volume_model.specs.declared.reply.Reply.{Reply}
use Rattle.volume_model.specs.declared.reply.Reply.TheVariants as r
use Rattle.blob_meta.specs.Repairs.{HasNoMarks}
use Rattle.blob_meta.specs.declared.meta.Meta.{Meta}
use Rattle.store_model.specs.Rows.{with_row, Ended, InJob, Row, Rows}
use Rattle.store_model.specs.Shown.{fixed_of}
use Rattle.store_model.specs.StoreState.{JobState, marked, shown, StoreState}
use Rattle.store_model.specs.Phases.{Committing, erasing, Replaces, writing, Zeros}
use Rattle.store_model.specs.Places.{all_set, AreLeastClear}
use Rattle.store_model.specs.Asking.{IsJobFor}
use Rattle.store_model.specs.Cases.{Begins, CannotBegin, IsPosted, IsRefusedAtBegin, Refuses}
use Rattle.store_model.proofs.JobReady.{lacks_for_one}
use Rattle.running_store.specs.Jobs.{begun_job, commit_in, replacing_of, writing_for}
use Rattle.job_begins.specs.Begins.{job_with_zeros, taken_for, AsksToWrite, IsUnprepared}
use Rattle.running_store.specs.RunningState.{IsRunning}
use Rattle.running_store.specs.StoreView.{StoreView, rows_of, state_of}
use Rattle.running_store.specs.Zeroing.{pages_of}
use Rattle.running_store.specs.Steps.{logged_at, IsPostedAt}
use Rattle.running_store.specs.declared.job.Serves.{Serves}
use Rattle.running_store.specs.declared.job.Serves.TheVariants as whom
use Rattle.running_store.specs.declared.replacements.Planned.{Planned}
use Rattle.running_store.proofs.Entered.{disk_same, entered}
use Rattle.job_begins.proofs.JobAsked.{asked, IsAsked}
use Rattle.job_begins.proofs.Lacking.{may_lack}
use Rattle.job_begins.proofs.JobPrepared.{moves_filled, there_is}
use Rattle.job_begins.proofs.JobPlanned.{IsReady}
use Rattle.running_store.proofs.Rowing.{rows_set}
use Rattle.running_store.proofs.ZeroPages.{from_start}

-- a row by its index is the channel's
pub indexed_row : (rows : List Row) (channel : ℕ) → channel < length rows → (row : Row)
    → row ≡ slice_index_or rows channel row → row ≡ rows_of rows channel
indexed_row rows channel low row is =
    is ∙ get_or_default rows channel row (record { left = []; stage = Ended; claim = None }) low

-- ---- why a job doesn't begin

-- one replacement that lacks pages
for_one : (base : Metas) (head : ℕ) (new : Meta) (bits : List Bool)
    → LacksPagesFor base (record { head = head; new = Some new } ∷ []) bits → LacksPages (is_some (base head)) new bits
for_one base head new bits x =
    let t = x.take in
    let need = t.2 in
    let none : t.1 ≡ 0 = t.3 in
    let sum : x.count ≡ t.0 + t.1 = t.4 in
    let count : x.count ≡ (if is_some (base head) then need.0 else need.0 + 1) =
    (let all : x.count ≡ t.0 = omega (arith, none, sum) in all) ∙ need.2 in
    record { count = need.0; needs = need.1; lacking = subst (λ n. clear_in bits < n) count x.lacking }

module _ (s : StoreState) (running : IsRunning s) (clean : HasNoMarks s.base) (runs : s.stopped ≡ None)
    (no_job : s.job ≡ None) (command : Command)
    (head : ℕ) (bare : Meta) (zeros : List ℕ) (asks : AsksToWrite s command head bare zeros) (claimed : List ℕ)
    (claims : AreForZeros s.clusters zeros claimed) where
  abbrev later : Meta
  later = with_clusters bare zeros claimed

  there : is_some (s.base head) ≡ is_some (s.chains head)
  there = there_is s running clean runs command head bare zeros asks

  cannot : LacksPages (is_some (s.chains head)) later s.pages → CannotBegin s command
  cannot lacks = record {
    no_job = no_job;
    changes = job_with_zeros head bare zeros;
    commit = asks.commit;
    asked = asks.asked;
    claimed = claimed;
    claims = claims;
    lacks = lacks_for_one s.base head later s.pages (subst (λ (b : Bool). LacksPages b later s.pages) (sym there)
        lacks);
  }

  -- it isn't prepared for this reason
  pub why_unprepared : (fewer : Bool) → (fewer ≡ true → (clear_in s.clusters < length zeros) × (later ≡ bare))
      → (reply : Reply) → IsUnprepared fewer (is_some (s.chains head)) later s.pages reply
      → IsRefusedAtBegin s command reply
  why_unprepared fewer lacking r.NoPage x = cannot x
  why_unprepared fewer lacking r.Full x = record {
    no_job = no_job;
    changes = job_with_zeros head bare zeros;
    commit = asks.commit;
    asked = asks.asked;
    fewer = (lacking x.0).0;
    enough = λ y. x.1 (subst (λ (m : Meta). LacksPages (is_some (s.chains head)) m s.pages) (sym (lacking x.0).1)
        (subst (λ (b : Bool). LacksPages b bare s.pages) there (for_one s.base head bare s.pages y)));
  }
  why_unprepared fewer lacking r.Memory x = may_lack (fixed_of s.super) (shown s) s command
      (job_with_zeros head bare zeros) asks.commit asks.asked
  why_unprepared fewer lacking _ x = absurd x

-- ---- it begins, or its command is logged

module _ {D : Type 0} (d : Ghosts D) (p : StoreView D) (channel : ℕ) (low : channel < length p.rows)
    (posted : IsPostedAt p channel) (runs : p.stopped ≡ None) where
  abbrev s : StoreState
  s = state_of d p

  abbrev command : Command
  command = posted.waits.command

  abbrev rest : List Command
  rest = posted.waits.rest

  abbrev is_posted : IsPosted s
  is_posted =
      record { channel = channel; serial = posted.serial; command = command; rest = rest; row = posted.waits.row }

  abbrev in_job : Row
  in_job = record { left = command ∷ rest; stage = InJob; claim = None }

  module _ (running : IsRunning s) (clean : HasNoMarks s.base) (no_job : p.job ≡ None) (planned : Planned)
      (old : List ℕ) (bare : Meta)
      (zeros : List ℕ) (asks : AsksToWrite s command planned.head bare zeros) where
    abbrev claimed : List ℕ
    claimed = planned.effects.claimed

    abbrev filled : Meta
    filled = with_clusters bare zeros claimed

    abbrev makes : Bool
    makes = is_some planned.effects.rooms.chain

    abbrev serves : Serves
    serves = whom.Command channel None

    known : IsAsked s running clean runs command planned.head bare zeros asks (s.base planned.head)
    known = asked s running clean runs command planned.head bare zeros asks

    -- the store with the job
    abbrev with_job : Rows → JobState → List Bool → List Bool → StoreState
    with_job rows job pages clusters =
        record s { rows = rows; job = Some (marked p.clean job); pages = pages; clusters = clusters }

    abbrev todo_with : List ℕ → Option Committing → JobState
    todo_with pages commit = record (writing_for serves planned old 0 []) {
      todo = map Zeros pages
          ++ writing (drop 1 planned.chain) (Replaces (replacing_of planned old) commit ∷ erasing old old []);
    }

    -- what its commit makes, of a blob that is there or not
    abbrev commit_if : Bool → Committing
    commit_if there = commit_by there planned.head (is_renewed command (s.base planned.head) bare)
        (live_behind command (s.live planned.head) bare)

    pub begun : p.filling ≢ Some channel
        → AreEffects (is_some (s.chains planned.head)) planned.head (s.base planned.head) command (s.live planned.head)
        bare claimed planned.effects
        → AreLeastClear p.clusters claimed → length claimed ≡ length zeros → planned.new ≡ filled
        → (cluster_pages : ℕ) → cluster_pages ≡ cluster_pages_of p.super
        → is_some (s.chains planned.head) ≡ not makes
        → (is_some (s.chains planned.head) ≡ true → s.chains planned.head ≡ Some (planned.head ∷ old))
        → (is_some (s.chains planned.head) ≡ false → old ≡ [])
        → (pages clusters : List Bool) → clusters ≡ all_set p.clusters claimed true
        → IsReady s planned.head filled makes pages planned.pages (drop 1 planned.chain)
        → Begins s (state_of d (record p {
          rows = slice_set p.rows channel (record (rows_of p.rows channel) { stage = InJob });
          pages = pages;
          clusters = clusters;
          job = Some (marked p.clean (begun_job serves planned old cluster_pages []));
        }))
    begun unfilled effects least one_each new_is cluster_pages each was chain unerased pages clusters set is =
        let commit : Committing = commit_if (is_some (s.chains planned.head)) in
        record {
          posted = is_posted;
          runs = runs;
          no_job = no_job;
          unfilled = unfilled;
          repaired = clean;
          changes = job_with_zeros planned.head bare zeros;
          commit = commit;
          asked = subst (IsJobFor s command (job_with_zeros planned.head bare zeros)) (known.commit
              ∙ ap commit_if
              (there_is s running clean runs command planned.head bare zeros asks)) asks.asked;
          claimed = claimed;
          clusters = least;
          one_each = one_each;
          list = replacing_of planned old ∷ [];
          laid = (
            record {
              head = refl;
              new = ap (λ (m : Meta). Some m) new_is;
              chain = chain_is makes planned.head old (s.chains planned.head) was chain;
              unerased = λ made. unerased (was ∙ ap not made);
              planned =
                  record {
                    needs = is.needs;
                    least = is.least;
                    packed = is.packed;
                    places = is.places;
                    says = is.planned;
                  };
              clusters = subst (λ (m : Meta). MovesClusters s.super s.base (with_entry s.base planned.head m)
                  planned.effects.freed claimed) (sym new_is)
                  (subst (λ l. MovesClusters s.super s.base (with_entry s.base planned.head filled) l claimed)
                  (sym effects.freed)
                  (moves_filled s running clean runs command planned.head bare zeros asks claimed least one_each));
            },
            tt,
          );
          next =
              ap (λ (r : Row). state_of d (record p {
                rows = slice_set p.rows channel r;
                pages = pages;
                clusters = clusters;
                job = Some (marked p.clean (begun_job serves planned old cluster_pages []));
              })) (ap (λ (r : Row). record r { stage = InJob }) posted.waits.row)
              ∙ ap (λ (rows : Rows). with_job rows (begun_job serves planned old cluster_pages []) pages clusters)
              (rows_set p.rows channel in_job low)
              ∙ ap (λ (n : ℕ). with_job rows_then (begun_job serves planned old n []) pages clusters) each
              ∙ ap (λ (l : List ℕ). with_job rows_then (todo_with l (commit_in planned)) pages clusters)
              (from_start (cluster_pages_of p.super) claimed)
              ∙ ap (λ (o : Option Committing). with_job rows_then
              (todo_with (pages_of (cluster_pages_of p.super) claimed) o) pages clusters)
              effects.commit
              ∙ ap (with_job rows_then (todo_with (pages_of (cluster_pages_of p.super) claimed)
              (Some commit)) pages) set
              ∙ ap (λ (bits : List Bool). with_job rows_then
              (todo_with (pages_of (cluster_pages_of p.super) claimed) (Some commit)) bits
              (all_set p.clusters claimed true))
              (is.taken ∙ ap (λ l. all_set p.pages l true)
              (sym (append-nil (taken_for makes planned.head (drop 1 planned.chain)))));
        }
      where
        rows_then : Rows
        rows_then = with_row s.rows channel in_job

        chain_is : (makes : Bool) (head : ℕ) (old : List ℕ) (o : Option (List ℕ)) → is_some o ≡ not makes
            → (is_some o ≡ true → o ≡ Some (head ∷ old)) → o ≡ (if makes then None else Some (head ∷ old))
        chain_is true head old None was is = refl
        chain_is true head old (Some chain) was is = absurd (cc was)
        chain_is false head old o was is = is was

  refused_here : p.filling ≢ Some channel → (reply : Reply) → IsRefusedAtBegin s command reply → (new : StoreView D)
      → ((k : Command) (ks : List Command) → (rows_of p.rows channel).left ≡ k ∷ ks
      → new ≡ logged_at p channel k ks reply (d.clock new.disk))
      → Refuses s (state_of d new) × (new.disk ≡ p.disk)
  refused_here unfilled reply why new entry =
      let is = entry command rest (ap (λ (r : Row). r.left) posted.waits.row) in (
        record {
          posted = is_posted;
          runs = runs;
          unfilled = unfilled;
          reply = reply;
          why = why;
          next = entered d p new channel command rest reply low is;
        },
        disk_same d p new channel command rest reply low is,
      )

  -- the store is logged on as it was
  pub refused : p.filling ≢ Some channel → (reply : Reply) → IsRefusedAtBegin s command reply
      → (same new : StoreView D) → same ≡ p
      → ((k : Command) (ks : List Command) → (rows_of same.rows channel).left ≡ k ∷ ks
      → new ≡ logged_at same channel k ks reply (d.clock new.disk))
      → Refuses s (state_of d new) × (new.disk ≡ p.disk)
  refused unfilled reply why same new is entry = refused_here unfilled reply why new (λ k ks left.
      subst (λ (o : StoreView D). new ≡ logged_at o channel k ks reply (d.clock new.disk)) is
      (entry k ks (subst (λ (o : StoreView D). (rows_of o.rows channel).left ≡ k ∷ ks) (sym is) left)))
