-- What is known of a job that a command asks for, before it begins.
use Rattle.std.proofs.Common.{◌≡◌, ℕ, ◌<◌, Bool, true, false, List, [], length, drop}
use Rattle.std.proofs.Common.{Option, Some, None, refl, sym, ◌∙◌, ap, subst, arith}
use Rattle.std.specs.Prelude.{◌||◌, codes, is_some, nat_lt}
use Rattle.std.proofs.lemmas.List.{take_all}
use Rattle.std.proofs.lemmas.Bool.Decides.{nat_tests}
use Rattle.super_block.specs.declared.page.Super.{Super}
use Rattle.volume_model.specs.Xattrs.{Xattrs}
use Rattle.volume_model.specs.Volumes.{two_xattrs}
use Rattle.volume_model.specs.declared.command.Command.{Command}
use Rattle.volume_model.specs.declared.command.VolumeRef.{VolumeRef}
use Rattle.blob_meta.specs.declared.meta.Meta.{Meta}
use Rattle.blob_meta.specs.declared.job.Job.{Job}
use Rattle.blob_meta.specs.Jobs.{create_job, job_of_one, new_meta, resize_job, resized_meta}
use Rattle.blob_meta.specs.Faults.{clusters_held}
use Rattle.blob_meta.specs.Parents.{slot}
use Rattle.blob_meta.specs.Repairs.{HasNoMarks}
use Rattle.blob_meta.specs.Resolving.{mark_of}
use Rattle.store_model.specs.Maps.{with_entry}
use Rattle.store_model.specs.Shown.{fixed_of}
use Rattle.store_model.specs.StoreState.{StoreState, shown}
use Rattle.store_model.specs.Places.{AreDistinct, AreLeastClear}
use Rattle.store_model.specs.Jobs.{with_clusters, MovesClusters}
use Rattle.store_model.specs.Asking.{AsksFor, clones, creates, deletes, fills, IsJobFor, resizes, snapshots}
use Rattle.store_model.specs.Asking.{syncs}
use Rattle.inflate_delete.specs.FillJobs.{fill_job, filled_blob}
use Rattle.inflate_delete.specs.Fills.{command_of, parent_blob}
use Rattle.inflate_delete.specs.declared.filling.FillKind.{FillKind}
use Rattle.inflate_delete.specs.declared.filling.FillKind.TheVariants.{Inflate, Decouple}
use Rattle.snapshots.specs.SnapshotJobs.{clone_job, new_clone, snapshot_job}
use Rattle.shown_volumes.proofs.GoodMarks.{named_good}
use Rattle.shown_volumes.proofs.Valued.{mark_given, mark_named, mark_without}
use Rattle.shown_volumes.specs.StoredLaws.{IsStoredWell}
use Rattle.store_model.specs.RunInvariant.{CanBeWritten, IsSteady, RunsWell}
use Rattle.store_model.proofs.JobWritable.{job_writable}
use Rattle.store_model.proofs.Cut.{cut, is_cut as is_taken, length_cut}
use Rattle.store_model.proofs.OneReplacement.{base_lawful, base_steady}
use Rattle.store_model.proofs.Known.{Known}
use Rattle.store_model.proofs.NewBlob.{empty_slot, two_written}
use Rattle.job_begins.specs.Begins.{job_with_zeros, AsksToWrite}
use Rattle.running_store.specs.Effects.{commit_by, cut_clusters, is_renewed, live_behind, takes_parent}
use Rattle.running_store.specs.RunningState.{IsRunning}
use Rattle.job_begins.proofs.CutClusters.{cut_moves, cut_once}
use Rattle.job_begins.proofs.LiveBehind.{syncing_stays, synced_live}
use Rattle.job_begins.proofs.SlotsOfZeros.{filled_map, with_none}
use Rattle.job_begins.proofs.JobPlanned.{many_replace, moves_made, none_deletes, same_one}

-- a map of all its slots
whole_cut : (map : List (Option ℕ)) → cut map (length map) None ≡ map
whole_cut map = is_taken map (length map) None (omega arith) ∙ take_all (length map) map (omega arith)

-- the end of a fill leaves the mark
filled_marks : (kind : FillKind) (old : Meta) (parent : Option Meta)
    → mark_of (filled_blob kind old parent) ≡ mark_of old
filled_marks Inflate old parent = mark_without old.internal
filled_marks Decouple old None = mark_without old.internal
filled_marks Decouple old (Some parent) = mark_given old.internal parent

ltb-irrefl : (n : ℕ) → nat_lt n n ≡ false
ltb-irrefl n = grind (arith, nat_tests)

module _ (p : StoreState) (running : IsRunning p) (clean : HasNoMarks p.base) (runs : p.stopped ≡ None)
    (command : Command) (head : ℕ) (new : Meta)
    (zeros : List ℕ) (asks : AsksToWrite p command head new zeros) where
  abbrev pub known : Known
  known = record {
    s = running.store;
    placed = running.placed;
    first = running.first;
    script = running.script;
    p = p;
    facts = running.facts;
  }

  well : RunsWell running.first p
  well = running.facts.well runs

  -- with clusters in its slots of zeros it can be stored
  pub stored_well : (claimed : List ℕ) → AreLeastClear p.clusters claimed → length claimed ≡ length zeros
      → head < p.super.md_len → IsStoredWell p.super head (with_clusters new zeros claimed)
  stored_well claimed least one_each low =
      subst (λ s. IsStoredWell s head (with_clusters new zeros claimed)) (sym running.facts.super)
      ((job_writable known clean runs command asks.commit claimed least (job_with_zeros head new zeros) asks.asked
      one_each (subst (λ (s : Super). head < s.md_len) running.facts.super low, tt)).0
      (with_clusters new zeros claimed) refl)

  there_low : (m : Meta) → p.base head ≡ Some m → head < p.super.md_len
  there_low m there = subst (λ (s : Super). head < s.md_len) (sym running.facts.super)
      (running.facts.stored head m there).low

  was_there : (m : Meta) → p.base head ≡ Some m → IsSteady p.super head m
  was_there m there = base_steady known clean head m there

  -- what is known of it, whichever verb asks
  pub record IsAsked (before : Option Meta) : Type 0 where
    pub commit : asks.commit
        ≡ commit_by (is_some before) head (is_renewed command before new) (live_behind command (p.live head) new)
    pub xattrs : CanBeWritten new.xattrs
    pub internal : CanBeWritten new.internal
    pub unmarked : mark_of new ≡ None
    pub once : AreDistinct (cut_clusters before new)
    pub moves : MovesClusters p.super p.base (with_entry p.base head new) (cut_clusters before new) []

  -- behind a verb that syncs its attributes are read as it makes them
  live_synced : (live : Xattrs) → AsksFor p command head new live → live_behind command (p.live head) new ≡ Some live
  live_synced live asks = synced_live p well.live well.no_live command head new live asks

  -- of a blob that is there, with its slots cut or others added
  asked_there : (old : Meta) → p.base head ≡ Some old → (slots : ℕ) → new.map ≡ cut old.map slots None
      → CanBeWritten new.xattrs → CanBeWritten new.internal → mark_of new ≡ None
      → asks.commit ≡ commit_by true head (takes_parent command || nat_lt slots (length old.map))
      (live_behind command (p.live head) new) → IsAsked (Some old)
  asked_there old there slots map_is xattrs internal unmarked commit =
      let long : length new.map ≡ slots = ap (λ (l : List (Option ℕ)). length l) map_is
      ∙ length_cut {X = Option ℕ} old.map slots None in
      let was = was_there old there in
      let lawful = base_lawful known clean in
      record {
        commit = commit ∙ ap (λ n. commit_by true head (takes_parent command || nat_lt n (length old.map))
            (live_behind command (p.live head) new)) (sym long);
        xattrs = xattrs;
        internal = internal;
        unmarked = unmarked;
        once = subst (λ n. AreDistinct (clusters_held (drop n old.map))) (sym long)
            (cut_once p.super p.base head old new slots there lawful was map_is);
        moves = subst
            (λ n. MovesClusters p.super p.base (with_entry p.base head new) (clusters_held (drop n old.map)) [])
            (sym long) (cut_moves p.super p.base head old new slots there lawful was map_is);
      }

  -- of one whose internal attributes stay
  asked_kept : (old : Meta) → p.base head ≡ Some old → (slots : ℕ) → new.map ≡ cut old.map slots None
      → CanBeWritten new.xattrs → new.internal ≡ old.internal
      → asks.commit ≡ commit_by true head (takes_parent command || nat_lt slots (length old.map))
      (live_behind command (p.live head) new) → IsAsked (Some old)
  asked_kept old there slots map_is xattrs internal commit =
      let was = was_there old there in
      asked_there old there slots map_is xattrs (subst CanBeWritten (sym internal) was.stored.internal)
      (subst (λ l. mark_of (record new { internal = l }) ≡ None) (sym internal) was.unmarked) commit

  -- without clusters in its slots it can be stored as it is
  bare_stored : zeros ≡ [] → head < p.super.md_len → IsStoredWell p.super head new
  bare_stored none low = subst (IsStoredWell p.super head) (with_none new zeros)
      (stored_well [] tt (sym (ap (λ (l : List ℕ). length l) none)) low)

  asked_by : IsJobFor p command (job_with_zeros head new zeros) asks.commit → IsAsked (p.base head)
  asked_by (syncs y) =
      let same = same_one head y.head new y.new zeros (job_of_one y.head y.new) y.is refl in
      let mine : AsksFor p command head new y.live = subst (λ h. AsksFor p command h new y.live) (sym same.head_is)
      (subst (λ (m : Meta). AsksFor p command y.head m y.live) (sym same.new_is) y.asks) in
      let kept : new.map ≡ cut mine.old.map (length mine.old.map) None =
      ap (λ (m : Meta). m.map) mine.new_is ∙ sym (whole_cut mine.old.map) in
      subst IsAsked (sym mine.there) (asked_kept mine.old mine.there (length mine.old.map) kept
      (bare_stored (ap (λ (j : Job). j.zero) y.is) (there_low mine.old mine.there)).stored.xattrs
      (ap (λ (m : Meta). m.internal) mine.new_is)
      (y.commit_is
      ∙ ap (λ (h : ℕ). commit_by true h false (Some y.live)) (sym same.head_is)
      ∙ ap (λ (b : Bool). commit_by true head b (Some y.live)) (sym (ltb-irrefl (length mine.old.map)))
      ∙ ap (λ (b : Bool). commit_by true head (b || nat_lt (length mine.old.map) (length mine.old.map)) (Some y.live))
      (sym (syncing_stays command mine.syncing))
      ∙ ap (λ (o : Option Xattrs). commit_by true head
      (takes_parent command || nat_lt (length mine.old.map) (length mine.old.map)) o) (sym (live_synced y.live mine))))
  asked_by (creates y) =
      let xattrs = two_xattrs (fixed_of p.super) (shown p) y.name y.uuid in
      let made = new_meta y.head xattrs y.thick y.slots in
      let same = same_one head y.head new made zeros (create_job y.head xattrs y.thick y.slots) y.is refl in
      let none : p.base head ≡ None = ap p.base same.head_is ∙ y.none in
      subst IsAsked (sym none) (record {
        commit = y.commit_is
            ∙ ap (λ (h : ℕ). commit_by false h false (Some xattrs)) (sym same.head_is)
            ∙ ap (λ (m : Meta). commit_by false head false (Some m.xattrs)) (sym same.new_is)
            ∙ ap (λ (k : Command). commit_by false head (is_renewed k None new) (live_behind k (p.live head) new))
            (sym y.command_is);
        xattrs = subst (λ (m : Meta). CanBeWritten m.xattrs) (sym same.new_is)
            (two_written (fixed_of p.super) (shown p) y.name y.uuid y.named);
        internal = subst (λ (m : Meta). CanBeWritten m.internal) (sym same.new_is) (record { names = tt; short = tt });
        unmarked = subst (λ (m : Meta). mark_of m ≡ None) (sym same.new_is) refl;
        once = tt;
        moves = moves_made p.super p.base head new none
            (λ i. ap (λ (m : Meta). slot m i) same.new_is ∙ empty_slot y.slots i);
      })
  asked_by (resizes y) =
      let made = resized_meta y.old y.slots in
      let same = same_one head y.head new made zeros (resize_job y.head y.old y.slots) y.is refl in
      let there : p.base head ≡ Some y.old = ap p.base same.head_is ∙ y.there in
      subst IsAsked (sym there) (asked_kept y.old there y.slots (ap (λ (m : Meta). m.map) same.new_is)
      (subst (λ (m : Meta). CanBeWritten m.xattrs) (sym same.new_is) (was_there y.old there).stored.xattrs)
      (ap (λ (m : Meta). m.internal) same.new_is)
      (y.commit_is
      ∙ ap (λ h. commit_by true h (nat_lt y.slots (length y.old.map)) None) (sym same.head_is)
      ∙ ap (λ (k : Command). commit_by true head (takes_parent k || nat_lt y.slots (length y.old.map))
      (live_behind k (p.live head) new)) (sym y.command_is)))
  asked_by (clones y) =
      let xattrs = two_xattrs (fixed_of p.super) (shown p) y.name None in
      let made = new_clone y.of y.old y.head xattrs in
      let same = same_one head y.head new made zeros (clone_job y.of y.old y.head xattrs) y.is refl in
      let none : p.base head ≡ None = ap p.base same.head_is ∙ y.none in
      subst IsAsked (sym none) (record {
        commit = y.commit_is
            ∙ ap (λ (h : ℕ). commit_by false h false (Some xattrs)) (sym same.head_is)
            ∙ ap (λ (m : Meta). commit_by false head false (Some m.xattrs)) (sym same.new_is)
            ∙ ap (λ (k : Command). commit_by false head (is_renewed k None new) (live_behind k (p.live head) new))
            (sym y.command_is);
        xattrs = subst (λ (m : Meta). CanBeWritten m.xattrs) (sym same.new_is)
            (two_written (fixed_of p.super) (shown p) y.name None y.named);
        internal = subst (λ (m : Meta). CanBeWritten m.internal) (sym same.new_is)
            (named_good [] (codes "SNAP") y.of (omega arith)
            (record { can = record { names = tt; short = tt }; good = tt })).can;
        unmarked = subst (λ (m : Meta). mark_of m ≡ None) (sym same.new_is) (mark_named [] y.of);
        once = tt;
        moves = moves_made p.super p.base head new none
            (λ i. ap (λ (m : Meta). slot m i) same.new_is ∙ empty_slot (length y.old.map) i);
      })
  asked_by (snapshots y) = absurd (many_replace head new zeros
      (snapshot_job y.of y.old y.head (two_xattrs (fixed_of p.super) (shown p) y.name None)) y.is (omega arith))
  asked_by (deletes y) = absurd (none_deletes p.base y.of y.old head new zeros y.clones y.is)
  asked_by (fills y) =
      let made = filled_blob y.kind y.old (parent_blob p.base y.old) in
      let same = same_one head y.head new made zeros (fill_job y.kind y.head y.old (parent_blob p.base y.old)) y.is refl
      in
      let there : p.base head ≡ Some y.old = ap p.base same.head_is ∙ y.there in
      let can = bare_stored (ap (λ (j : Job). j.zero) y.is) (there_low y.old there) in
      subst IsAsked (sym there) (asked_there y.old there (length y.old.map)
      (ap (λ (m : Meta). m.map) same.new_is ∙ filled_map y.kind y.old (parent_blob p.base y.old)
      ∙ sym (whole_cut y.old.map)) can.stored.xattrs can.stored.internal
      (ap (λ (m : Meta). mark_of m) same.new_is ∙ filled_marks y.kind y.old (parent_blob p.base y.old)
      ∙ (was_there y.old there).unmarked)
      (y.commit_is
      ∙ ap (λ (h : ℕ). commit_by true h true None) (sym same.head_is)
      ∙ fills_commit y.kind y.volume (nat_lt (length y.old.map) (length y.old.map))
      ∙ ap (λ (k : Command). commit_by true head (takes_parent k || nat_lt (length y.old.map) (length y.old.map))
      (live_behind k (p.live head) new)) (sym y.command_is)))
    where
      fills_commit : (kind : FillKind) (volume : VolumeRef) (cut : Bool)
          → commit_by true head true None ≡ commit_by true head (takes_parent (command_of kind volume) || cut)
          (live_behind (command_of kind volume) (p.live head) new)
      fills_commit Inflate volume cut = refl
      fills_commit Decouple volume cut = refl

  pub asked : IsAsked (p.base head)
  asked = asked_by asks.asked
