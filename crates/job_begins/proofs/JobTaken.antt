-- A job for the posted command of a channel, while its pages and clusters are taken.
use Rattle.std.proofs.Common.{◌≡◌, ℕ, ◌<◌, ◌≤◌, All, Bool, true, false, List, [], length, Option, Some, None}
use Rattle.std.proofs.Common.{IfErr, IfSome, Result, refl, sym, ap, ◌∙◌, subst, arith, inl, inr}
use Rattle.std.specs.Prelude.{if◌then◌else◌, is_some, not, slice_set}
use Rattle.std.specs.Result.{IsErrAnd}
use Rattle.page_disk.specs.declared.disk.PageDisk.{Ghosts}
use Rattle.bit_array.specs.Bits.{is_in}
use Rattle.pools.specs.Pool.{clear_in}
use Rattle.super_block.specs.Numbers.{cluster_pages_of}
use Rattle.volume_model.specs.declared.command.Command.{Command}
use Rattle.volume_model.specs.declared.reply.Reply.{Reply}
use Rattle.volume_model.specs.declared.reply.Reply.TheVariants.{Memory}
use Rattle.blob_meta.specs.declared.meta.Meta.{Meta}
use Rattle.blob_meta.specs.Resolving.{mark_of}
use Rattle.md_chain.specs.Packing.{FitsPage}
use Rattle.store_model.specs.Cases.{Begins, IsRefusedAtBegin}
use Rattle.store_model.specs.Jobs.{with_clusters, AreForZeros}
use Rattle.store_model.specs.Steady.{CanBeWritten}
use Rattle.store_model.specs.Places.{all_set, AreDistinct}
use Rattle.store_model.specs.Rows.{InJob, Row}
use Rattle.store_model.specs.StoreState.{JobState, marked, shown, StoreState}
use Rattle.store_model.proofs.ZeroSlots.{zeroed_rest}
use Rattle.running_store.specs.Jobs.{begun_job, job_seen}
use Rattle.running_store.specs.Running.{view_of}
use Rattle.running_store.specs.declared.running.Running.{Running}
use Rattle.job_begins.specs.JobBegins.{CanBegin}
use Rattle.job_begins.specs.Begins.{planned_with, with_begun, AsksToWrite, HasChain, IsFreshHead, IsPrepared}
use Rattle.job_begins.specs.Begins.{IsUnprepared, job_with_zeros}
use Rattle.running_store.specs.Effects.{cut_clusters, AreEffects}
use Rattle.running_store.specs.Blobs.{metas_given, shows_of, Blobs, CanBeKept, HasPlaces}
use Rattle.running_store.specs.Places.{HasPlace, HasPlaceFor}
use Rattle.running_store.specs.StoreView.{StoreView, rows_of, state_of}
use Rattle.running_store.specs.Steps.{Asks}
use Rattle.running_store.specs.declared.effects.Effects.{Effects}
use Rattle.running_store.specs.declared.entries.EntryChange.{EntryChange}
use Rattle.running_store.specs.declared.job.Serves.TheVariants as whom
use Rattle.running_store.specs.declared.replacements.Change.TheVariants as change
use Rattle.running_store.specs.declared.job.RunningJob.{RunningJob}
use Rattle.job_begins.specs.declared.preparing.Prepared.{Prepared}
use Rattle.store_model.specs.Shown.{fixed_of}
use Rattle.job_begins.proofs.BeginKnown.{has_row, no_job}
use Rattle.job_begins.proofs.Lacking.{may_lack}
use Rattle.job_begins.proofs.JobAsked.{asked, IsAsked}
use Rattle.job_begins.proofs.JobPrepared.{first_in_use, has_chain, ready, there_is, unmarked, zeros_within}
use Rattle.job_begins.proofs.JobPlanned.{all_fit}
use Rattle.job_begins.proofs.JobBegin.{begun, why_unprepared}
use Rattle.job_begins.proofs.PassedOn.{passed_on}
use Rattle.job_begins.proofs.SlotsOfZeros.{with_none}
use Rattle.running_store.proofs.KeptAlone.{kept_unmarked}
use Rattle.job_views.specs.Replacing.{blobs_in}

-- a new blob isn't there
pub was_there : (makes there : Bool) → makes ≡ not there → there ≡ not makes
was_there makes true is = sym (ap not is)
was_there makes false is = sym (ap not is)

-- with clusters in its slots it needs the same places
places_filled : (b : Blobs) (head : ℕ) (new later : Meta) (e : Effects) (claimed : List ℕ)
    → mark_of new ≡ mark_of later → shows_of e.commit ≡ None → HasPlaces b head new e
    → HasPlaces b head later (record e { claimed = claimed })
places_filled b head new later e claimed marks shows places = record {
  rooms = record {
    chain = places.rooms.chain;
    meta = subst (λ (o : Option (List ℕ)). HasPlace (if is_some o then b.marked else b.metas) head e.rooms.meta) marks
        places.rooms.meta;
  };
  commit = record {
    live_fits = places.commit.live_fits;
    shown_fits = subst (λ (o : Option (EntryChange Meta)). IfSome o (HasPlaceFor (metas_given b.metas head later)))
        (sym shows) tt;
    numbers = places.commit.numbers;
  };
}

pub none_of : {A : Type 0} (o : Option A) → is_some o ≡ false → o ≡ None
none_of None is = refl
none_of (Some x) is = absurd (cc is)

module _ {D : Type 0} {d : Ghosts D} {store : Running D} {channel : ℕ} (can : CanBegin d store channel)
    {head : ℕ} {new : Meta} {zeros : List ℕ}
    (asks_it : Asks (view_of store) channel
    (λ command. AsksToWrite (state_of d (view_of store)) command head new zeros)) where
  abbrev p : StoreView D
  p = view_of store

  abbrev s : StoreState
  s = state_of d p

  abbrev command : Command
  command = can.posted.waits.command

  asks : AsksToWrite s command head new zeros
  asks = asks_it command can.posted.waits.rest (ap (λ (r : Row). r.left) can.posted.waits.row)

  known : IsAsked s can.running can.unmarked can.runs command head new zeros asks (s.base head)
  known = asked s can.running can.unmarked can.runs command head new zeros asks

  pub slots_within : All (λ i. i < length new.map) zeros
  slots_within = zeros_within s can.running can.unmarked can.runs command head new zeros asks

  pub first_cluster : is_in p.clusters 0 ≡ true
  first_cluster = first_in_use s can.running can.unmarked can.runs command head new zeros asks

  pub once : AreDistinct (cut_clusters (s.base head) new)
  once = known.once

  -- memory may always be wanting
  no_memory : Asks p channel (λ k. IsRefusedAtBegin s k Memory)
  no_memory k ks left =
      let it = asks_it k ks left in
      may_lack (fixed_of s.super) (shown s) s k (job_with_zeros head new zeros) it.commit it.asked

  -- so that a call may pass that on
  pub lacks_memory : {T : Type 0} (x : Result T Reply) → IsErrAnd x (λ reply. reply ≡ Memory)
      → IfErr x (λ reply. Asks p channel (λ k. IsRefusedAtBegin s k reply))
  lacks_memory x is = passed_on x is (λ reply. Asks p channel (λ k. IsRefusedAtBegin s k reply)) no_memory

  -- ---- the blob's chain

  module _ (makes : Bool) (was : is_some (s.chains head) ≡ not makes) where
    pub has_one : makes ≡ false → HasChain p.chains head
    has_one no_room = has_chain s can.running can.unmarked can.runs command head new zeros asks (was ∙ ap not no_room)

    pub next_head : makes ≡ true → IsFreshHead p.pages head
    next_head room = asks.next (none_of (s.base head)
        (there_is s can.running can.unmarked can.runs command head new zeros asks ∙ was ∙ ap not room))

  -- ---- with clusters in its slots of zeros

  module _ {claimed : List ℕ} (claims : AreForZeros p.clusters zeros claimed) {later : Meta}
      (is : later ≡ with_clusters new zeros claimed) where
    rest_same : later ≡ record new { map = later.map }
    rest_same = subst (λ (m : Meta). m ≡ record new { map = m.map }) (sym is) (zeroed_rest new zeros claimed)

    pub xattrs_fit : All FitsPage later.xattrs
    xattrs_fit = all_fit later.xattrs
        (subst CanBeWritten (sym (ap (λ (m : Meta). m.xattrs) rest_same)) known.xattrs)

    pub internal_fit : All FitsPage later.internal
    internal_fit = all_fit later.internal
        (subst CanBeWritten (sym (ap (λ (m : Meta). m.internal) rest_same)) known.internal)

    -- all of them have one, or none has, since too few are clear
    pub as_many : length zeros ≤ length claimed → length claimed ≡ length zeros
    as_many all = elim claims.count [
      | inl same ↦ same
      | inr few ↦
          let fewer = few.1 in
          let none : length claimed ≡ 0 = ap (λ (l : List ℕ). length l) few.0 in
          omega (arith, all, none)
    ]

    pub too_few : length claimed < length zeros → (claimed ≡ []) × (clear_in p.clusters < length zeros)
    too_few less = elim claims.count [ inl same ↦ absurd (omega (arith, less, same)) | inr few ↦ few ]

    -- why the command is refused, where too few clusters are clear,
    pub lacks_clusters : length claimed < length zeros → (there : Bool) → is_some (s.chains head) ≡ there
        → (reply : Reply) → IsUnprepared true there later p.pages reply
        → Asks p channel (λ k. IsRefusedAtBegin s k reply)
    lacks_clusters less there was reply x k ks left =
        let few = too_few less in
        why_unprepared s can.running can.unmarked can.runs (no_job can) k head new zeros (asks_it k ks left) claimed
        claims true
        (λ _. (few.1, ap (with_clusters new zeros) few.0 ∙ with_none new zeros)) reply
        (subst (λ (b : Bool). IsUnprepared true b (with_clusters new zeros claimed) p.pages reply) (sym was)
        (subst (λ (m : Meta). IsUnprepared true there m p.pages reply) is x))

    -- and where enough are
    pub lacks_pages : (reply : Reply) → IsUnprepared false (is_some (s.chains head)) later p.pages reply
        → Asks p channel (λ k. IsRefusedAtBegin s k reply)
    lacks_pages reply x k ks left =
        why_unprepared s can.running can.unmarked can.runs (no_job can) k head new zeros (asks_it k ks left) claimed
        claims false
        (λ bad. absurd (cc bad)) reply
        (subst (λ (m : Meta). IsUnprepared false (is_some (s.chains head)) m p.pages reply) is x)

    -- it can be kept in memory once its metadata is written
    pub job_kept : length zeros ≤ length claimed → (e : Effects) → shows_of e.commit ≡ None
        → is_some (s.chains head) ≡ not (is_some e.rooms.chain) → HasPlaces (blobs_in p) head new e
        → (pages : List Bool) → (x : Prepared)
        → IsPrepared p.chains head later (is_some e.rooms.chain) p.pages pages x
        → CanBeKept (blobs_in p) (change.Writes (planned_with x head later (record e { claimed = claimed })))
    job_kept all e shows there places pages x prepared =
        let with_its : IsPrepared p.chains head (with_clusters new zeros claimed) (is_some e.rooms.chain) p.pages
        pages x = subst (λ (m : Meta). IsPrepared p.chains head m (is_some e.rooms.chain) p.pages pages x) is prepared
        in
        let no_mark : mark_of later ≡ None = subst (λ (m : Meta). mark_of m ≡ None) (sym is)
        (unmarked s can.running can.unmarked can.runs command head new zeros asks (no_job can) (is_some e.rooms.chain)
        there claimed
        claims.least (as_many all) p.chains pages x with_its) in
        let marks : mark_of new ≡ mark_of later = ap (λ (m : Meta). mark_of m) (sym rest_same) in
        kept_unmarked (blobs_in p) (planned_with x head later (record e { claimed = claimed })) can.order.resolves
        can.unmarked no_mark
        shows (places_filled (blobs_in p) head new later e claimed marks shows places)

    -- the job begins, once all that it needs is taken
    pub job_begins : length zeros ≤ length claimed
        → (e : Effects) → AreEffects (is_some (s.chains head)) head (s.base head) command (s.live head) new [] e
        → (pages clusters : List Bool) → clusters ≡ all_set p.clusters claimed true → (x : Prepared)
        → IsPrepared p.chains head later (is_some e.rooms.chain) p.pages pages x → (cluster_pages : ℕ)
        → cluster_pages ≡ cluster_pages_of p.super → (job : RunningJob)
        → job_seen job
        ≡ begun_job (whom.Command channel None) (planned_with x head later (record e { claimed = claimed }))
        x.old cluster_pages []
        → Begins s (state_of d (with_begun (record p { pages = pages; clusters = clusters }) channel job))
    job_begins all e effects pages clusters set x prepared cluster_pages each job seen =
        let one_each = as_many all in
        let there = was_there (is_some e.rooms.chain) (is_some (s.chains head)) effects.makes in
        let with_its : IsPrepared p.chains head (with_clusters new zeros claimed) (is_some e.rooms.chain) p.pages
        pages x = subst (λ (m : Meta). IsPrepared p.chains head m (is_some e.rooms.chain) p.pages pages x) is prepared
        in
        let begins = begun d p channel (has_row can) can.posted can.runs can.running can.unmarked (no_job can)
        (planned_with x head later (record e { claimed = claimed })) x.old new zeros asks can.unfilled
        (record {
          commit = effects.commit;
          shows = effects.shows;
          makes = effects.makes;
          freed = effects.freed;
          claimed = refl;
        }) claims.least one_each is cluster_pages each there with_its.behind
        (λ no. with_its.none_behind (none_of (s.chains head) no)) pages clusters set
        (ready s can.running can.unmarked can.runs command head new zeros asks (no_job can) (is_some e.rooms.chain)
        there claimed
        claims.least one_each p.chains pages x with_its) in
        subst (λ (j : JobState). Begins s (state_of d (record p {
          rows = slice_set p.rows channel (record (rows_of p.rows channel) { stage = InJob });
          pages = pages;
          clusters = clusters;
          job = Some (marked p.clean j);
        }))) (sym seen) begins
