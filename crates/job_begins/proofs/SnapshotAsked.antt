-- What is known where a snapshot is asked for, before its job begins.
use Rattle.std.proofs.Common.{◌≡◌, ◌≢◌, ◌∙◌, ℕ, ◌<◌, List, [], ◌∷◌, length, None, Some, refl, sym, ap, subst}
use Rattle.std.proofs.Common.{arith}
use Rattle.std.specs.Prelude.{codes}
use Rattle.volume_model.specs.Volumes.{two_xattrs}
use Rattle.volume_model.specs.Xattrs.{Xattrs}
use Rattle.volume_model.specs.declared.command.Command.{Command}
use Rattle.volume_model.specs.declared.reply.Reply.TheVariants as r
use Rattle.blob_meta.specs.declared.job.Job.{Job}
use Rattle.blob_meta.specs.declared.job.Replacement.{Replacement}
use Rattle.blob_meta.specs.declared.meta.Meta.{Meta}
use Rattle.blob_meta.specs.Repairs.{HasNoMarks}
use Rattle.blob_meta.specs.Resolving.{without_marks}
use Rattle.inflate_delete.specs.DeletePlans.{IsJobBeside}
use Rattle.snapshots.specs.SnapshotJobs.{begun_snapshot, emptied_volume, filled_snapshot, snapshot_job}
use Rattle.shown_volumes.specs.ShowsStep.{IsAtRest}
use Rattle.shown_volumes.specs.StoredLaws.{AreStoredWell, IsStoredWell}
use Rattle.shown_volumes.proofs.GoodMarks.{named_good}
use Rattle.shown_volumes.proofs.StoredJobs.{jobs_stored}
use Rattle.shown_volumes.proofs.WellStored.{meets_tests}
use Rattle.store_model.specs.Asking.{clones, creates, deletes, fills, IsJobFor, IsSnapshotJob, resizes, snapshots}
use Rattle.store_model.specs.Asking.{syncs}
use Rattle.store_model.specs.Phases.{Committing}
use Rattle.store_model.specs.RunInvariant.{CanBeWritten, RunsWell}
use Rattle.store_model.specs.Shown.{fixed_of}
use Rattle.store_model.specs.Steady.{IsStored}
use Rattle.store_model.specs.StoreState.{shown, StoreState}
use Rattle.store_model.proofs.FamilyStep.{at_rest, few_heads}
use Rattle.store_model.proofs.Known.{Known}
use Rattle.store_model.proofs.NewBlob.{two_written}
use Rattle.store_model.proofs.OneReplacement.{base_steady}
use Rattle.running_store.specs.RunningState.{IsRunning}
use Rattle.job_begins.specs.Snapshots.{AsksToSnapshot}
use Rattle.job_begins.specs.declared.asking.SnapshotAsk.{SnapshotAsk}
use Rattle.job_begins.proofs.JobPlanned.{given}

-- ---- a job of four replacements

-- of all jobs that commands ask for a snapshot's alone has four
with_four : (p : StoreState) (command : Command) (job : Job) (commit : Committing) → IsJobFor p command job commit
    → length job.list ≡ 4 → IsSnapshotJob p command job commit
with_four p command job commit (syncs y) four =
    absurd (let one : length job.list ≡ 1 = ap (λ (j : Job). length j.list) y.is in omega (arith, four, one))
with_four p command job commit (creates y) four =
    absurd (let one : length job.list ≡ 1 = ap (λ (j : Job). length j.list) y.is in omega (arith, four, one))
with_four p command job commit (resizes y) four =
    absurd (let one : length job.list ≡ 1 = ap (λ (j : Job). length j.list) y.is in omega (arith, four, one))
with_four p command job commit (clones y) four =
    absurd (let one : length job.list ≡ 1 = ap (λ (j : Job). length j.list) y.is in omega (arith, four, one))
with_four p command job commit (fills y) four =
    absurd (let one : length job.list ≡ 1 = ap (λ (j : Job). length j.list) y.is in omega (arith, four, one))
with_four p command job commit (snapshots y) four = y
with_four p command job commit (deletes y) four = absurd (by y.clones y.is)
  where
    by : (clones_of : List ℕ) → IsJobBeside p.base y.of y.old clones_of job → ⊥
    by [] is = let one : length job.list ≡ 1 = ap (λ (j : Job). length j.list) is in omega (arith, four, one)
    by (clone ∷ []) is =
        let three : length job.list ≡ 3 = ap (λ (j : Job). length j.list) is.2 in omega (arith, four, three)
    by (clone ∷ other ∷ rest) is = is

-- two lists of four are the same
record AreSameFour (a b c d e f g h : Replacement) : Type 0 where
  pub first : a ≡ e
  pub second : b ≡ f
  pub third : c ≡ g
  pub fourth : d ≡ h

same_four : (a b c d e f g h : Replacement) → a ∷ b ∷ c ∷ d ∷ [] ≡ e ∷ f ∷ g ∷ h ∷ [] → AreSameFour a b c d e f g h
same_four a b c d e f g h is = record { first = cc is; second = cc is; third = cc is; fourth = cc is }

-- and so are a replacement's head and its metadata
same_head : (h k : ℕ) (m n : Meta) → given h (Some m) ≡ given k (Some n) → h ≡ k
same_head h k m n is = ap (λ (x : Replacement). x.head) is

same_new : (h k : ℕ) (m n : Meta) → given h (Some m) ≡ given k (Some n) → m ≡ n
same_new h k m n is = let news : Some m ≡ Some n = ap (λ (x : Replacement). x.new) is in cc news

-- ---- a snapshot

-- the attributes of a blob can be written
abbrev pub CanAllBeWritten : Meta → Type 0
CanAllBeWritten m = CanBeWritten m.xattrs × CanBeWritten m.internal

module _ (p : StoreState) (running : IsRunning p) (clean : HasNoMarks p.base) (runs : p.stopped ≡ None)
    (no_job : p.job ≡ None) (command : Command) (x : SnapshotAsk) (asks : AsksToSnapshot p command x) where
  -- The volume is there, no blob is at the head, and the four replacements are those of the job. What they write can be
  -- stored, wherever the head is in the region.
  pub record IsSnapshotAsked : Type 0 where
    pub old : Meta
    pub there : p.base x.of ≡ Some old
    pub none : p.base x.head ≡ None
    pub apart : x.of ≢ x.head
    pub xattrs : Xattrs
    pub begun : x.begun ≡ begun_snapshot x.of old x.head xattrs
    pub filled : x.filled ≡ filled_snapshot x.of old x.head xattrs
    pub emptied : x.emptied ≡ emptied_volume old x.head
    pub made : x.made ≡ without_marks (filled_snapshot x.of old x.head xattrs)
    pub job : asks.job ≡ snapshot_job x.of old x.head xattrs
    pub commit : asks.commit ≡ record {
      reply = r.Made x.head;
      live = Some (record { head = x.head; xattrs = Some xattrs });
      renews = x.of ∷ x.head ∷ [];
    }
    pub rest : IsAtRest (fixed_of p.super) p.base
    pub chain : (behind : List ℕ) × (p.chains x.of ≡ Some (x.of ∷ behind))
    pub no_chain : p.chains x.head ≡ None
    pub begun_can : CanAllBeWritten x.begun
    pub filled_can : CanAllBeWritten x.filled
    pub emptied_can : CanAllBeWritten x.emptied
    pub made_can : CanAllBeWritten x.made
    pub stored : x.head < p.super.md_len
        → IsStored p.super x.head x.begun
        × (IsStored p.super x.head x.filled × (IsStored p.super x.of x.emptied × IsStored p.super x.head x.made))

  abbrev known : Known
  known = record {
    s = running.store;
    placed = running.placed;
    first = running.first;
    script = running.script;
    p = p;
    facts = running.facts;
  }

  well : RunsWell running.first p
  well = running.facts.well runs

  -- ---- of which blobs

  asked : IsSnapshotJob p command asks.job asks.commit
  asked = with_four p command asks.job asks.commit asks.asked (ap (λ (l : List Replacement). length l) asks.changes)

  abbrev named_so : Xattrs
  named_so = two_xattrs (fixed_of p.super) (shown p) asked.name None

  abbrev volume : Meta
  volume = asked.old

  abbrev first_as : ℕ → ℕ → Meta
  first_as of head = begun_snapshot of volume head named_so

  abbrev second_as : ℕ → ℕ → Meta
  second_as of head = filled_snapshot of volume head named_so

  replaced_same : AreSameFour
      (given asked.head (Some (first_as asked.of asked.head))) (given asked.head (Some (second_as asked.of asked.head)))
      (given asked.of (Some (emptied_volume volume asked.head)))
      (given asked.head (Some (without_marks (second_as asked.of asked.head))))
      (given x.head (Some x.begun)) (given x.head (Some x.filled)) (given x.of (Some x.emptied))
      (given x.head (Some x.made))
  replaced_same = same_four _ _ _ _ _ _ _ _ (sym (ap (λ (j : Job). j.list) asked.is) ∙ asks.changes)

  head_is : asked.head ≡ x.head
  head_is = same_head _ _ _ _ replaced_same.first

  of_is : asked.of ≡ x.of
  of_is = same_head _ _ _ _ replaced_same.third

  -- what is made of the two blobs is made of these
  moved : {A : Type 0} (f : ℕ → ℕ → A) → f asked.of asked.head ≡ f x.of x.head
  moved f = ap (λ (of : ℕ). f of asked.head) of_is ∙ ap (f x.of) head_is

  there_of : p.base x.of ≡ Some volume
  there_of = sym (ap p.base of_is) ∙ asked.there

  none_at : p.base x.head ≡ None
  none_at = sym (ap p.base head_is) ∙ asked.none

  -- ---- what they write

  begun_is : x.begun ≡ first_as x.of x.head
  begun_is = sym (same_new _ _ _ _ replaced_same.first) ∙ moved first_as

  filled_is : x.filled ≡ second_as x.of x.head
  filled_is = sym (same_new _ _ _ _ replaced_same.second) ∙ moved second_as

  emptied_is : x.emptied ≡ emptied_volume volume x.head
  emptied_is = sym (same_new _ _ _ _ replaced_same.third) ∙ ap (emptied_volume volume) head_is

  made_is : x.made ≡ without_marks (second_as x.of x.head)
  made_is = sym (same_new _ _ _ _ replaced_same.fourth) ∙ moved (λ of head. without_marks (second_as of head))

  -- the volume is stored well,
  was : IsStoredWell p.super x.of volume
  was = let steady = base_steady known clean x.of volume there_of in
      record { stored = steady.stored; named = steady.named }

  -- and so is what is written at a head of the region
  stored_at : (head : ℕ) → head < p.super.md_len → AreStoredWell p.super (snapshot_job x.of volume head named_so)
  stored_at head low = (jobs_stored p.super).snapshot x.of head volume named_so was low
      (two_written (fixed_of p.super) (shown p) asked.name None asked.named) (few_heads known clean)

  can_of : (head : ℕ) (m : Meta) → IsStored p.super head m → CanAllBeWritten m
  can_of head m stored = (stored.xattrs, stored.internal)

  -- what is written at the volume's own place has the same attributes
  begun_at : IsStored p.super x.of (first_as x.of x.of)
  begun_at = ((stored_at x.of was.stored.low).0 (first_as x.of x.of) refl).stored

  filled_at : IsStored p.super x.of (second_as x.of x.of)
  filled_at = ((stored_at x.of was.stored.low).1.0 (second_as x.of x.of) refl).stored

  made_at : IsStored p.super x.of (without_marks (second_as x.of x.of))
  made_at = ((stored_at x.of was.stored.low).1.1.1.0 (without_marks (second_as x.of x.of)) refl).stored

  -- ---- where they stand

  volume_chain : (behind : List ℕ) × (p.chains x.of ≡ Some (x.of ∷ behind))
  volume_chain = well.chains.chain x.of volume there_of

  -- what is known of it
  pub snapshot_asked : IsSnapshotAsked
  snapshot_asked = record {
    old = volume;
    there = there_of;
    none = none_at;
    apart = λ e. let bad : None ≡ Some volume = sym none_at ∙ ap p.base (sym e) ∙ there_of in cc bad;
    xattrs = named_so;
    begun = begun_is;
    filled = filled_is;
    emptied = emptied_is;
    made = made_is;
    job = asked.is ∙ moved (λ of head. snapshot_job of volume head named_so);
    commit = asked.commit_is ∙ moved (λ of head. record {
      reply = r.Made head;
      live = Some (record { head = head; xattrs = Some named_so });
      renews = of ∷ head ∷ [];
    });
    rest = at_rest known clean;
    chain = volume_chain;
    no_chain = well.chains.none x.head none_at;
    begun_can = subst CanAllBeWritten (sym begun_is) (begun_at.xattrs, begun_at.internal);
    filled_can = subst CanAllBeWritten (sym filled_is) (filled_at.xattrs, filled_at.internal);
    emptied_can = subst CanAllBeWritten (sym emptied_is) (
      was.stored.xattrs,
      (named_good volume.internal (codes "SNAP") x.head (omega arith)
          (meets_tests p.super x.of volume was).internal).can,
    );
    made_can = subst CanAllBeWritten (sym made_is) (made_at.xattrs, made_at.internal);
    stored = λ low. let at = stored_at x.head low in (
      subst (IsStored p.super x.head) (sym begun_is) (at.0 (first_as x.of x.head) refl).stored,
      (
        subst (IsStored p.super x.head) (sym filled_is) (at.1.0 (second_as x.of x.head) refl).stored,
        (
          subst (IsStored p.super x.of) (sym emptied_is) (at.1.1.0 (emptied_volume volume x.head) refl).stored,
          subst (IsStored p.super x.head) (sym made_is)
              (at.1.1.1.0 (without_marks (second_as x.of x.head)) refl).stored,
        ),
      ),
    );
  }
