-- The slots that are to get clusters of zeros, of a job that a command asks for.
use Rattle.std.proofs.Common.{◌≡◌, ℕ, ◌-◌, ◌<◌, ◌≤◌, Bool, true, false, List, [], ◌∷◌, length, Option, Some, None}
use Rattle.std.proofs.Common.{refl, sym, ap, ◌∙◌, subst, arith}
use Rattle.std.proofs.lemmas.List.{length-replicate}
use Rattle.volume_model.specs.declared.command.Command.{Command}
use Rattle.blob_meta.specs.declared.job.Job.{Job}
use Rattle.blob_meta.specs.declared.meta.Meta.{Meta}
use Rattle.blob_meta.specs.Faults.{is_thin}
use Rattle.blob_meta.specs.Parents.{slot}
use Rattle.blob_meta.specs.Resolving.{mark_of}
use Rattle.md_chain.specs.Chain.{is_among}
use Rattle.blob_meta.specs.Jobs.{create_job, job_of_one, new_meta, resize_job, resized_meta}
use Rattle.volume_model.specs.Volumes.{two_xattrs}
use Rattle.inflate_delete.specs.FillJobs.{fill_job, filled_blob}
use Rattle.inflate_delete.specs.Fills.{parent_blob}
use Rattle.inflate_delete.specs.declared.filling.FillKind.{FillKind}
use Rattle.inflate_delete.specs.declared.filling.FillKind.TheVariants.{Inflate, Decouple}
use Rattle.snapshots.specs.SnapshotJobs.{clone_job, new_clone, snapshot_job}
use Rattle.store_model.specs.Asking.{clones, creates, deletes, fills, resizes, snapshots, syncs, IsJobFor}
use Rattle.store_model.specs.Shown.{fixed_of}
use Rattle.store_model.specs.Inserting.{with_slot}
use Rattle.store_model.specs.Jobs.{with_clusters}
use Rattle.store_model.specs.Maps.{Metas}
use Rattle.store_model.specs.Phases.{Committing}
use Rattle.store_model.specs.Places.{AreDistinct, IsMapped}
use Rattle.store_model.specs.StoreState.{shown, StoreState}
use Rattle.store_model.proofs.CreateStep.{new_zeros}
use Rattle.store_model.proofs.Cut.{length_cut, slot_kept, slot_past, slot_was}
use Rattle.store_model.proofs.InARow.{among_range, range_differs}
use Rattle.store_model.proofs.NewBlob.{empty_slot}
use Rattle.store_model.proofs.ResizeAsked.{added_zeros}
use Rattle.store_model.proofs.ZeroSlots.{AreEmpty}
use Rattle.job_begins.specs.Begins.{job_with_zeros}
use Rattle.job_begins.proofs.JobPlanned.{many_replace, none_deletes, same_one}

-- They are empty slots of the metadata, each once, and its clusters are of maps that there are.
pub record CanBeFilled (base : Metas) (m : Meta) (slots : List ℕ) : Type 0 where
  pub distinct : AreDistinct slots
  pub empty : AreEmpty m slots
  pub had : (i c : ℕ) → slot m i ≡ Some c → IsMapped base c

-- without clusters the metadata stays
pub with_none : (m : Meta) (slots : List ℕ) → with_clusters m slots [] ≡ m
with_none m [] = refl
with_none m (x ∷ slots) = refl

-- clusters in its slots leave its mark
pub filled_mark : (m : Meta) (slots clusters : List ℕ) → mark_of (with_clusters m slots clusters) ≡ mark_of m
filled_mark m [] clusters = refl
filled_mark m (place ∷ slots) [] = refl
filled_mark m (place ∷ slots) (cluster ∷ clusters) = filled_mark (with_slot m place cluster) slots clusters

-- ---- those of a new blob

new_differ : (thick : Bool) (slots : ℕ) → AreDistinct (new_zeros thick slots)
new_differ true slots = range_differs 0 slots
new_differ false slots = tt

new_low : (thick : Bool) (slots i : ℕ) → is_among i (new_zeros thick slots) ≡ true → i < slots
new_low true slots i among = let lt = (among_range 0 slots i among).1 in omega (arith, lt)
new_low false slots i among = absurd (cc among)

-- ---- those that are added

added_differ : (thin : Bool) (len slots : ℕ) → AreDistinct (added_zeros thin len slots)
added_differ true len slots = tt
added_differ false len slots = range_differs len (slots - len)

added_lie : (thin : Bool) (len slots i : ℕ) → is_among i (added_zeros thin len slots) ≡ true → (len ≤ i) × (i < slots)
added_lie true len slots i among = absurd (cc among)
added_lie false len slots i among =
    let x = among_range len (slots - len) i among in
    let le = x.0 in
    let lt = x.1 in
    (le, omega (arith, le, lt))

-- ---- that of the end of a fill

-- the end of a fill leaves the map
pub filled_map : (kind : FillKind) (old : Meta) (parent : Option Meta) → (filled_blob kind old parent).map ≡ old.map
filled_map Inflate old parent = refl
filled_map Decouple old parent = refl

-- whichever verb asks for new metadata, its slots of zeros can be filled
module _ (p : StoreState) (command : Command) (head : ℕ) (new : Meta) (zeros : List ℕ) (commit : Committing) where
  abbrev changes : Job
  changes = job_with_zeros head new zeros

  -- as those of the metadata that the verb makes, which is the same
  as_those : (job : Job) → changes ≡ job → (other : ℕ) (meta : Meta)
      → job.list ≡ record { head = other; new = Some meta } ∷ [] → CanBeFilled p.base meta job.zero
      → CanBeFilled p.base new zeros
  as_those job is other meta list filled =
      let same = same_one head other new meta zeros job is list in
      subst (λ (m : Meta). CanBeFilled p.base m zeros) (sym same.new_is)
      (subst (CanBeFilled p.base meta) (sym (ap (λ (j : Job). j.zero) is)) filled)

  pub can_be_filled : IsJobFor p command changes commit → CanBeFilled p.base new zeros
  can_be_filled (syncs x) = as_those (job_of_one x.head x.new) x.is x.head x.new refl (record {
    distinct = tt;
    empty = λ i among. absurd (cc among);
    had = λ i c at. record {
      head = x.head;
      meta = x.asks.old;
      there = x.asks.there;
      place = i;
      in_slot = sym (ap (λ (m : Meta). slot m i) x.asks.new_is) ∙ at;
    };
  })
  can_be_filled (creates x) =
      let xattrs = two_xattrs (fixed_of p.super) (shown p) x.name x.uuid in
      as_those (create_job x.head xattrs x.thick x.slots) x.is x.head (new_meta x.head xattrs x.thick x.slots) refl
      (record {
        distinct = new_differ x.thick x.slots;
        empty = λ i among. (
          subst (λ n. i < n) (sym (length-replicate {A = Option ℕ} x.slots None)) (new_low x.thick x.slots i among),
          empty_slot x.slots i,
        );
        had = λ i c at. absurd (let bad = sym (empty_slot x.slots i) ∙ at in cc bad);
      })
  can_be_filled (resizes x) =
      as_those (resize_job x.head x.old x.slots) x.is x.head (resized_meta x.old x.slots) refl (record {
        distinct = added_differ (is_thin x.old.flags) (length x.old.map) x.slots;
        empty = λ i among.
            let lie = added_lie (is_thin x.old.flags) (length x.old.map) x.slots i among in (
              subst (λ n. i < n) (sym (length_cut {X = Option ℕ} x.old.map x.slots None)) lie.1,
              slot_kept x.old.map x.slots i lie.1 ∙ slot_past x.old.map i lie.0,
            );
        had = λ i c at. record {
          head = x.head;
          meta = x.old;
          there = x.there;
          place = i;
          in_slot = slot_was x.old.map x.slots i c at;
        };
      })
  can_be_filled (clones x) =
      let xattrs = two_xattrs (fixed_of p.super) (shown p) x.name None in
      as_those (clone_job x.of x.old x.head xattrs) x.is x.head (new_clone x.of x.old x.head xattrs) refl (record {
        distinct = tt;
        empty = λ i among. absurd (cc among);
        had = λ i c at. absurd (let bad = sym (empty_slot (length x.old.map) i) ∙ at in cc bad);
      })
  can_be_filled (snapshots x) = absurd (many_replace head new zeros
      (snapshot_job x.of x.old x.head (two_xattrs (fixed_of p.super) (shown p) x.name None)) x.is (omega arith))
  can_be_filled (fills x) =
      as_those (fill_job x.kind x.head x.old (parent_blob p.base x.old)) x.is x.head
      (filled_blob x.kind x.old (parent_blob p.base x.old)) refl (record {
        distinct = tt;
        empty = λ i among. absurd (cc among);
        had = λ i c at. record {
          head = x.head;
          meta = x.old;
          there = x.there;
          place = i;
          in_slot = sym (ap (λ (l : List (Option ℕ)). slot (record x.old { map = l }) i)
              (filled_map x.kind x.old (parent_blob p.base x.old))) ∙ at;
        };
      })
  can_be_filled (deletes x) = absurd (none_deletes p.base x.of x.old head new zeros x.clones x.is)
