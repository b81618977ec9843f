-- The replacements of a snapshot's job can all be kept in memory, from what the store knows where it begins.
use Rattle.std.proofs.Common.{◌≡◌, ◌∙◌, ℕ, ◌+◌, List, [], ◌∷◌, Option, Some, None, refl, sym, ap, subst}
use Rattle.std.proofs.Common.{arith, Bool, IsSome}
use Rattle.std.specs.Prelude.{is_some}
use Rattle.std.specs.FinMap as map
use Rattle.volume_model.specs.Volumes.{Fixed}
use Rattle.volume_model.specs.Xattrs.{Xattrs}
use Rattle.blob_meta.specs.declared.meta.Meta.{Meta}
use Rattle.blob_meta.specs.Resolving.{mark_of, without_marks}
use Rattle.blob_meta.proofs.MarksLifted.{no_mark}
use Rattle.md_chain.specs.declared.plan.PlannedPage.{PlannedPage}
use Rattle.io_freeze.specs.Guards.{renewed, GuardsState}
use Rattle.snapshots.specs.Marks.{id_bytes}
use Rattle.snapshots.specs.SnapshotJobs.{begun_snapshot, emptied_volume, filled_snapshot}
use Rattle.shown_volumes.specs.JobLaws.{IsClear}
use Rattle.shown_volumes.specs.ShowsStep.{IsAtRest}
use Rattle.store_model.specs.Maps.{Metas}
use Rattle.running_store.specs.Blobs.{blobs_behind, metas_given, Blobs, CanAllBeKept, HasPlaces}
use Rattle.running_store.specs.Places.{with_numbers, CanNumber, HasPlace}
use Rattle.running_store.specs.Effects.{numbered_by}
use Rattle.running_store.specs.StoreView.{base_of, AreResolved}
use Rattle.running_store.specs.declared.replacements.LaidReplacement.{LaidReplacement}
use Rattle.job_begins.specs.Begins.{no_effects}
use Rattle.job_begins.specs.ListJobs.{effects_in, snapshot_begins, snapshot_commit, snapshot_commits}
use Rattle.job_begins.specs.ListJobs.{snapshot_fills, snapshot_finishes}
use Rattle.job_begins.specs.ListPlaces.{HasSnapshotPlaces}
use Rattle.job_begins.proofs.EntryPlaces.{can_both, can_first, is_given, is_still, metas_stay, metas_written}
use Rattle.job_begins.proofs.EntryPlaces.{place_aside, place_plain, place_still, MetaMap}
use Rattle.job_begins.proofs.ListMarks.{emptied_mark, filled_mark, in_memory}
use Rattle.job_begins.proofs.PlacesThere.{places_aside, places_there}
use Rattle.job_begins.proofs.SnapshotKept.{snapshot_kept, AreOfSnapshot}

module _ (f : Fixed) (b : Blobs) (of head : ℕ) (old : Meta) (xattrs : Xattrs) (are : AreResolved b.metas b.marked)
    (rest : IsAtRest f (base_of b.metas b.marked)) (there : base_of b.metas b.marked of ≡ Some old)
    (clear : IsClear f (base_of b.metas b.marked) head) (chain_room mark_room live_room shown_room : Option ℕ)
    (has : HasSnapshotPlaces b of head chain_room mark_room live_room shown_room)
    (chain_1 chain_2 chain_3 chain_4 : List ℕ) (pages_1 pages_2 pages_3 pages_4 : List PlannedPage)
    (old_1 old_2 old_3 old_4 : List ℕ) where
  abbrev begun : Meta
  begun = begun_snapshot of old head xattrs

  abbrev filled : Meta
  filled = filled_snapshot of old head xattrs

  abbrev emptied : Meta
  emptied = emptied_volume old head

  abbrev begins : LaidReplacement
  begins = snapshot_begins of old head xattrs chain_room mark_room chain_1 pages_1 old_1

  abbrev fills : LaidReplacement
  fills = snapshot_fills of old head xattrs chain_2 pages_2 old_2

  abbrev commits : LaidReplacement
  commits = snapshot_commits of old head xattrs live_room shown_room chain_3 pages_3 old_3

  abbrev finishes : LaidReplacement
  finishes = snapshot_finishes of old head xattrs chain_4 pages_4 old_4

  abbrev begun_blobs : Blobs
  begun_blobs = blobs_behind b begins.change

  abbrev filled_blobs : Blobs
  filled_blobs = blobs_behind begun_blobs fills.change

  abbrev done_blobs : Blobs
  done_blobs = blobs_behind filled_blobs commits.change

  mark_begun : mark_of begun ≡ Some (id_bytes of)
  mark_begun = refl

  mark_filled : mark_of filled ≡ Some (id_bytes of)
  mark_filled = filled_mark of old head xattrs

  mark_emptied : mark_of emptied ≡ None
  mark_emptied = emptied_mark old head (rest.unmarked of old there)

  -- the volume is in memory as the device says it
  volume_there : IsSome (map.get b.metas of)
  volume_there = ap is_some (ap (λ (m : Metas). m of) (in_memory b.metas b.marked are rest.unmarked) ∙ there)

  -- ---- the first

  -- the new blob gets a generation
  first_number : numbered_by (is_some chain_room) head ≡ head ∷ []
  first_number = ap (λ (b : Bool). numbered_by b head) has.new

  places_begin : HasPlaces b head begun (effects_in chain_room mark_room)
  places_begin = record {
    rooms = record {
      chain = has.chain;
      meta = place_aside b head begun (id_bytes of) mark_room mark_begun has.mark;
    };
    commit = record {
      live_fits = tt;
      shown_fits = tt;
      numbers = subst (λ (heads : List ℕ). CanNumber b.guards heads) (sym first_number)
          (can_first b.guards head has.few (omega (arith, has.left)));
    };
  }

  begun_guards : begun_blobs.guards ≡ renewed b.guards head
  begun_guards = ap (λ (heads : List ℕ). with_numbers b.guards heads) first_number

  begun_metas : begun_blobs.metas ≡ b.metas
  begun_metas = metas_stay b.metas head begun (id_bytes of) mark_begun

  -- ---- the second

  places_fill : HasPlaces begun_blobs head filled no_effects
  places_fill = places_aside begun_blobs head filled (id_bytes of) mark_filled (is_given b.chains head chain_1)
      (is_given b.marked head begun)

  filled_metas : filled_blobs.metas ≡ b.metas
  filled_metas = metas_stay begun_blobs.metas head filled (id_bytes of) mark_filled ∙ begun_metas

  -- ---- the commit

  -- the metadata once the volume has let its map go
  emptied_metas : metas_given filled_blobs.metas of emptied ≡ map.insert b.metas of emptied
  emptied_metas = metas_written filled_blobs.metas of emptied mark_emptied
      ∙ ap (λ (m : MetaMap). map.insert m of emptied) filled_metas

  can_number : CanNumber filled_blobs.guards (of ∷ head ∷ [])
  can_number = subst (λ (g : GuardsState). CanNumber g (of ∷ head ∷ [])) (sym begun_guards)
      (can_both (renewed b.guards head) of head
      (is_still b.guards.generations head (b.guards.drawn + 1) of has.numbered)
      (is_given b.guards.generations head (b.guards.drawn + 1)) (omega (arith, has.left)))

  places_commit : HasPlaces filled_blobs of emptied (record no_effects {
    commit = Some (snapshot_commit of old head xattrs live_room shown_room);
  })
  places_commit = record {
    rooms = record {
      chain = is_still begun_blobs.chains head chain_2 of (is_still b.chains head chain_1 of has.chained);
      meta = place_plain filled_blobs of emptied None mark_emptied
          (subst (λ (m : MetaMap). IsSome (map.get m of)) (sym filled_metas) volume_there);
    };
    commit = record {
      live_fits = has.live;
      shown_fits = subst (λ (m : MetaMap). HasPlace m head shown_room) (sym emptied_metas)
          (place_still b.metas of emptied head shown_room volume_there has.shown);
      numbers = can_number;
    };
  }

  -- ---- the last

  places_finish : HasPlaces done_blobs head (without_marks filled) no_effects
  places_finish = places_there done_blobs head (without_marks filled) (no_mark filled)
      (is_still filled_blobs.chains of chain_3 head (is_given begun_blobs.chains head chain_2))
      (is_given (metas_given filled_blobs.metas of emptied) head (without_marks filled))

  all : AreOfSnapshot f b of head old xattrs are rest there clear begins.change fills.change commits.change
      finishes.change shown_room
  all = record {
    begins = record { head_is = refl; new_is = refl; shows_is = refl };
    room_begins = places_begin;
    others = record {
      begins = record { head_is = refl; new_is = refl; shows_is = refl };
      commits = record { head_is = refl; new_is = refl; shows_is = refl };
      finishes = record { head_is = refl; new_is = refl; shows_is = refl };
      room_begins = places_fill;
      room_commits = places_commit;
      room_finishes = places_finish;
    };
  }

  -- The four, in this order, can all be kept.
  pub snapshot_all_kept : CanAllBeKept b (begins ∷ fills ∷ commits ∷ finishes ∷ [])
  snapshot_all_kept =
      let kept = snapshot_kept f b of head old xattrs are rest there clear begins.change fills.change commits.change
      finishes.change shown_room all in
      (kept.0, (kept.1, (kept.2, (kept.3, tt))))
