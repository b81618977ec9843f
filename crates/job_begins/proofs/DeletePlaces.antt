-- The replacements of a delete's job, of a blob with one clone, can all be kept in memory, from what the store knows
-- where it begins.
use Rattle.std.proofs.Common.{◌≡◌, ◌∙◌, ℕ, false, List, [], ◌∷◌, Option, Some, None, refl, sym, ap, subst, IsSome}
use Rattle.std.specs.Prelude.{is_some}
use Rattle.std.specs.FinMap as map
use Rattle.volume_model.specs.Volumes.{Fixed}
use Rattle.blob_meta.specs.declared.meta.Meta.{Meta}
use Rattle.blob_meta.specs.Parents.{is_locked}
use Rattle.blob_meta.specs.Resolving.{mark_of}
use Rattle.md_chain.specs.declared.plan.PlannedPage.{PlannedPage}
use Rattle.snapshots.specs.Marks.{id_bytes}
use Rattle.inflate_delete.specs.Clones.{clones_below}
use Rattle.inflate_delete.specs.DeleteJobs.{going_blob, heir_of}
use Rattle.shown_volumes.specs.ShowsStep.{IsAtRest}
use Rattle.store_model.specs.Maps.{Metas}
use Rattle.running_store.specs.Blobs.{blobs_behind, Blobs, CanAllBeKept, HasPlaces, HasPlacesFor}
use Rattle.running_store.specs.StoreView.{base_of, AreResolved}
use Rattle.running_store.specs.declared.replacements.LaidReplacement.{LaidReplacement}
use Rattle.job_begins.specs.Begins.{no_effects}
use Rattle.job_begins.specs.ListJobs.{delete_begins, delete_commit, delete_commits, delete_finishes, effects_in}
use Rattle.job_begins.specs.ListPlaces.{HasDeletePlaces}
use Rattle.job_begins.proofs.EntryPlaces.{can_again, is_still, metas_stay, place_aside, place_plain, MetaMap}
use Rattle.job_begins.proofs.ListMarks.{going_mark, in_memory, taking_mark}
use Rattle.job_begins.proofs.DeleteKept.{delete_kept, AreOfDelete}

module _ (f : Fixed) (b : Blobs) (of clone : ℕ) (old heir : Meta) (are : AreResolved b.metas b.marked)
    (rest : IsAtRest f (base_of b.metas b.marked)) (there : base_of b.metas b.marked of ≡ Some old)
    (there_too : base_of b.metas b.marked clone ≡ Some heir)
    (one : clones_below f.md_len (base_of b.metas b.marked) of ≡ clone ∷ []) (unlocked : is_locked old.flags ≡ false)
    (mark_room : Option ℕ) (has : HasDeletePlaces b of clone mark_room) (chain_1 chain_2 : List ℕ)
    (pages_1 pages_2 : List PlannedPage) (freed old_1 old_2 old_3 : List ℕ) where
  abbrev going : Meta
  going = going_blob old clone

  abbrev taking : Meta
  taking = heir_of heir old

  abbrev begins : LaidReplacement
  begins = delete_begins of old clone mark_room chain_1 pages_1 old_1

  abbrev commits : LaidReplacement
  commits = delete_commits of old clone heir chain_2 pages_2 old_2

  abbrev finishes : LaidReplacement
  finishes = delete_finishes of freed old_3

  abbrev begun_blobs : Blobs
  begun_blobs = blobs_behind b begins.change

  abbrev done_blobs : Blobs
  done_blobs = blobs_behind begun_blobs commits.change

  mark_going : mark_of going ≡ Some (id_bytes clone)
  mark_going = going_mark old clone

  mark_taking : mark_of taking ≡ None
  mark_taking = taking_mark heir old (rest.unmarked clone heir there_too)

  -- the clone is in memory as the device says it
  clone_there : IsSome (map.get b.metas clone)
  clone_there = ap is_some (ap (λ (m : Metas). m clone) (in_memory b.metas b.marked are rest.unmarked) ∙ there_too)

  places_begin : HasPlaces b of going (effects_in None mark_room)
  places_begin = record {
    rooms = record {
      chain = has.chained;
      meta = place_aside b of going (id_bytes clone) mark_room mark_going has.mark;
    };
    commit = record { live_fits = tt; shown_fits = tt; numbers = tt };
  }

  begun_metas : begun_blobs.metas ≡ b.metas
  begun_metas = metas_stay b.metas of going (id_bytes clone) mark_going

  places_commit : HasPlaces begun_blobs clone taking (record no_effects { commit = Some (delete_commit of old clone) })
  places_commit = record {
    rooms = record {
      chain = is_still b.chains of chain_1 clone has.chained_too;
      meta = place_plain begun_blobs clone taking None mark_taking
          (subst (λ (m : MetaMap). IsSome (map.get m clone)) (sym begun_metas) clone_there);
    };
    commit = record {
      live_fits = tt;
      shown_fits = tt;
      numbers = can_again b.guards clone has.numbered has.left;
    };
  }

  places_finish : HasPlacesFor done_blobs finishes.change
  places_finish = record { live_fits = tt; shown_fits = tt; numbers = tt }

  all : AreOfDelete f b of clone old heir are rest there there_too one unlocked begins.change commits.change
      finishes.change None
  all = record {
    begins = record { head_is = refl; new_is = refl; shows_is = refl };
    commits = record { head_is = refl; new_is = refl; shows_is = refl };
    finishes = record { head_is = refl; new_is = refl; shows_is = refl };
    room_begins = places_begin;
    room_commits = places_commit;
    room_finishes = places_finish;
  }

  -- The three, in this order, can all be kept.
  pub delete_all_kept : CanAllBeKept b (begins ∷ commits ∷ finishes ∷ [])
  delete_all_kept =
      let kept = delete_kept f b of clone old heir are rest there there_too one unlocked begins.change commits.change
      finishes.change None all in
      (kept.0, (kept.1, (kept.2, tt)))
