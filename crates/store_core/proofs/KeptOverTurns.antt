-- What is kept of a running store, at its start and over each turn.
use Rattle.std.proofs.Common.{ℕ, ◌≡◌, [], ◌++◌, ◌∷◌, Some, None, refl, ap, ◌∙◌, IsTrue}
use Rattle.std.specs.FinMap as map
use Rattle.page_disk.specs.Disk.{Telling}
use Rattle.page_disk.specs.Moments.{CallsLeaveOnly}
use Rattle.page_disk.specs.declared.disk.PageDisk.{Ghosts}
use Rattle.super_block.specs.Faults.{IsFaultless}
use Rattle.super_block.specs.Placed.{IsPlaced}
use Rattle.store_model.specs.Cases.{Kind, the}
use Rattle.store_model.specs.Touches.{DoesTouch, no_new, puts, replaces, Touch, untouched}
use Rattle.store_model.specs.StoreState.{JobState, Opens, shown}
use Rattle.store_model.specs.StateLaws.{IsLoadedWith}
use Rattle.store_model.specs.RunInvariant.{RunInvariant}
use Rattle.store_model.proofs.Going.{survives_start}
use Rattle.store_model.proofs.Over.{CrashLaws, Over}
use Rattle.store_model.proofs.Turns as turns
use Rattle.clean_images.specs.CleanImages.{CleanImages}
use Rattle.running_store.proofs.Showing.{loaded_alike}
use Rattle.metadata_turns.specs.JobTurns.{TurnsJob}
use Rattle.store_core.specs.StoreInvariant.{OpensAsRead, StoreInvariant, opening_script}
use Rattle.running_store.specs.TurnMade.{TurnMade}
use Rattle.running_store.specs.StoreView.{StoreView, WithOpening, base_of, state_of}
use Rattle.running_store.specs.Surviving.{OldOrNew}

-- no touch changes how many pages the device has
same_pages : {D : Type 0} (d : Ghosts D) (old new : D) (touch : Touch) → DoesTouch d old new touch
    → d.pages new ≡ d.pages old
same_pages d old new untouched same = ap d.pages same
same_pages d old new (puts page content lasting) does = does.pages
same_pages d old new (replaces page content lasting) does = does.pages
same_pages d old new (no_new lasting) does = does.pages

module _ {D : Type 0} (d : Ghosts D) (laws : CrashLaws)
    (law : IsTrue d.tells → Telling d.now d.images d.since d.clock) where
  pub kept_begins : (p : StoreView D) → IsLoadedWith p.super (state_of d p) → Opens (state_of d p) → IsFaultless p.super
      → IsPlaced p.super → (OpensAsRead d p → CleanImages d p.super (d.now p.disk) (state_of d p) p.disk)
      → (right : ℕ) → StoreInvariant d (record { at = p; opening = p; right = right })
  kept_begins p loaded opens faultless placed images right =
      let facts : RunInvariant p.super (shown (state_of d p)) (opening_script p) (state_of d p) =
      laws.plants.begin p.super (state_of d p) loaded opens in
      record {
        began = opens;
        faultless = faultless;
        first_facts = facts;
        run = ([], refl);
        facts = facts;
        placed = placed;
        named = loaded_alike p.super (state_of d p) loaded;
        survives = λ read. survives_start d laws read.one.0 law p.super placed (shown (state_of d p))
            (opening_script p) (state_of d p) p.disk refl refl opens.log opens.marks opens.stopped opens.job facts
            read.one.1 read.holds;
        pages = refl;
        images = images;
      }

  module _ (p : WithOpening D) (q : StoreView D) (kind : Kind) (kept : StoreInvariant d p)
      (made : TurnMade d p.at q kind) where
    facts_after : RunInvariant p.opening.super (shown (state_of d p.opening)) (opening_script p.opening) (state_of d q)
    facts_after = laws.plants.keep d.tells p.opening.super (shown (state_of d p.opening)) (opening_script p.opening)
        (state_of d p.at) (state_of d q) kind kept.placed kept.facts made.0

    over : OpensAsRead d p.opening → Over d
    over read = record {
      laws = laws;
      told = read.one.0;
      law = law read.one.0;
      s = p.opening.super;
      placed = kept.placed;
      first = shown (state_of d p.opening);
      script = opening_script p.opening;
      p = state_of d p.at;
      q = state_of d q;
      from = p.at.disk;
      to = q.disk;
      from_is = refl;
      to_is = refl;
      from_tells = refl;
      to_tells = refl;
      old = kept.survives read;
      facts = kept.facts;
      after = facts_after;
    }

    pub kept_goes_on : (OpensAsRead d p.opening
        → CleanImages d p.opening.super (d.now p.opening.disk) (state_of d q) q.disk)
        → StoreInvariant d (record { at = q; opening = p.opening; right = p.right })
    unfolding over
    kept_goes_on images = record {
      began = kept.began;
      faultless = kept.faultless;
      first_facts = kept.first_facts;
      run = (
        kept.run.0 ++ kind ∷ [],
        laws.plants.go_on d.tells (state_of d p.opening) (state_of d p.at)
            (state_of d q) kept.run.0 kind kept.run.1 made.0,
      );
      facts = facts_after;
      placed = kept.placed;
      named = kept.named;
      survives = λ read. turns.survives d (over read) kind made.0 made.1;
      pages = same_pages d p.at.disk q.disk ((the kind).touch d.tells (state_of d p.at) (state_of d q) made.0) made.1
          ∙ kept.pages;
      images = images;
    }

    pub leaves_here : OpensAsRead d p.opening
        → p.at.stopped ≡ None → (job : JobState) → p.at.job ≡ Some job → CallsLeaveOnly d p.at.disk q.disk
        (OldOrNew p.opening.super (base_of p.at.metas p.at.marked) (map.get p.at.chains) job.todo)
    unfolding over
    leaves_here read runs job is _ = turns.leaves_old_or_new d (over read) kind made.0 made.1 runs job is

  pub leaves_old_or_new : (p : WithOpening D) (q : StoreView D) (job : JobState) → StoreInvariant d p
      → TurnsJob d p.at q → OpensAsRead d p.opening → p.at.stopped ≡ None → p.at.job ≡ Some job
      → CallsLeaveOnly d p.at.disk q.disk
      (OldOrNew p.opening.super (base_of p.at.metas p.at.marked) (map.get p.at.chains) job.todo)
  leaves_old_or_new p q job kept turn read runs is = leaves_here p q turn.kind kept turn.made read runs job is
