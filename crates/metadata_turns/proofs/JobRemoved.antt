-- What is known of a job's replacement by which a blob is erased.
use Rattle.std.proofs.Common.{◌≡◌, ℕ, ◌<◌, true, false, All, List, [], ◌∷◌, Some, None, refl}
use Rattle.std.proofs.Common.{get_or}
use Rattle.std.proofs.lemmas.Bool.{eq-eqb}
use Rattle.bit_array.specs.Bits.{is_in}
use Rattle.page_disk.specs.declared.disk.PageDisk.{Ghosts}
use Rattle.volume_model.specs.Volumes.{zero_page}
use Rattle.store_model.specs.Jobs.{gained_by, CanReplace, JobStands}
use Rattle.store_model.specs.Phases.{page_in, Phase}
use Rattle.store_model.specs.Places.{AreDistinct}
use Rattle.store_model.specs.RunInvariant.{RunsWell}
use Rattle.store_model.specs.StoreState.{JobState, StoreState}
use Rattle.store_model.proofs.Guarding.{none_frozen_by}
use Rattle.store_model.proofs.Sets.{among_first}
use Rattle.metadata_turns.specs.JobTurns.{with_job, IsAtWork}
use Rattle.running_store.specs.Jobs.{erasure_of, freeze_of, removing_for, IsRemovedFor}
use Rattle.running_store.specs.StoreView.{StoreView, state_of}
use Rattle.running_store.specs.declared.job.Serves.{Serves}
use Rattle.running_store.specs.declared.job.Serves.TheVariants as whom
use Rattle.running_store.specs.declared.replacements.Change.TheVariants as change
use Rattle.running_store.specs.declared.replacements.Erasure.{Erasure}
use Rattle.metadata_turns.proofs.AtWork.{well}
use Rattle.metadata_turns.proofs.AtHead.{IsAtHead}
use Rattle.running_store.proofs.Cleared.{among_get}

-- ---- whom it serves

pub once : (serves : Serves) (e : Erasure) → IsRemovedFor serves e → AreDistinct e.freed
once (whom.Command channel freeze) e fits = fits.0
once (whom.Insert channel) e fits = absurd fits
once whom.Repair e fits = fits.0

-- it freezes no blob
freezes_none : (serves : Serves) (e : Erasure) → IsRemovedFor serves e → freeze_of serves ≡ None
freezes_none (whom.Command channel freeze) e fits = fits.1
freezes_none (whom.Insert channel) e fits = refl
freezes_none whom.Repair e fits = refl

module _ {D : Type 0} (d : Ghosts D) (p : StoreView D) (serves : Serves) (e : Erasure) (old : List ℕ)
    (more : List Phase) (w : IsAtWork d p (removing_for serves e old more)) where
  abbrev j : JobState
  j = removing_for serves e old more

  abbrev s : StoreState
  s = state_of d (with_job p j)

  runs_well : RunsWell w.running.first s
  runs_well = well s w.running w.not_stopped

  stands : JobStands s j
  stands = runs_well.job j refl

  can : CanReplace s.super s.base s.chains (gained_by s.rows j) [] (erasure_of e old)
  can = stands.lays.0

  chain : s.chains e.head ≡ Some (e.head ∷ old)
  chain = can.chain

  pub head_below : e.head < p.super.md_len
  head_below = runs_well.chains.low e.head e.head (e.head ∷ old) chain (among_first e.head old)

  pub page_used : is_in p.pages e.head ≡ true
  page_used = runs_well.pages.linked e.head
      (record { head = e.head; pages = e.head ∷ old; chain = chain; among = among_first e.head old })

  -- what is freed is in use
  pub freed_in_use : All (λ c. is_in p.clusters c ≡ true) e.freed
  freed_in_use k d low = runs_well.clusters.mapped (get_or e.freed k d)
      (can.clusters.let_go (get_or e.freed k d) (among_get e.freed k d low)).1

  -- no blob is frozen
  pub unfrozen : IsRemovedFor serves e → s.frozen e.head ≡ false
  unfrozen fits = none_frozen_by s w.running.facts.guarded j refl (freezes_none serves e fits) e.head

  pub at_head : IsRemovedFor serves e → IsAtHead d p serves (change.Erases e) old more j
  at_head fits = record { work = w; serves_is = refl; freezes = refl; todo = refl; fits = fits }

  -- a page of zeros goes over the head's
  pub zeros_planned : page_in (erasure_of e old).planned e.head ≡ zero_page
  zeros_planned = rw (eq-eqb e.head e.head refl) refl
