-- A job whose fresh pages are all written: what is known of its replacement.
use Rattle.std.proofs.Common.{◌≡◌, ℕ, ◌<◌, Bool, All, List, [], ◌∷◌, length, Option, Some, None, refl, sym, ap}
use Rattle.std.proofs.Common.{get_or, subst, drop, true, false}
use Rattle.std.specs.Prelude.{IfSome, IsSome, is_some, slice_get}
use Rattle.std.specs.Option.{option_map_or}
use Rattle.bit_array.specs.Bits.{is_in}
use Rattle.page_disk.specs.declared.disk.PageDisk.{Ghosts}
use Rattle.blob_meta.specs.declared.meta.Meta.{Meta}
use Rattle.md_chain.specs.declared.plan.PlannedPage.{PlannedPage}
use Rattle.store_model.specs.Jobs.{gained_by, CanReplace}
use Rattle.store_model.specs.Phases.{erasing, page_in, Phase, Replaces, writing}
use Rattle.store_model.specs.RunInvariant.{RunsWell}
use Rattle.store_model.specs.StoreState.{JobState, StoreState}
use Rattle.metadata_turns.specs.JobTurns.{guards_left, with_job, IsAtWork}
use Rattle.running_store.specs.Blobs.{Blobs, CanAllBeKept, WillBeKept}
use Rattle.running_store.specs.Jobs.{commit_in, phases_in, replacing_of, to_come, writing_for, IsMatched}
use Rattle.running_store.specs.Jobs.{IsMatchedFor, MayFollow}
use Rattle.running_store.specs.declared.job.Serves.TheVariants as whom
use Rattle.running_store.specs.declared.replacements.LaidReplacement.{LaidReplacement}
use Rattle.running_store.specs.declared.job.RunningJob.{RunningJob}
use Rattle.running_store.specs.StoreView.{base_of, StoreView, state_of}
use Rattle.running_store.specs.declared.replacements.Planned.{Planned}
use Rattle.running_store.specs.declared.job.Serves.{Serves}
use Rattle.running_store.specs.declared.replacements.Change.TheVariants as change
use Rattle.metadata_turns.proofs.AtHead.{IsAtHead}
use Rattle.std.proofs.Math.Seq.{drop-length}
use Rattle.metadata_turns.proofs.AtWork.{can, has_meta, head_low, head_page, well}
use Rattle.running_store.proofs.Cleared.{among_get}

-- an insert's replacement comes alone
pub comes_alone : (serves : Serves) (later : List LaidReplacement) → MayFollow serves later → (channel : ℕ)
    → serves ≡ whom.Insert channel → phases_in later ≡ []
comes_alone serves later may channel is = ap phases_in (subst (λ (x : Serves). MayFollow x later) is may)

-- what is to come can be kept in memory
pub kept_behind : (o : Option RunningJob) (l : List LaidReplacement) → option_map_or to_come o [] ≡ l → (b : Blobs)
    → CanAllBeKept b l → IfSome o (WillBeKept b)
kept_behind None l is b kept = tt
kept_behind (Some j) l is b kept = subst (CanAllBeKept b) (sym is) kept

-- nor does it matter whether the blob that the job froze is released, where nothing is to come
pub kept_left : (o : Option RunningJob) (l : List LaidReplacement) → option_map_or to_come o [] ≡ l → (b : Blobs)
    (serves : Serves) → CanAllBeKept b l → IfSome o (WillBeKept (record b { guards = guards_left b.guards serves o }))
kept_left None l is b serves kept = tt
kept_left (Some j) l is b serves kept = subst (CanAllBeKept b) (sym is) kept

-- ---- its replacement

-- what is planned matches, whomever it is for
pub matched : (serves : Serves) (planned : Planned) → IsMatchedFor serves planned → IsMatched planned
matched (whom.Command channel freeze) planned is = is
matched (whom.Insert channel) planned is = is.0
matched whom.Repair planned is = is.0

-- the job while it is made
abbrev pub now : Serves → Planned → List ℕ → List Phase → JobState
now serves planned old more = writing_for serves planned old (length (drop 1 planned.chain)) more

module _ {D : Type 0} (d : Ghosts D) (p : StoreView D) (serves : Serves) (planned : Planned) (old : List ℕ)
    (more : List Phase)
    (at_work : IsAtWork d p (writing_for serves planned old (length (drop 1 planned.chain)) more)) where
  abbrev written : ℕ
  written = length (drop 1 planned.chain)

  abbrev j : JobState
  j = writing_for serves planned old written more

  abbrev s : StoreState
  s = state_of d (with_job p j)

  runs_well : RunsWell at_work.running.first s
  runs_well = well s at_work.running at_work.not_stopped

  can_replace : CanReplace s.super s.base s.chains (gained_by s.rows j) (drop 1 planned.chain)
      (replacing_of planned old)
  can_replace = can s at_work.running at_work.not_stopped serves planned old written more refl

  abbrev pub others : List Phase
  others = erasing old old more

  pub todo_is : j.todo ≡ Replaces (replacing_of planned old) (commit_in planned) ∷ others
  todo_is = ap (λ l. writing l (Replaces (replacing_of planned old) (commit_in planned) ∷ others))
      (drop-length (drop 1 planned.chain))

  -- whether the blob is new
  abbrev makes : Bool
  makes = is_some planned.effects.rooms.chain

  -- a blob that is there has its entries
  meta_is : makes ≡ false → (m : Meta) × (s.base planned.head ≡ Some m)
  meta_is not = has_meta s at_work.running at_work.not_stopped serves planned old written more refl not

  pub base_there : makes ≡ false → IsSome (base_of p.metas p.marked planned.head)
  base_there not = subst (λ (o : Option Meta). IsSome o) (sym (meta_is not).1) refl

  -- what is freed is in use
  pub freed_in_use : All (λ c. is_in p.clusters c ≡ true) planned.effects.freed
  freed_in_use k d low = runs_well.clusters.mapped (get_or planned.effects.freed k d)
      (can_replace.clusters.let_go (get_or planned.effects.freed k d) (among_get planned.effects.freed k d low)).1

  pub head_below : planned.head < p.super.md_len
  head_below = head_low s at_work.running at_work.not_stopped serves planned old written more refl

  pub planned_is : (x : PlannedPage) → slice_get planned.pages 0 ≡ Some x
      → page_in planned.pages planned.head ≡ x.page
  planned_is x first = head_page s at_work.running at_work.not_stopped serves planned old written more refl x first

  pub at_head : IsMatchedFor serves planned → IsAtHead d p serves (change.Writes planned) old more j
  at_head fits = record { work = at_work; serves_is = refl; freezes = refl; todo = todo_is; fits = fits }
