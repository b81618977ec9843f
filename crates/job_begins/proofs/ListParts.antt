-- The parts of a job of several replacements: new metadata, laid on its head and on fresh places, is one of them.
use Rattle.std.proofs.Common.{◌≡◌, ℕ, Bool, true, false, List, ◌∷◌, length, refl, sym, ap, ◌∙◌, subst, inl, inr}
use Rattle.std.specs.Prelude.{is_some}
use Rattle.std.proofs.lemmas.Bool.{both_ways, cases_Bool}
use Rattle.bit_array.specs.Bits.{is_in}
use Rattle.descriptors.specs.declared.item.Item.{Item}
use Rattle.super_block.specs.Placed.{IsPlaced}
use Rattle.super_block.specs.declared.page.Super.{Super}
use Rattle.blob_meta.specs.declared.meta.Meta.{Meta}
use Rattle.md_chain.specs.Chain.{is_among}
use Rattle.md_chain.specs.declared.plan.PlannedPage.{PlannedPage}
use Rattle.store_model.specs.Jobs.{IsPlannedFor}
use Rattle.store_model.specs.Places.{all_set, AreDistinct, AreLeastClear}
use Rattle.store_model.specs.Steady.{IsStored}
use Rattle.store_model.proofs.Sets.{all_set_out, were_clear}
use Rattle.running_store.specs.Jobs.{replacing_of, IsMatched}
use Rattle.running_store.specs.declared.effects.Effects.{Effects}
use Rattle.running_store.specs.declared.replacements.Planned.{Planned}
use Rattle.job_begins.specs.Begins.{taken_for, IsChainLaid, IsTaken}
use Rattle.job_begins.specs.Drafts.{IsDraft, IsDraftOf, IsPlannedOn}
use Rattle.job_begins.specs.declared.drafts.Draft.{Draft}
use Rattle.job_begins.specs.declared.preparing.Laid.{Laid}
use Rattle.job_begins.proofs.JobPlanned.{IsReadyOn}
use Rattle.job_begins.proofs.LaidOn.{ready_on}

-- what is written of a draft, on its head and on these places behind it
abbrev pub planned_of : Draft → List ℕ → List PlannedPage → Planned
planned_of x fresh pages =
    record { head = x.head; new = x.new; effects = x.effects; chain = x.head ∷ fresh; pages = pages }

-- this metadata with these items, and this done besides
abbrev pub draft_of : ℕ → Meta → Effects → List Item → Draft
draft_of head new effects items = record { head = head; new = new; items = items; effects = effects }

-- the draft of metadata is that
pub draft_as : (head : ℕ) (new other : Meta) (effects done : Effects) (x : Draft) → IsDraftOf head new effects x
    → new ≡ other → effects ≡ done → x ≡ draft_of head other done x.items
draft_as head new other effects done x is new_as done_as = λ i. record {
  head = is.head_is i;
  new = (is.new_is ∙ new_as) i;
  items = x.items;
  effects = (is.effects_is ∙ done_as) i;
}

module _ (x : Draft) (fresh : List ℕ) (planned : Planned) (on : IsPlannedOn x fresh planned) where
  -- A draft that is laid is planned so.
  pub planned_as : planned ≡ planned_of x fresh on.laid.pages
  planned_as = on.planned_is ∙ ap (λ (c : List ℕ). record {
    head = x.head;
    new = x.new;
    effects = x.effects;
    chain = c;
    pages = on.laid.pages;
  }) on.laid_on.chain

  -- It has its head first, and frees each cluster once.
  pub planned_matched : AreDistinct x.effects.freed → IsMatched planned
  planned_matched once = subst IsMatched (sym planned_as) (record { headed = refl; once = once })

  -- Where these pages are in use, and its places are the least clear ones, it is planned for them.
  pub part_planned : (s : Super) → IsPlaced s → IsDraft x → IsStored s x.head x.new → (old : List ℕ)
      (bits : List Bool) → length bits ≡ s.md_len
      → (is_some x.effects.rooms.chain ≡ false → is_in bits x.head ≡ true)
      → AreLeastClear bits (taken_for (is_some x.effects.rooms.chain) x.head fresh)
      → IsPlannedFor s bits x.new (replacing_of (planned_of x fresh on.laid.pages) old)
  part_planned s placed draft stored old bits long in_use least =
      let makes = is_some x.effects.rooms.chain in
      let laid : Laid = record { chain = x.head ∷ fresh; pages = on.laid.pages } in
      let laid_on : IsChainLaid x.items x.head fresh laid =
      subst (IsChainLaid x.items x.head fresh)
      (ap (λ (c : List ℕ). record { chain = c; pages = on.laid.pages }) on.laid_on.chain) on.laid_on in
      let after = all_set bits (taken_for makes x.head fresh) true in
      let t : IsTaken x.items x.head makes bits after laid =
      record { fresh = fresh; laid_on = laid_on; count = on.count; least = least; taken = refl } in
      let ready : IsReadyOn s bits x.head x.new makes after on.laid.pages fresh =
      ready_on s placed bits long x.head x.new stored makes in_use x.items draft.are draft.plannable after laid t in
      record {
        needs = ready.needs;
        least = ready.least;
        packed = ready.packed;
        places = ready.places;
        says = ready.planned;
      }

-- A place in use stays so where clear ones are taken.
pub in_use_still : (bits : List Bool) (places : List ℕ) → AreLeastClear bits places → (x : ℕ) → is_in bits x ≡ true
    → is_in (all_set bits places true) x ≡ true
in_use_still bits places least x used = elim (cases_Bool (is_among x places)) [
  | inl among ↦ absurd (both_ways (is_in bits x) (were_clear bits places least x among).clear used)
  | inr out ↦ all_set_out bits places true x out ∙ used
]
