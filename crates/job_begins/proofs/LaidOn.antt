-- New metadata, laid on its head and on pages that are taken for it, whatever pages were in use.
use Rattle.std.proofs.Common.{◌≡◌, ℕ, ◌<◌, ◌^◌, Bool, true, false, All, List, ◌∷◌, length, get_or, drop}
use Rattle.std.proofs.Common.{sym, ◌∙◌, ap, subst, arith, inl, inr}
use Rattle.std.proofs.lemmas.Bool.{both_ways, cases_Bool}
use Rattle.bit_array.specs.Bits.{is_in}
use Rattle.descriptors.specs.declared.item.Item.{Item}
use Rattle.super_block.specs.Placed.{IsPlaced}
use Rattle.super_block.specs.declared.page.Super.{Super}
use Rattle.blob_meta.specs.declared.meta.Meta.{Meta}
use Rattle.blob_meta.specs.Items.{IsItemsOf}
use Rattle.blob_meta.specs.Says.{meta_of}
use Rattle.blob_meta.proofs.Inverse.{says}
use Rattle.md_chain.specs.Chain.{is_among}
use Rattle.md_chain.specs.Packing.{parts_of, ArePlannable}
use Rattle.md_chain.specs.Planned.{written_items}
use Rattle.md_chain.specs.declared.plan.PlannedPage.{PlannedPage}
use Rattle.md_chain.proofs.Saying.{written_say}
use Rattle.store_model.specs.Jobs.{places_of}
use Rattle.store_model.specs.Phases.{page_in}
use Rattle.store_model.specs.Places.{AreDistinct, AreLeastClear}
use Rattle.store_model.specs.Steady.{IsStored}
use Rattle.store_model.proofs.Sets.{among_either, are_distinct, were_clear}
use Rattle.running_store.proofs.Cleared.{among_get}
use Rattle.running_store.proofs.PlainFacts.{got}
use Rattle.job_begins.specs.Begins.{taken_for, IsTaken}
use Rattle.job_begins.specs.declared.preparing.Laid.{Laid}
use Rattle.job_views.proofs.PlannedPages.{page_of}
use Rattle.job_begins.proofs.JobPlaces.{once_each, places_from}
use Rattle.job_begins.proofs.JobPlanned.{IsReadyOn}

module _ (s : Super) (placed : IsPlaced s) (bits : List Bool) (count : length bits ≡ s.md_len) (head : ℕ) (new : Meta)
    (stored : IsStored s head new) (makes : Bool) (in_use : makes ≡ false → is_in bits head ≡ true)
    (items : List Item) (are : IsItemsOf new items) (plannable : ArePlannable items) (after : List Bool) (x : Laid)
    (t : IsTaken items head makes bits after x) where
  as_made : makes ≡ true → AreLeastClear bits (head ∷ t.fresh)
  as_made e = subst (λ (b : Bool). AreLeastClear bits (taken_for b head t.fresh)) e t.least

  as_there : makes ≡ false → AreLeastClear bits t.fresh
  as_there e = subst (λ (b : Bool). AreLeastClear bits (taken_for b head t.fresh)) e t.least

  -- the head of a blob that is there is in use
  head_apart : makes ≡ false → is_among head t.fresh ≡ false
  head_apart e = elim (cases_Bool (is_among head t.fresh)) [
    | inl among ↦
        absurd (both_ways (is_in bits head) (were_clear bits t.fresh (as_there e) head among).clear (in_use e))
    | inr out ↦ out
  ]

  all_differ : AreDistinct (head ∷ t.fresh)
  all_differ = elim (cases_Bool makes) [
    | inl e ↦ are_distinct bits (head ∷ t.fresh) (as_made e)
    | inr e ↦ (head_apart e, are_distinct bits t.fresh (as_there e))
  ]

  below : (q : ℕ) → is_among q (head ∷ t.fresh) ≡ true → q < s.md_len
  below q among = elim (among_either q head t.fresh among) [
    | inl first ↦ subst (λ y. y < s.md_len) (sym first) stored.low
    | inr later ↦ elim (cases_Bool makes) [
      | inl e ↦ subst (λ n. q < n) count (were_clear bits (head ∷ t.fresh) (as_made e) q among).below
      | inr e ↦ subst (λ n. q < n) count (were_clear bits t.fresh (as_there e) q later).below
    ]
  ]

  all_low : All (λ q. q < s.md_len) (head ∷ t.fresh)
  all_low k d lt = below (get_or (head ∷ t.fresh) k d) (among_get (head ∷ t.fresh) k d lt)

  planned_places : places_of x.pages ≡ head ∷ t.fresh
  planned_places = ap places_of t.laid_on.pages ∙ places_from head 0 head t.fresh (parts_of items) t.count

  planned_pages : All (λ (q : PlannedPage). page_in x.pages q.place ≡ q.page) x.pages
  planned_pages k d lt = page_of x.pages k (get_or x.pages k d)
      (subst AreDistinct (sym planned_places) all_differ) (got x.pages k d lt)

  small : s.md_len < 2 ^ 32
  small = let few = placed.few_md_pages in omega (arith, few)

  says_new : new ≡ meta_of head (written_items items)
  says_new = sym (written_say head items plannable
      ∙ says head new items stored.id stored.clear stored.xattrs.names stored.internal.names are)

  ready_at : IsReadyOn s bits head new makes after x.pages t.fresh
  ready_at = record {
    needs = record { items = items; are = are; chain = sym t.count };
    least = t.least;
    taken = t.taken;
    packed = record { items = items; are = are; pages = t.laid_on.pages };
    planned = record {
      items = written_items items;
      chain = t.laid_on.reads (page_in x.pages) s.md_len small (once_each (head ∷ t.fresh) all_differ) all_low
          planned_pages;
      meta_is = says_new;
      faultless = stored.faultless;
    };
    places = planned_places;
  }

  -- It is packed, and read there, as a job begins with it.
  pub ready_on : IsReadyOn s bits head new makes after x.pages (drop 1 x.chain)
  ready_on = subst (IsReadyOn s bits head new makes after x.pages) (sym (ap (drop 1) t.laid_on.chain)) ready_at
