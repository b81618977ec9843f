-- A list of replacements that is laid on pages can be made, one after another.
use Rattle.std.proofs.Common.{◌≡◌, ◌++◌, ◌^◌, ◌≤◌, ℕ, suc, Bool, List, [], ◌∷◌, length, Option, None, Some}
use Rattle.std.proofs.Common.{refl, sym, ap, ◌∙◌, subst, true, arith, flat_map}
use Rattle.std.specs.Prelude.{◌-◌, ◌==◌, if◌then◌else◌, take, slice_set}
use Rattle.std.specs.List.{AllByRecursion}
use Rattle.super_block.specs.declared.page.Super.{Super}
use Rattle.blob_meta.specs.declared.job.Replacement.{Replacement}
use Rattle.blob_meta.specs.declared.meta.Meta.{Meta}
use Rattle.blob_meta.specs.Repairs.{after, with_replacement}
use Rattle.blob_meta.specs.Resolving.{IsLawful, resolved, slots_together}
use Rattle.md_chain.specs.declared.plan.PlannedPage.{PlannedPage}
use Rattle.shown_volumes.specs.StoredLaws.{IsStoredWell}
use Rattle.store_model.specs.Jobs.{AreLaid, CanReplace, IsErasure, IsJobPlanned, IsLaid, Lays, places_of}
use Rattle.store_model.specs.Maps.{Chains, Metas}
use Rattle.store_model.specs.Phases.{behind, Committing, held_in, page_in, rechained, replaced}
use Rattle.store_model.specs.Phases.{Replacing, taken_by, taken_in, todo_of}
use Rattle.store_model.specs.Places.{all_set, AreLeastClear}
use Rattle.store_model.specs.Regions.{region_of}
use Rattle.store_model.specs.Scans.{MetaAt}
use Rattle.store_model.specs.Steady.{AreNamed, IsStored}
use Rattle.store_model.proofs.PhasesOfOne.{held_phases, lays_phases, leads_phases, taken_phases}

-- ---- what is known of the metadata behind each replacement

pub record IsMade (s : Super) (metas : Metas) : Type 0 where
  pub named : AreNamed (resolved metas)
  pub few : slots_together s.md_len metas ≤ 2 ^ 24
  pub lawful : IsLawful s.md_len (resolved metas)

-- each new metadata can be stored, and what it leaves is known, over what the one before it leaves
abbrev pub CanBeMade : Super → Metas → List Replacement → Type 0
CanBeMade s base [] = Unit {0}
CanBeMade s base (x ∷ xs) =
    ((m : Meta) → x.new ≡ Some m → IsStored s x.head m) × IsMade s (with_replacement base x)
    × CanBeMade s (with_replacement base x) xs

-- from what is known after each number of them
pub can_be_made : (s : Super) (base : Metas) (list : List Replacement)
    → AllByRecursion (λ (x : Replacement). (m : Meta) → x.new ≡ Some m → IsStoredWell s x.head m) list
    → ((count : ℕ) → count ≤ length list → IsMade s (after base (take count list))) → CanBeMade s base list
can_be_made s base [] stored made = tt
can_be_made s base (x ∷ xs) stored made = (
  λ m is. (stored.0 m is).stored,
  made 1 (omega arith),
  can_be_made s (with_replacement base x) xs stored.1 (λ count le. made (suc count) (omega (arith, le))),
)

-- ---- one of them

module _ (s : Super) (base : Metas) (chains : Chains) (pages : List Bool) (claimed : List ℕ) (x : Replacement)
    (r : Replacing) (laid : IsLaid s base chains pages claimed x r) where
  pub replaced_as : replaced base r ≡ with_replacement base x
  replaced_as = ap (λ h. λ q. if q == h then r.new else base q) laid.head
      ∙ ap (λ (o : Option Meta). λ q. if q == x.head then o else base q) laid.new

  -- it takes the least clear pages, or none
  pub takes_least : AreLeastClear pages (taken_by r)
  takes_least = by x.new laid.planned
    where
      by : (o : Option Meta) → IsJobPlanned s pages o r → AreLeastClear pages (taken_by r)
      by (Some new) planned = planned.least
      by None erasure = subst (AreLeastClear pages)
          (sym (ap (λ b. if b then r.head ∷ r.fresh else r.fresh) erasure.1 ∙ erasure.0)) tt

  pub can_replace : ((m : Meta) → x.new ≡ Some m → IsStored s x.head m) → IsMade s (with_replacement base x)
      → CanReplace s base chains claimed r.fresh r
  can_replace stored made = record {
    all = refl;
    places = laid_on x.new laid.planned;
    says = λ m is. says_new m x.new laid.planned (sym laid.new ∙ is);
    stored = λ m is. subst (λ h. IsStored s h m) (sym laid.head) (stored m (sym laid.new ∙ is));
    named = subst (λ (m : Metas). AreNamed (resolved m)) (sym replaced_as) made.named;
    gone = λ none. erased x.new laid.planned (sym laid.new ∙ none);
    chain = laid.chain;
    unerased = laid.unerased;
    few = subst (λ (m : Metas). slots_together s.md_len m ≤ 2 ^ 24) (sym replaced_as) made.few;
    lawful = subst (λ (m : Metas). IsLawful s.md_len (resolved m)) (sym replaced_as) made.lawful;
    clusters = laid.clusters;
  }
    where
      laid_on : (o : Option Meta) → IsJobPlanned s pages o r → places_of r.planned ≡ r.head ∷ r.fresh
      laid_on (Some new) planned = planned.places
      laid_on None erasure = ap (λ (l : List PlannedPage). places_of l) erasure.2
          ∙ ap (λ l. r.head ∷ l) (sym erasure.0)

      says_new : (m : Meta) (o : Option Meta) → IsJobPlanned s pages o r → o ≡ Some m
          → MetaAt (page_in r.planned) (region_of s) r.head m (r.head ∷ r.fresh)
      says_new m (Some new) planned is =
          let e : new ≡ m = cc is in
          subst (λ (n : Meta). MetaAt (page_in r.planned) (region_of s) r.head n (r.head ∷ r.fresh)) e planned.says
      says_new m None erasure is = absurd (cc is)

      erased : (o : Option Meta) → IsJobPlanned s pages o r → o ≡ None → IsErasure r
      erased (Some new) planned is = absurd (cc is)
      erased None erasure is = erasure

-- ---- all of them

least_both : (bits : List Bool) (ps qs : List ℕ) → AreLeastClear bits ps → AreLeastClear (all_set bits ps true) qs
    → AreLeastClear bits (ps ++ qs)
least_both bits [] qs first others = others
least_both bits (p ∷ ps) qs first others = (first.0, least_both (slice_set bits p true) ps qs first.1 others)

-- the places that all take are the least clear ones
pub take_least : (s : Super) (base : Metas) (chains : Chains) (pages : List Bool) (claimed : List ℕ)
    (list : List Replacement) (laid_list : List Replacing) → AreLaid s base chains pages claimed list laid_list
    → AreLeastClear pages (flat_map taken_by laid_list)
take_least s base chains pages claimed [] [] laid = tt
take_least s base chains pages claimed (x ∷ xs) (r ∷ rs) laid = least_both pages (taken_by r) (flat_map taken_by rs)
    (takes_least s base chains pages claimed x r laid.0)
    (take_least s (replaced base r) (rechained chains r) (all_set pages (taken_by r) true) [] xs rs laid.1)
take_least s base chains pages claimed [] (r ∷ rs) laid = absurd laid
take_least s base chains pages claimed (x ∷ xs) [] laid = absurd laid

-- what their phases hold
pub taken_list : (list : List Replacing) (number : ℕ) (commit : Committing)
    → taken_in (todo_of list number commit) ≡ flat_map taken_by list
taken_list [] number commit = refl
taken_list (r ∷ rs) number commit =
    taken_phases r (if number == 1 then Some commit else None) (todo_of rs (number - 1) commit)
    ∙ ap (λ l. taken_by r ++ l) (taken_list rs (number - 1) commit)

pub held_list : (list : List Replacing) (number : ℕ) (commit : Committing)
    → held_in (todo_of list number commit) ≡ flat_map taken_by list
held_list [] number commit = refl
held_list (r ∷ rs) number commit =
    held_phases r (if number == 1 then Some commit else None) (todo_of rs (number - 1) commit)
    ∙ ap (λ l. taken_by r ++ l) (taken_list rs (number - 1) commit)

-- the metadata to which they lead
pub leads_list : (s : Super) (base : Metas) (chains : Chains) (pages : List Bool) (claimed : List ℕ)
    (list : List Replacement) (laid_list : List Replacing) (number : ℕ) (commit : Committing)
    → AreLaid s base chains pages claimed list laid_list
    → behind base (todo_of laid_list number commit) ≡ after base list
leads_list s base chains pages claimed [] [] number commit laid = refl
leads_list s base chains pages claimed (x ∷ xs) (r ∷ rs) number commit laid =
    leads_phases r (if number == 1 then Some commit else None) (todo_of rs (number - 1) commit) base
    ∙ leads_list s (replaced base r) (rechained chains r) (all_set pages (taken_by r) true) [] xs rs (number - 1) commit
    laid.1
    ∙ ap (λ (m : Metas). after m xs) (replaced_as s base chains pages claimed x r laid.0)
leads_list s base chains pages claimed [] (r ∷ rs) number commit laid = absurd laid
leads_list s base chains pages claimed (x ∷ xs) [] number commit laid = absurd laid

-- they can be done
pub lays_list : (s : Super) (base : Metas) (chains : Chains) (pages : List Bool) (claimed : List ℕ)
    (list : List Replacement) (laid_list : List Replacing) (number : ℕ) (commit : Committing)
    → AreLaid s base chains pages claimed list laid_list → CanBeMade s base list → (list ≡ [] → claimed ≡ [])
    → Lays s base chains claimed [] (todo_of laid_list number commit)
lays_list s base chains pages claimed [] [] number commit laid made none = (refl, none refl)
lays_list s base chains pages claimed (x ∷ xs) (r ∷ rs) number commit laid made none =
    lays_phases r (if number == 1 then Some commit else None) (todo_of rs (number - 1) commit) s base chains claimed
    (can_replace s base chains pages claimed x r laid.0 made.0 made.1)
    (held_list rs (number - 1) commit ∙ sym (taken_list rs (number - 1) commit))
    (lays_list s (replaced base r) (rechained chains r) (all_set pages (taken_by r) true) [] xs rs (number - 1) commit
    laid.1 (subst (λ (m : Metas). CanBeMade s m xs) (sym (replaced_as s base chains pages claimed x r laid.0)) made.2)
    (λ e. refl))
lays_list s base chains pages claimed [] (r ∷ rs) number commit laid made none = absurd laid
lays_list s base chains pages claimed (x ∷ xs) [] number commit laid made none = absurd laid
