-- The first repair that is due: what its replacement makes of the metadata, and that it can be made.
use Rattle.std.proofs.Common.{◌≡◌, ◌≤◌, ◌^◌, ◌<◌, ℕ, Bool, List, [], ◌∷◌, Option, None, Some, refl, sym, ap, ◌∙◌, subst}
use Rattle.std.proofs.Common.{arith}
use Rattle.std.proofs.Common.{inl, inr}
use Rattle.std.specs.Prelude.{if◌then◌else◌, IsSome, take}
use Rattle.std.specs.List.{All, range_with_len}
use Rattle.std.proofs.lemmas.Bool.{cases_eq}
use Rattle.std.proofs.lemmas.List.Elements.{All-head}
use Rattle.std.proofs.lemmas.List.Sums.{sum_by-le-sum_by}
use Rattle.std.proofs.Math.Path.{fun_ext}
use Rattle.super_block.specs.declared.page.Super.{Super}
use Rattle.blob_meta.specs.declared.job.Replacement.{Replacement}
use Rattle.blob_meta.specs.declared.meta.Meta.{Meta}
use Rattle.blob_meta.specs.Repairs.{after, HasHeadsBelow}
use Rattle.blob_meta.specs.Resolving.{IsLawful, mark_of, resolved, slots_together}
use Rattle.store_model.specs.Cases.BeginRepair.{BeginsRepair}
use Rattle.store_model.specs.Jobs.{CanReplace, IsErasure, IsJobPlanned, IsUnseen, places_of}
use Rattle.store_model.specs.Maps.{Metas, with_option}
use Rattle.store_model.specs.Phases.{page_in, replaced, Replacing, taken_by}
use Rattle.store_model.specs.Places.{AreLeastClear}
use Rattle.store_model.specs.Regions.{region_of}
use Rattle.store_model.specs.RunInvariant.{AreNamed, AreStored}
use Rattle.store_model.specs.Scans.{MetaAt}
use Rattle.store_model.specs.StoreState.{StoreState}
use Rattle.store_model.proofs.Known.{Known}
use Rattle.store_model.proofs.LawsBelow.{RepairLaws}
use Rattle.store_model.proofs.Resolved.{map_of, resolved_of, resolved_stored}
use Rattle.store_model.proofs.SlotSums.{slots_in}
use Rattle.store_model.proofs.WithEntry.{option_elsewhere, option_here}

-- ---- new metadata, or none, laid on pages

-- what is known of it either way
pub record IsLaidOut (s : Super) (pages : List Bool) (r : Replacing) : Type 0 where
  pub places : places_of r.planned ≡ r.head ∷ r.fresh
  pub says : (m : Meta) → r.new ≡ Some m → MetaAt (page_in r.planned) (region_of s) r.head m (r.head ∷ r.fresh)
  pub gone : r.new ≡ None → IsErasure r
  pub least : AreLeastClear pages (taken_by r)

laid_out : (s : Super) (pages : List Bool) (r : Replacing) (o : Option Meta) → r.new ≡ o → IsJobPlanned s pages o r
    → IsLaidOut s pages r
laid_out s pages r None none planned = record {
  places = ap places_of planned.2 ∙ ap (λ l. r.head ∷ l) (sym planned.0);
  says = λ m is. absurd (let bad = sym none ∙ is in cc bad);
  gone = λ _. planned;
  least = subst (AreLeastClear pages)
      (sym (ap (λ b. if b then r.head ∷ r.fresh else r.fresh) planned.1 ∙ planned.0)) tt;
}
laid_out s pages r (Some new) new_is planned = record {
  places = planned.places;
  says = λ m is.
      let e : new ≡ m = let both = sym new_is ∙ is in cc both in
      subst (λ (n : Meta). MetaAt (page_in r.planned) (region_of s) r.head n (r.head ∷ r.fresh)) e planned.says;
  gone = λ none. absurd (let bad = sym new_is ∙ none in cc bad);
  least = planned.least;
}

-- ---- slots

-- a resolved blob has no more slots than the one that is there
slots_resolved : (metas : Metas) (h : ℕ) → slots_in (resolved metas h) ≤ slots_in (metas h)
slots_resolved metas h = by (resolved metas h) refl
  where
    by : (o : Option Meta) → resolved metas h ≡ o → slots_in o ≤ slots_in (metas h)
    by None is = omega arith
    by (Some m) is =
        let o = resolved_of metas h m is in
        let here : slots_in (metas h) ≡ slots_in (Some o.old) = ap slots_in o.there in
        let same : slots_in (Some m) ≡ slots_in (Some o.old) = ap (λ l. slots_in (Some (record m { map = l })))
        (map_of metas h m o) in
        omega (arith, here, same)

fewer_slots : (md_len : ℕ) (metas : Metas) (head : ℕ)
    → slots_together md_len (with_option metas head (resolved metas head)) ≤ slots_together md_len metas
fewer_slots md_len metas head = sum_by-le-sum_by (λ h. slots_in (with_option metas head (resolved metas head) h))
    (λ h. slots_in (metas h)) (range_with_len 0 md_len) (λ h. elim (cases_eq h head) [
      | inl e ↦
          let here : slots_in (with_option metas head (resolved metas head) h) ≡ slots_in (resolved metas head) =
          ap slots_in (option_here metas head (resolved metas head) h e) in
          let was : slots_in (metas h) ≡ slots_in (metas head) = ap (λ n. slots_in (metas n)) e in
          let le = slots_resolved metas head in
          omega (arith, here, was, le)
      | inr ne ↦
          let same : slots_in (with_option metas head (resolved metas head) h) ≡ slots_in (metas h) =
          ap slots_in (option_elsewhere metas head (resolved metas head) h ne) in
          omega (arith, same)
    ])

-- ---- the repair

module _ (laws : RepairLaws) (known : Known) where
  open known use {s, p, facts}

  module _ (q : StoreState) (t : BeginsRepair p q) where
    abbrev r : Replacing
    r = t.replacing

    abbrev x : Replacement
    x = t.repair

    stored : AreStored p.super p.base
    stored = subst (λ (y : Super). AreStored y p.base) (sym facts.super) facts.stored

    heads_below : HasHeadsBelow p.super.md_len p.base
    heads_below head some = by (p.base head) refl some
      where
        by : (o : Option Meta) → p.base head ≡ o → IsSome o → head < p.super.md_len
        by None is some = absurd (cc some)
        by (Some m) is some = (stored head m is).low

    -- it gives the head what is resolved there
    gives : x.new ≡ resolved p.base x.head
    gives = All-head (λ (y : Replacement). y.new ≡ resolved p.base y.head) x t.others
        (subst (All (λ (y : Replacement). y.new ≡ resolved p.base y.head)) t.due
        (laws.give p.super.md_len p.base))

    new_given : r.new ≡ resolved p.base r.head
    new_given = t.laid.new ∙ gives ∙ ap (resolved p.base) (sym t.laid.head)

    made : replaced p.base r ≡ after p.base (x ∷ [])
    made = ap (λ h. with_option p.base h r.new) t.laid.head ∙ ap (λ o. with_option p.base x.head o) t.laid.new

    -- so the metadata resolves to the same
    pub unseen : IsUnseen p.base r
    unseen = fun_ext (λ h. ap (λ (m : Metas). resolved m h) made
        ∙ ap (λ l. resolved (after p.base (take 1 l)) h) (sym t.due)
        ∙ laws.cut_off p.super.md_len p.base heads_below 1 h)

    -- and no mark is new
    pub new_unmarked : (m : Meta) → r.new ≡ Some m → mark_of m ≡ None
    new_unmarked m is =
        let there : resolved p.base r.head ≡ Some m = sym new_given ∙ is in
        rw (laws.unremoved p.base r.head m there, laws.made p.base r.head m there) refl

    pub planned : IsLaidOut p.super p.pages r
    planned = laid_out p.super p.pages r x.new t.laid.new t.laid.planned

    pub can : CanReplace p.super p.base p.chains [] r.fresh r
    can = record {
      all = refl;
      places = planned.places;
      says = planned.says;
      stored = λ m is. resolved_stored p.super p.base stored r.head m (sym new_given ∙ is);
      named = subst AreNamed (sym unseen) facts.named;
      gone = planned.gone;
      chain = t.laid.chain;
      unerased = t.laid.unerased;
      few =
          let less = fewer_slots p.super.md_len p.base r.head in
          let same : slots_together p.super.md_len (replaced p.base r)
          ≡ slots_together p.super.md_len (with_option p.base r.head (resolved p.base r.head)) =
          ap (λ o. slots_together p.super.md_len (with_option p.base r.head o)) new_given in
          let was : slots_together p.super.md_len p.base ≤ 2 ^ 24 =
          subst (λ (y : Super). slots_together y.md_len p.base ≤ 2 ^ 24) (sym facts.super) facts.few in
          omega (arith, less, same, was);
      lawful = subst (IsLawful p.super.md_len) (sym unseen)
          (subst (λ (y : Super). IsLawful y.md_len (resolved p.base)) (sym facts.super) facts.lawful);
      clusters = t.laid.clusters;
    }
