-- The pages of a plan, by their places.
use Rattle.std.proofs.Common.{◌≡◌, ◌≢◌, ℕ, zero, suc, true, List, [], ◌∷◌, Some, refl, ap, subst}
use Rattle.std.specs.Prelude.{slice_get}
use Rattle.std.proofs.lemmas.Bool.{both_ways, eq-eqb, ne_eqb}
use Rattle.md_chain.specs.Chain.{is_among}
use Rattle.md_chain.specs.declared.plan.PlannedPage.{PlannedPage}
use Rattle.store_model.specs.Jobs.{places_of}
use Rattle.store_model.specs.Phases.{page_in}
use Rattle.store_model.specs.Places.{AreDistinct}
use Rattle.store_model.proofs.Sets.{among_first, among_later}

pub among_at : (ps : List ℕ) (k place : ℕ) → slice_get ps k ≡ Some place → is_among place ps ≡ true
among_at [] k place is = absurd (cc is)
among_at (p ∷ ps) zero place is =
    let e : p ≡ place = cc is in subst (λ x. is_among x (p ∷ ps) ≡ true) e (among_first p ps)
among_at (p ∷ ps) (suc k) place is = among_later place p ps (among_at ps k place is)

-- where its place stands
pub place_of : (plan : List PlannedPage) (k : ℕ) (x : PlannedPage) → slice_get plan k ≡ Some x
    → slice_get (places_of plan) k ≡ Some x.place
place_of [] k x is = absurd (cc is)
place_of (y ∷ ys) zero x is = let e : y ≡ x = cc is in ap (λ (z : PlannedPage). Some z.place) e
place_of (y ∷ ys) (suc k) x is = place_of ys k x is

-- the page for a place is the planned one, where the places differ
pub page_of : (plan : List PlannedPage) (k : ℕ) (x : PlannedPage) → AreDistinct (places_of plan)
    → slice_get plan k ≡ Some x → page_in plan x.place ≡ x.page
page_of [] k x distinct is = absurd (cc is)
page_of (y ∷ ys) zero x distinct is =
    let e : y ≡ x = cc is in
    let here : page_in (y ∷ ys) y.place ≡ y.page = rw (eq-eqb y.place y.place refl) refl in
    subst (λ (z : PlannedPage). page_in (y ∷ ys) z.place ≡ z.page) e here
page_of (y ∷ ys) (suc k) x distinct is =
    let among = among_at (places_of ys) k x.place (place_of ys k x is) in
    let ne : x.place ≢ y.place = λ e. both_ways (is_among y.place (places_of ys)) distinct.0
    (subst (λ q. is_among q (places_of ys) ≡ true) e among) in
    rw (ne_eqb x.place y.place ne) (page_of ys k x distinct.1 is)
