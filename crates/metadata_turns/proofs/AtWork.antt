-- What is known of the running job: the pages of its plan, and its places.
use Rattle.std.proofs.Common.{◌≡◌, ℕ, zero, suc, ◌<◌, true, false, All, List, [], ◌∷◌, length, get_or, Some}
use Rattle.std.proofs.Common.{None, refl, sym, ◌∙◌, ap, subst, arith, inl, inr, drop, take, ◌++◌, ◌+◌, Option, add-one}
use Rattle.std.specs.Prelude.{slice_get}
use Rattle.std.proofs.Math.Seq.{drop-length}
use Rattle.std.proofs.lemmas.Bool.{cases_Bool}
use Rattle.bit_array.specs.Bits.{is_in}
use Rattle.md_chain.specs.Chain.{is_among}
use Rattle.md_chain.specs.declared.plan.PlannedPage.{PlannedPage}
use Rattle.store_model.specs.StoreState.{JobState, StoreState, planned_at}
use Rattle.running_store.specs.declared.job.Serves.{Serves}
use Rattle.store_model.specs.Places.{held_by, AreDistinct}
use Rattle.store_model.specs.Jobs.{gained_by, places_of, JobStands, CanReplace, Lays}
use Rattle.store_model.specs.RunInvariant.{RunsWell}
use Rattle.store_model.proofs.Sets.{among_first, among_later}
use Rattle.store_model.proofs.Used.{within}
use Rattle.running_store.specs.RunningState.{IsRunning}
use Rattle.running_store.proofs.Cleared.{among_get}
use Rattle.running_store.proofs.PlainFacts.{got}
use Rattle.running_store.specs.declared.replacements.Planned.{Planned}
use Rattle.running_store.specs.Jobs.{commit_in, erasing_for, replacing_of, writing_for}
use Rattle.store_model.specs.Phases.{page_in, held_in, Erases, Frees, Phase, Replacing, erasing, taken_in}
use Rattle.store_model.specs.Phases.{Replaces, taken_by}
use Rattle.store_model.proofs.Phases.{planned_behind, held_behind, lays_reached}
use Rattle.blob_meta.specs.declared.meta.Meta.{Meta}
use Rattle.store_model.proofs.LeftToDo.{among_left, distinct_left}
use Rattle.job_views.proofs.PlannedPages.{among_at, page_of, place_of}
use Rattle.std.specs.Prelude.{if◌then◌else◌, is_some, Bool}

-- ---- places of a list

pub drop_one : (l : List ℕ) (k x : ℕ) → slice_get l k ≡ Some x → drop k l ≡ x ∷ drop (suc k) l
drop_one [] k x is = absurd (cc is)
drop_one (y ∷ ys) zero x is = let e : y ≡ x = cc is in ap (λ n. n ∷ ys) e
drop_one (y ∷ ys) (suc k) x is = drop_one ys k x is

pub take_one : (l : List ℕ) (k x : ℕ) → slice_get l k ≡ Some x → take (suc k) l ≡ take k l ++ x ∷ []
take_one [] k x is = absurd (cc is)
take_one (y ∷ ys) zero x is = let e : y ≡ x = cc is in ap (λ n. n ∷ []) e
take_one (y ∷ ys) (suc k) x is = ap (λ l. y ∷ l) (take_one ys k x is)

take_drop : (k : ℕ) (l : List ℕ) → take k l ++ drop k l ≡ l
take_drop zero l = refl
take_drop (suc k) [] = refl
take_drop (suc k) (x ∷ xs) = ap (λ t. x ∷ t) (take_drop k xs)

-- ---- a job of which fresh pages are written

module _ (p : StoreState) (r : IsRunning p) (runs : p.stopped ≡ None) where
  pub well : RunsWell r.first p
  well = r.facts.well runs

  -- a place that is held is in use, and so of the region
  held_low : (x : ℕ) → is_among x (held_by p.job) ≡ true → x < p.super.md_len
  held_low x among =
      let low : x < length p.pages = within p.pages x (well.pages.held_too x among) in
      omega (arith, low, well.pages.count)

  module _ (serves : Serves) (planned : Planned) (old : List ℕ) (written : ℕ) (more : List Phase)
      (is : p.job ≡ Some (writing_for serves planned old written more)) where
    abbrev j : JobState
    j = writing_for serves planned old written more

    abbrev fresh : List ℕ
    fresh = drop 1 planned.chain

    abbrev replacing : Replacing
    replacing = replacing_of planned old

    -- what comes behind the fresh pages
    abbrev pub behind : List Phase
    behind = Replaces replacing (commit_in planned) ∷ erasing old old more

    pub stands : JobStands p j
    stands = well.job j is

    lays : Lays p.super p.base p.chains (gained_by p.rows j) fresh behind
    lays = subst (λ w. Lays p.super p.base p.chains (gained_by p.rows j) w behind) (take_drop written fresh)
        (lays_reached p.super p.base p.chains (gained_by p.rows j) (take written fresh) (drop written fresh) behind
        stands.lays)

    pub can : CanReplace p.super p.base p.chains (gained_by p.rows j) fresh replacing
    can = lays.0

    held_fresh : (x : ℕ) → is_among x fresh ≡ true → is_among x (held_by p.job) ≡ true
    held_fresh x among =
        let held : held_by p.job ≡ taken_by replacing ++ taken_in (erasing old old more) =
        ap held_by is ∙ held_behind (drop written fresh) behind in
        subst (λ l. is_among x l ≡ true) (sym held)
        (among_left x (taken_by replacing) (taken_in (erasing old old more))
        (taken (is_some planned.effects.rooms.chain)))
      where
        taken : (makes : Bool) → is_among x (if makes then planned.head ∷ fresh else fresh) ≡ true
        taken true = among_later x planned.head fresh among
        taken false = among

    -- the chain of a blob that is there
    pub chain_there : is_some planned.effects.rooms.chain ≡ false → p.chains planned.head ≡ Some (planned.head ∷ old)
    chain_there not = can.chain ∙ ap (λ b. if b then None else Some (planned.head ∷ old)) not

    distinct : AreDistinct (places_of planned.pages)
    distinct =
        let differ : AreDistinct (taken_by replacing ++ taken_in (erasing old old more)) =
        subst AreDistinct (held_behind (drop written fresh) behind) stands.distinct in
        let taken : AreDistinct (taken_by replacing) =
        distinct_left (taken_by replacing) (taken_in (erasing old old more)) differ in
        subst AreDistinct (sym can.places) (elim (cases_Bool (is_some planned.effects.rooms.chain)) [
          | inl makes ↦ subst (λ (b : Bool). AreDistinct (if b then planned.head ∷ fresh else fresh)) makes taken
          | inr not ↦ (
            elim (cases_Bool (is_among planned.head fresh)) [
              | inl among ↦ absurd (well.pages.apart planned.head (held_fresh planned.head among) (record {
                head = planned.head;
                pages = planned.head ∷ old;
                chain = chain_there not;
                among = among_first planned.head old;
              }))
              | inr out ↦ out
            ],
            subst (λ (b : Bool). AreDistinct (if b then planned.head ∷ fresh else fresh)) not taken,
          )
        ])

    -- the next fresh page
    pub next_place : (k : ℕ) (x : PlannedPage) → slice_get planned.pages (suc k) ≡ Some x
        → slice_get fresh k ≡ Some x.place
    next_place k x at = sym (ap (λ l. slice_get l (suc k)) can.places) ∙ place_of planned.pages (suc k) x at

    pub next_page : (k : ℕ) (x : PlannedPage) → slice_get planned.pages k ≡ Some x → planned_at j x.place ≡ x.page
    next_page k x at = planned_behind (drop written fresh) behind x.place ∙ page_of planned.pages k x distinct at

    pub next_low : (k : ℕ) (x : PlannedPage) → slice_get planned.pages (suc k) ≡ Some x → x.place < p.super.md_len
    next_low k x at = held_low x.place (held_fresh x.place (among_at fresh k x.place (next_place k x at)))

    -- the head's
    pub head_page : (x : PlannedPage) → slice_get planned.pages zero ≡ Some x
        → page_in planned.pages planned.head ≡ x.page
    head_page x at =
        let here : planned.head ≡ x.place =
        let both = sym (ap (λ l. slice_get l zero) can.places) ∙ place_of planned.pages zero x at in cc both in
        ap (page_in planned.pages) here ∙ page_of planned.pages zero x distinct at

    pub head_low : planned.head < p.super.md_len
    head_low = (can.stored planned.new refl).low

    -- the plan has a page for the head, and one for each fresh place
    pub pages_planned : length planned.pages ≡ suc (length fresh)
    pages_planned = sym (length_places planned.pages) ∙ ap (λ (l : List ℕ). length l) can.places
      where
        length_places : (plan : List PlannedPage) → length (places_of plan) ≡ length plan
        length_places [] = refl
        length_places (x ∷ xs) = ap suc (length_places xs)

    -- a blob that is there has its metadata
    pub has_meta : is_some planned.effects.rooms.chain ≡ false → (m : Meta) × (p.base planned.head ≡ Some m)
    has_meta not = by (p.base planned.head) refl
      where
        by : (o : Option Meta) → p.base planned.head ≡ o → (m : Meta) × (p.base planned.head ≡ Some m)
        by None none = absurd (let bad = sym (well.chains.none planned.head none) ∙ chain_there not in cc bad)
        by (Some m) some = (m, some)

  -- ---- a job behind its replacement

  module _ (serves : Serves) (old : List ℕ) (erased : ℕ) (more : List Phase)
      (is : p.job ≡ Some (erasing_for serves old erased more)) (some : erased < length old) where
    -- what is left
    pub one_more : (place : ℕ) → slice_get old erased ≡ Some place → erased + 1 < length old
        → (erasing_for serves old erased more).todo ≡ Erases place ∷ (erasing_for serves old (suc erased) more).todo
    one_more place at later =
        let next = get_or old (suc erased) 0 in
        let got_next : slice_get old (suc erased) ≡ Some next = got old (suc erased) 0 (omega (arith, later)) in
        ap (λ l. erasing old l more)
        (drop_one old erased place at ∙ ap (λ l. place ∷ l) (drop_one old (suc erased) next got_next))
        ∙ ap (λ l. Erases place ∷ erasing old l more) (sym (drop_one old (suc erased) next got_next))

    pub last_one : (place : ℕ) → slice_get old erased ≡ Some place → erased + 1 ≡ length old
        → (erasing_for serves old erased more).todo ≡ Frees place old ∷ more
    last_one place at last =
        let none : drop (suc erased) old ≡ [] = ap (λ n. drop n old) (sym (add-one erased) ∙ last) ∙ drop-length old in
        ap (λ l. erasing old l more) (drop_one old erased place at ∙ ap (λ l. place ∷ l) none)

    held_here : held_by p.job ≡ old ++ taken_in more
    held_here = ap held_by is ∙ held_erasing old (drop erased old) more (λ none. some_left old erased some none)
      where
        some_left : (l : List ℕ) (k : ℕ) → k < length l → drop k l ≡ [] → ⊥
        some_left [] k low none = omega (arith, low)
        some_left (x ∷ xs) zero low none = cc none
        some_left (x ∷ xs) (suc k) low none = some_left xs k (omega (arith, low)) none

        held_erasing : (old places : List ℕ) (more : List Phase) → (places ≡ [] → ⊥)
            → held_in (erasing old places more) ≡ old ++ taken_in more
        held_erasing old [] more left = absurd (left refl)
        held_erasing old (p ∷ []) more left = refl
        held_erasing old (p ∷ q ∷ ps) more left = held_erasing old (q ∷ ps) more (λ bad. cc bad)

    pub old_low : (x : ℕ) → is_among x old ≡ true → x < p.super.md_len
    old_low x among = held_low x
        (subst (λ l. is_among x l ≡ true) (sym held_here) (among_left x old (taken_in more) among))

    pub old_in_use : All (λ x. is_in p.pages x ≡ true) old
    old_in_use k d low = well.pages.held_too (get_or old k d) (subst (λ l. is_among (get_or old k d) l ≡ true)
        (sym held_here) (among_left (get_or old k d) old (taken_in more) (among_get old k d low)))

    pub old_distinct : AreDistinct old
    old_distinct =
        let held : held_in (erasing_for serves old erased more).todo ≡ old ++ taken_in more =
        sym (ap held_by is) ∙ held_here in
        distinct_left old (taken_in more)
        (subst AreDistinct held (well.job (erasing_for serves old erased more) is).distinct)
