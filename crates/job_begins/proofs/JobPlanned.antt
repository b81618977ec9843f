-- A job of one replacement: what its commit makes, and what is taken and planned for it.
use Rattle.std.proofs.Common.{◌≡◌, ◌<◌, ℕ, Bool, true, List, [], ◌∷◌, length, arith}
use Rattle.std.proofs.Common.{All, Option, Some, None, sym, ◌∙◌, ap, subst, inl, inr}
use Rattle.std.proofs.lemmas.Bool.{cases_eq}
use Rattle.std.proofs.lemmas.List.Elements.{All-from_recursion}
use Rattle.super_block.specs.declared.page.Super.{Super}
use Rattle.volume_model.specs.Xattrs.{Xattrs}
use Rattle.blob_meta.specs.declared.meta.Meta.{Meta}
use Rattle.blob_meta.specs.declared.job.Job.{Job}
use Rattle.blob_meta.specs.declared.job.Replacement.{Replacement}
use Rattle.blob_meta.specs.Parents.{slot}
use Rattle.inflate_delete.specs.DeleteJobs.{delete_job}
use Rattle.inflate_delete.specs.DeletePlans.{IsJobBeside}
use Rattle.md_chain.specs.Packing.{FitsPage}
use Rattle.md_chain.specs.declared.plan.PlannedPage.{PlannedPage}
use Rattle.store_model.specs.Maps.{Metas, with_entry}
use Rattle.store_model.specs.Regions.{region_of}
use Rattle.store_model.specs.Scans.{MetaAt}
use Rattle.store_model.specs.Phases.{page_in}
use Rattle.store_model.specs.StoreState.{StoreState}
use Rattle.store_model.specs.Places.{all_set, AreLeastClear}
use Rattle.store_model.specs.Jobs.{places_of, IsPacked, MovesClusters, Needs}
use Rattle.store_model.specs.RunInvariant.{CanBeWritten}
use Rattle.store_model.proofs.WithEntry.{given_here, given_elsewhere}
use Rattle.job_begins.specs.Begins.{job_with_zeros, taken_for}

-- attributes that can be written fit pages
pub all_fit : (xattrs : Xattrs) → CanBeWritten xattrs → All FitsPage xattrs
all_fit xattrs can = All-from_recursion FitsPage xattrs can.short

-- so do both kinds of a blob
pub both_fit : (m : Meta) → CanBeWritten m.xattrs × CanBeWritten m.internal
    → All FitsPage m.xattrs × All FitsPage m.internal
both_fit m can = (all_fit m.xattrs can.0, all_fit m.internal can.1)

-- a replacement of a blob
abbrev pub given : ℕ → Option Meta → Replacement
given head new = record { head = head; new = new }

-- one replacement is that of another job, which is the same
pub record IsSameOne (head other : ℕ) (new meta : Meta) : Type 0 where
  pub head_is : head ≡ other
  pub new_is : new ≡ meta

-- so the head and the metadata are the same
pub same_one : (head other : ℕ) (new meta : Meta) (zeros : List ℕ) (changes : Job)
    → job_with_zeros head new zeros ≡ changes → changes.list ≡ record { head = other; new = Some meta } ∷ []
    → IsSameOne head other new meta
same_one head other new meta zeros changes is list =
    let lists = ap (λ (j : Job). j.list) is ∙ list in
    let one : given head (Some new) ≡ given other (Some meta) = cc lists in
    let metas : Some new ≡ Some meta = ap (λ (x : Replacement). x.new) one in
    record { head_is = ap (λ (x : Replacement). x.head) one; new_is = cc metas }

-- a job of several replacements isn't one of one
pub many_replace : (head : ℕ) (new : Meta) (zeros : List ℕ) (changes : Job) → job_with_zeros head new zeros ≡ changes
    → 1 < length changes.list → ⊥
many_replace head new zeros changes is many =
    let one : length changes.list ≡ 1 = sym (ap (λ (j : Job). length j.list) is) in omega (arith, one, many)

-- nor does one that deletes give a blob new metadata alone
pub none_deletes : (metas : Metas) (of : ℕ) (old : Meta) (head : ℕ) (new : Meta) (zeros clones : List ℕ)
    → IsJobBeside metas of old clones (job_with_zeros head new zeros) → ⊥
none_deletes metas of old head new zeros [] is =
    let lists : given head (Some new) ∷ [] ≡ given of None ∷ [] = ap (λ (j : Job). j.list) is in
    let one : given head (Some new) ≡ given of None = cc lists in
    let bad : Some new ≡ None = ap (λ (x : Replacement). x.new) one in absurd (cc bad)
none_deletes metas of old head new zeros (clone ∷ []) is =
    many_replace head new zeros (delete_job of old clone is.0) is.2 (omega arith)
none_deletes metas of old head new zeros (clone ∷ other ∷ rest) is = is

-- What is taken and planned, over pages of which these are in use.
pub record IsReadyOn (s : Super) (bits : List Bool) (head : ℕ) (new : Meta) (makes : Bool) (after : List Bool)
    (plan : List PlannedPage) (fresh : List ℕ) : Type 0 where
  pub needs : Needs new (length fresh)
  pub least : AreLeastClear bits (taken_for makes head fresh)
  pub taken : after ≡ all_set bits (taken_for makes head fresh) true
  pub packed : IsPacked new head fresh plan
  pub planned : MetaAt (page_in plan) (region_of s) head new (head ∷ fresh)
  pub places : places_of plan ≡ head ∷ fresh

-- what a job begins with
abbrev pub IsReady : StoreState → ℕ → Meta → Bool → List Bool → List PlannedPage → List ℕ → Type 0
IsReady p = IsReadyOn p.super p.pages

-- ---- clusters stay as they are

-- a blob that is made has none
pub moves_made : (s : Super) (base : Metas) (head : ℕ) (new : Meta) → base head ≡ None → ((i : ℕ) → slot new i ≡ None)
    → MovesClusters s base (with_entry base head new) [] []
moves_made s base head new none empty = record {
  kept = λ c x. elim (cases_eq x.head head) [
    | inl e ↦ absurd (let bad = sym (ap base e ∙ none) ∙ x.there in cc bad)
    | inr ne ↦ inl (record {
      head = x.head;
      meta = x.meta;
      there = given_elsewhere base head new x.head ne ∙ x.there;
      place = x.place;
      in_slot = x.in_slot;
    })
  ];
  let_go = λ c bad. absurd (cc bad);
  gained = λ c x. elim (cases_eq x.head head) [
    | inl e ↦
        let one : new ≡ x.meta = let both = sym (given_here base head new x.head e) ∙ x.there in cc both in
        absurd (let bad = sym (empty x.place) ∙ subst (λ (m : Meta). slot m x.place ≡ Some c) (sym one) x.in_slot in
        cc bad)
    | inr ne ↦ inl (record {
      head = x.head;
      meta = x.meta;
      there = sym (given_elsewhere base head new x.head ne) ∙ x.there;
      place = x.place;
      in_slot = x.in_slot;
    })
  ];
  filled = λ c bad. absurd (cc bad);
}
