-- What a replacement changes of the blobs that a run sees.
use Rattle.std.proofs.Common.{◌≡◌, ◌≤◌, ◌<◌, ◌^◌, ℕ, Bool, true, false, List, [], ◌∷◌, length, Option, Some}
use Rattle.std.proofs.Common.{None}
use Rattle.std.proofs.Common.{refl, sym, ap, ◌∙◌, subst, arith}
use Rattle.std.specs.Prelude.{if◌then◌else◌, is_some, map, nat_le}
use Rattle.std.specs.Option.{option_and_then, option_map}
use Rattle.std.proofs.lemmas.Bool.Decides.{nat_tests}
use Rattle.super_block.specs.declared.page.Super.{Super}
use Rattle.volume_model.specs.Volumes.{Volumes}
use Rattle.blob_meta.specs.Faults.{too_large}
use Rattle.blob_meta.specs.declared.meta.Meta.{Meta}
use Rattle.store_model.specs.Guarding.{AreGenerations}
use Rattle.store_model.specs.Jobs.{CanReplace}
use Rattle.store_model.specs.Maps.{Map, Metas}
use Rattle.store_model.specs.Phases.{replaced, Replacing}
use Rattle.store_model.specs.Regions.{region_of}
use Rattle.store_model.specs.RunInvariant.{RunsWell}
use Rattle.store_model.specs.Steady.{IsStored}
use Rattle.store_model.specs.StoreState.{StoreState}
use Rattle.shown_volumes.proofs.MapTests.{passes}
use Rattle.store_model.proofs.LeftToDo.{chain_there}
use Rattle.store_model.proofs.Sets.{among_first}
use Rattle.store_model.proofs.WithEntry.{option_elsewhere, option_here}
use Rattle.run_work.specs.JobMoves.{ReplacesBlob}
use Rattle.run_work.specs.Work.{empty_in, empty_slots}
use Rattle.run_moves.specs.Projection.{blob_in_run, blobs_in_run}
use Rattle.run_moves.specs.Sizes.{sizes_of}

-- ---- slots of a blob

empties_few : (l : List (Option ℕ)) → empty_slots (map is_some l) ≤ length l
empties_few [] = omega arith
empties_few (None ∷ l) = let e = empties_few l in omega (arith, e)
empties_few (Some x ∷ l) = let e = empties_few l in omega (arith, e)

pub empties_by : (o : Option ℕ) (m : Meta) → empty_in (option_map (blob_in_run m) o) ≤ length m.map
empties_by None m = omega arith
empties_by (Some n) m = empties_few m.map

never_none : {X : Type 0} (b : Bool) (x : X) → b ≡ false → (if b then None else Some x) ≡ None → ⊥
never_none true x is none = cc is
never_none false x is none = cc none

short_map : (l : List (Option ℕ)) (b : Bool) → nat_le (length l) (2 ^ 20) ≡ b → too_large l ≡ None → length l ≤ 2 ^ 20
short_map l true is none = grind (arith, nat_tests, is)
short_map l false is none = absurd (never_none _ _ is none)

-- a map that a load takes has no more slots than a blob may have
pub few_slots : (s : Super) (head : ℕ) (m : Meta) → IsStored s head m → length m.map ≤ 2 ^ 20
few_slots s head m stored =
    let was = passes (region_of s).fixed (region_of s).clusters m stored.faultless in
    short_map m.map (nat_le (length m.map) (2 ^ 20)) refl was.few

-- ---- blobs with generations

-- how many slots are empty doesn't depend on the generation
abbrev pub empties_of : Option Meta → ℕ
empties_of None = 0
empties_of (Some m) = empty_slots (map is_some m.map)

module _ (base : Metas) (generations : Map ℕ) (drawn : ℕ) (are : AreGenerations base generations drawn) where
  by_both : (o : Option Meta) (g : Option ℕ) → is_some g ≡ is_some o
      → empty_in (option_and_then (λ m. option_map (blob_in_run m) g) o) ≡ empties_of o
  by_both None g same = refl
  by_both (Some m) (Some n) same = refl
  by_both (Some m) None same = absurd (cc same)

  pub empties_are : (head : ℕ) → empty_in (blobs_in_run base generations head) ≡ empties_of (base head)
  empties_are head = by_both (base head) (generations head) (are.each head)

-- ---- a replacement, of new metadata or an erasure

module _ (p : StoreState) (first : Volumes) (well : RunsWell first p) (claimed written : List ℕ) (r : Replacing)
    (can : CanReplace p.super p.base p.chains claimed written r) (generations : Map ℕ) (drawn : ℕ)
    (are : AreGenerations (replaced p.base r) generations drawn) where
  -- the blob that is there then, if one is, has no more slots than a blob may have
  few : empty_in (blobs_in_run (replaced p.base r) generations r.head) ≤ 2 ^ 20
  few = subst (λ n. n ≤ 2 ^ 20) (sym (empties_are (replaced p.base r) generations drawn are r.head
      ∙ ap empties_of (option_here p.base r.head r.new r.head refl))) (by r.new refl)
    where
      by : (o : Option Meta) → r.new ≡ o → empties_of o ≤ 2 ^ 20
      by None none = omega arith
      by (Some new) is =
          let less = empties_by (Some 0) new in
          let long = few_slots p.super r.head new (can.stored new is) in
          omega (arith, less, long)

  low : r.head < p.super.md_len
  low = by r.new refl
    where
      by : (o : Option Meta) → r.new ≡ o → r.head < p.super.md_len
      by None none = well.chains.low r.head r.head (r.head ∷ r.old) (can.chain ∙ chain_there r (can.gone none).1)
          (among_first r.head r.old)
      by (Some new) is = (can.stored new is).low

  pub replaces_blob : ReplacesBlob (sizes_of p.super) (blobs_in_run p.base p.generations)
      (blobs_in_run (replaced p.base r) generations)
  replaces_blob = record {
    head = r.head;
    inside = low;
    few = few;
    others = λ h ne. empties_are (replaced p.base r) generations drawn are h
        ∙ ap empties_of (option_elsewhere p.base r.head r.new h ne)
        ∙ sym (empties_are p.base p.generations p.drawn well.generations h);
  }
