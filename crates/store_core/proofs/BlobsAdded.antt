-- Masks to which blobs are added, head by head.
use Rattle.std.proofs.Common.{◌≡◌, ◌≢◌, ◌∙◌, ℕ, ◌+◌, ◌<◌, true, false, List, Option, Some, None, IsSome, length}
use Rattle.std.proofs.Common.{refl, sym, ap, subst, inl, inr, arith}
use Rattle.std.specs.Option.{option_and_then}
use Rattle.std.proofs.lemmas.Bool.{cases_eq}
use Rattle.std.proofs.lemmas.List.{get_or-set_same, get_or-set_other, length-set}
use Rattle.bit_array.specs.Bits.{is_in}
use Rattle.super_block.specs.declared.masks.Masks.{Masks}
use Rattle.blob_meta.specs.declared.meta.Meta.{Meta}
use Rattle.blob_meta.specs.Faults.{clusters_held}
use Rattle.md_chain.specs.Chain.{is_among}
use Rattle.store_model.specs.Maps.{Metas, Chains}
use Rattle.store_model.specs.Places.{IsLinked}
use Rattle.store_model.proofs.Sets.{length_all_set}
use Rattle.running_store.specs.Recovered.{chains_of}
use Rattle.job_begins.proofs.ClustersAlone.{set_with}
use Rattle.job_begins.proofs.CutClusters.{among_slots, in_slot}
use Rattle.store_core.specs.Removing.{masks_with, those_below, AreWith, FitMasks}
use Rattle.store_core.proofs.Starts.{below_past, next_here, next_none, next_other}
use Rattle.store_core.proofs.UsedAtStart.{some_of}

-- what fits the masks fits masks of the same sizes
pub fits_still : (blobs : Metas) (chains : Chains) (old now : Masks) (end : ℕ) → FitMasks blobs chains old
    → AreWith (those_below blobs end) chains old now → FitMasks blobs chains now
fits_still blobs chains old now end fit with = record {
  chain = fit.chain;
  head = λ h some. subst (λ n. h < n) (sym with.head_count) (fit.head h some);
  pages = λ place x. subst (λ n. place < n) (sym with.page_count) (fit.pages place x);
  clusters = λ h m c there among. subst (λ n. c < n) (sym with.cluster_count) (fit.clusters h m c there among);
}

no_link : (blobs : Metas) (chains : Chains) (place : ℕ) → ((h : ℕ) → blobs h ≡ None)
    → IsLinked (chains_of blobs chains) place → {X : Type 0} → X
no_link blobs chains place none x = absurd (let bad = sym (ap (option_and_then (λ (m : Meta). chains x.head))
    (none x.head)) ∙ x.chain in cc bad)

module _ (blobs : Metas) (chains : Chains) (old now : Masks) (end : ℕ)
    (with : AreWith (those_below blobs end) chains old now) where
  -- a head without a blob adds nothing
  pub same_added : blobs end ≡ None → AreWith (those_below blobs (end + 1)) chains old now
  same_added none = subst (λ (b : Metas). AreWith b chains old now) (sym (next_none blobs end none)) with

  module _ (fit : FitMasks blobs chains now) (m : Meta) (chain : List ℕ) (there : blobs end ≡ Some m)
      (is : chains end ≡ Some chain) where
    abbrev so_far : Metas
    so_far = those_below blobs end

    abbrev then : Metas
    then = those_below blobs (end + 1)

    abbrev next : Masks
    next = masks_with now end m chain

    here : then end ≡ Some m
    here = next_here blobs end ∙ there

    before : so_far end ≡ None
    before = below_past blobs end end (omega arith)

    chain_here : chains_of then chains end ≡ Some chain
    chain_here = ap (option_and_then (λ (x : Meta). chains end)) here ∙ is

    chain_other : (h : ℕ) → h ≢ end → chains_of then chains h ≡ chains_of so_far chains h
    chain_other h ne = ap (option_and_then (λ (x : Meta). chains h)) (next_other blobs end h ne)

    apart : (h : ℕ) (x : Meta) → so_far h ≡ Some x → h ≢ end
    apart h x is e = let bad = sym before ∙ ap so_far (sym e) ∙ is in cc bad

    apart_linked : (place : ℕ) (x : IsLinked (chains_of so_far chains) place) → x.head ≢ end
    apart_linked place x e =
        let none : chains_of so_far chains end ≡ None = ap (option_and_then (λ (x : Meta). chains end)) before in
        let bad = sym none ∙ ap (chains_of so_far chains) (sym e) ∙ x.chain in cc bad

    pages_low : (place : ℕ) → is_among place chain ≡ true → place < length now.pages
    pages_low place among = fit.pages place (record {
      head = end;
      pages = chain;
      chain = ap (option_and_then (λ (x : Meta). chains end)) there ∙ is;
      among = among;
    })

    clusters_low : (c : ℕ) → is_among c (clusters_held m.map) ≡ true → c < length now.clusters
    clusters_low c among = fit.clusters end m c there among

    -- the blob at the next head adds its head, its chain's pages and its clusters
    pub more_added : AreWith (those_below blobs (end + 1)) chains old (masks_with now end m chain)
    more_added = record {
      page_count = length_all_set now.pages chain true ∙ with.page_count;
      cluster_count = length_all_set now.clusters (clusters_held m.map) true ∙ with.cluster_count;
      head_count = length-set now.blobs end true ∙ with.head_count;
      pages = λ place.
          let set = set_with now.pages chain pages_low place in (
            λ in_use. elim (set.0 in_use) [
              | inl was ↦ elim ((with.pages place).0 was) [
                | inl first ↦ inl first
                | inr x ↦ inr (record {
                  head = x.head;
                  pages = x.pages;
                  chain = chain_other x.head (apart_linked place x) ∙ x.chain;
                  among = x.among;
                })
              ]
              | inr among ↦ inr (record { head = end; pages = chain; chain = chain_here; among = among })
            ],
            λ o. set.1 (elim o [
              | inl first ↦ inl ((with.pages place).1 (inl first))
              | inr x ↦ elim (cases_eq x.head end) [
                | inl e ↦
                    let one : x.pages ≡ chain =
                    (let both = sym x.chain ∙ ap (chains_of then chains) e ∙ chain_here in cc both) in
                    inr (subst (λ (l : List ℕ). is_among place l ≡ true) one x.among)
                | inr ne ↦ inl ((with.pages place).1 (inr (record {
                  head = x.head;
                  pages = x.pages;
                  chain = sym (chain_other x.head ne) ∙ x.chain;
                  among = x.among;
                })))
              ]
            ]),
          );
      clusters = λ cluster.
          let set = set_with now.clusters (clusters_held m.map) clusters_low cluster in (
            λ in_use. elim (set.0 in_use) [
              | inl was ↦ elim ((with.clusters cluster).0 was) [
                | inl first ↦ inl first
                | inr x ↦ inr (record {
                  head = x.head;
                  meta = x.meta;
                  there = next_other blobs end x.head (apart x.head x.meta x.there) ∙ x.there;
                  place = x.place;
                  in_slot = x.in_slot;
                })
              ]
              | inr among ↦
                  let at = in_slot m.map cluster among in
                  inr (record { head = end; meta = m; there = here; place = at.i; in_slot = at.at })
            ],
            λ o. set.1 (elim o [
              | inl first ↦ inl ((with.clusters cluster).1 (inl first))
              | inr x ↦ elim (cases_eq x.head end) [
                | inl e ↦
                    let one : x.meta ≡ m = (let both = sym x.there ∙ ap then e ∙ here in cc both) in
                    inr (subst (λ (n : Meta). is_among cluster (clusters_held n.map) ≡ true) one
                    (among_slots x.meta.map x.place cluster x.in_slot))
                | inr ne ↦ inl ((with.clusters cluster).1 (inr (record {
                  head = x.head;
                  meta = x.meta;
                  there = sym (next_other blobs end x.head ne) ∙ x.there;
                  place = x.place;
                  in_slot = x.in_slot;
                })))
              ]
            ]),
          );
      heads = λ head. elim (cases_eq head end) [
        | inl e ↦
            let low = fit.head end (subst (λ (o : Option Meta). IsSome o) (sym there) refl) in (
              λ _. inr (subst (λ (h : ℕ). IsSome (then h)) (sym e)
                  (subst (λ (o : Option Meta). IsSome o) (sym here) refl)),
              λ _. ap (is_in next.blobs) e ∙ get_or-set_same now.blobs end true false low,
            )
        | inr ne ↦
            let same : is_in next.blobs head ≡ is_in now.blobs head =
            get_or-set_other now.blobs end head true false ne in
            let at : then head ≡ so_far head = next_other blobs end head ne in (
              λ set. elim ((with.heads head).0 (sym same ∙ set)) [
                | inl first ↦ inl first
                | inr some ↦ inr (subst (λ (o : Option Meta). IsSome o) (sym at) some)
              ],
              λ o. same ∙ (with.heads head).1 (elim o [
                | inl first ↦ inl first
                | inr some ↦ inr (subst (λ (o : Option Meta). IsSome o) at some)
              ]),
            )
      ];
    }

-- the next head adds its blob, where one is there
pub added_next : (blobs : Metas) (chains : Chains) (old now next : Masks) (end : ℕ) → FitMasks blobs chains old
    → AreWith (those_below blobs end) chains old now → (blobs end ≡ None → next ≡ now)
    → ((m : Meta) (chain : List ℕ) → blobs end ≡ Some m → chains end ≡ Some chain
    → next ≡ masks_with now end m chain)
    → AreWith (those_below blobs (end + 1)) chains old next
added_next blobs chains old now next end fit with none added = by (blobs end) refl
  where
    by : (o : Option Meta) → blobs end ≡ o → AreWith (those_below blobs (end + 1)) chains old next
    by None is = subst (AreWith (those_below blobs (end + 1)) chains old) (sym (none is))
        (same_added blobs chains old now end with is)
    by (Some m) is =
        let chain = some_of (chains end) (fit.chain end (subst (λ (o : Option Meta). IsSome o) (sym is) refl)) in
        subst (AreWith (those_below blobs (end + 1)) chains old) (sym (added m chain.0 is chain.1))
        (more_added blobs chains old now end with (fits_still blobs chains old now end fit with) m chain.0 is chain.1)
