-- The clusters that a job claims for slots that are to read as zeros.
use Rattle.std.proofs.Common.{◌≡◌, ℕ, ◌+◌, ◌*◌, ◌%◌, ◌<◌, ◌≤◌, true, false, List, Some, None}
use Rattle.std.proofs.Common.{sym, ap, ◌∙◌, subst, inl, inr, arith}
use Rattle.std.proofs.lemmas.Bool.{both_ways, cases_eq, cases_lt}
use Rattle.std.proofs.lemmas.Bool.Decides.{nat_tests}
use Rattle.std.proofs.lemmas.Nat.{div-mul-add}
use Rattle.std.proofs.Math.Nat.{mod-lt}
use Rattle.bit_array.specs.Bits.{is_in}
use Rattle.page_disk.specs.Disk.{Image}
use Rattle.super_block.specs.Numbers.{cluster_pages_of, clusters_of, fixed_clusters_of}
use Rattle.volume_model.specs.Volumes.{zero_page}
use Rattle.blob_meta.specs.declared.meta.Meta.{Meta}
use Rattle.blob_meta.specs.Faults.{is_outside}
use Rattle.blob_meta.specs.Parents.{slot}
use Rattle.md_chain.specs.Chain.{is_among}
use Rattle.store_model.specs.Maps.{with_entry}
use Rattle.store_model.specs.Regions.{region_of}
use Rattle.store_model.specs.Jobs.{with_clusters, ReadsZeros}
use Rattle.store_model.specs.Places.{AreDistinct, AreLeastClear, IsMapped}
use Rattle.store_model.specs.RunInvariant.{RunsWell}
use Rattle.store_model.proofs.Known.{Known}
use Rattle.store_model.proofs.OneReplacement.{some_pages}
use Rattle.store_model.proofs.Sets.{are_distinct, were_clear}
use Rattle.shown_volumes.proofs.WithEntry.{given_here, given_elsewhere}
use Rattle.store_model.proofs.ZeroSlots.{each_slot, one_slot, zeroed_long, zeroed_rest, AreEmpty}
use Rattle.store_model.proofs.ZeroedBlob.{IsZeroed}

module _ (known : Known) where
  open known use {s, placed, first, script, p, facts}

  module _ (runs : p.stopped ≡ None) (claimed : List ℕ) (least : AreLeastClear p.clusters claimed) where
    well : RunsWell first p
    well = facts.well runs

    -- no map has them
    pub claimed_free : (c : ℕ) → is_among c claimed ≡ true → IsMapped p.base c → ⊥
    claimed_free c among mapped =
        both_ways (is_in p.clusters c) (were_clear p.clusters claimed least c among).clear
        (well.clusters.mapped c mapped)

    -- they are clusters of the store, behind the fixed ones
    pub claimed_far : (c : ℕ) → is_among c claimed ≡ true
        → (fixed_clusters_of p.super ≤ c) × (c < clusters_of p.super)
    claimed_far c among =
        let was = were_clear p.clusters claimed least c among in
        let low : c < clusters_of p.super = subst (λ n. c < n) well.clusters.count was.below in (
          elim (cases_lt c (fixed_clusters_of p.super)) [
            | inl fixed ↦ absurd (both_ways (is_in p.clusters c) was.clear (well.clusters.fixed c fixed low))
            | inr behind ↦ behind
          ],
          low,
        )

    pub claimed_inside : (c : ℕ) → is_among c claimed ≡ true
        → is_outside (region_of p.super).fixed (region_of p.super).clusters c ≡ false
    claimed_inside c among =
        let far = claimed_far c among in
        let behind = far.0 in
        let below = far.1 in
        grind (arith, nat_tests, behind, below)

    -- in slots that are empty, of metadata without one of them
    module _ (head : ℕ) (m : Meta) (slots : List ℕ) (distinct : AreDistinct slots) (empty : AreEmpty m slots)
        (had : (i c : ℕ) → slot m i ≡ Some c → IsMapped p.base c) where
      pub zeroed_is : IsZeroed m (with_clusters m slots claimed) claimed
      zeroed_is = record {
        rest = zeroed_rest m slots claimed;
        long = zeroed_long m slots claimed;
        each = each_slot m slots claimed distinct empty;
        once = one_slot m slots claimed distinct empty (are_distinct p.clusters claimed least)
            (λ i c among at. claimed_free c among (had i c at));
      }

      pub zeroed_fresh : (c : ℕ) → is_among c claimed ≡ true → ¬ IsMapped (with_entry p.base head m) c
      zeroed_fresh c among x = elim (cases_eq x.head head) [
        | inl e ↦
            let one : m ≡ x.meta = let both = sym (given_here p.base head m x.head e) ∙ x.there in cc both in
            claimed_free c among (had x.place c (subst (λ (y : Meta). slot y x.place ≡ Some c) (sym one) x.in_slot))
        | inr ne ↦ claimed_free c among (record {
          head = x.head;
          meta = x.meta;
          there = sym (given_elsewhere p.base head m x.head ne) ∙ x.there;
          place = x.place;
          in_slot = x.in_slot;
        })
      ]

  -- an image that reads zeros in them reads them at each page of each
  pub zeros_read : (claimed : List ℕ) (image : Image) → ReadsZeros p.super claimed image → (page cluster : ℕ)
      → is_among cluster claimed ≡ true
      → image (cluster * cluster_pages_of p.super + page % cluster_pages_of p.super) ≡ zero_page
  zeros_read claimed image holds page cluster among =
      let k = cluster_pages_of p.super in
      holds (cluster * k + page % k)
      (ap (λ n. is_among n claimed) (div-mul-add cluster k (page % k) (mod-lt page (some_pages known))) ∙ among)
