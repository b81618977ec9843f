-- The clusters that were counted are those in use.
use Rattle.std.proofs.Common.{◌≡◌, ◌<◌, ℕ, Bool, List, Option, IsSome, length, refl, sym, subst, inl, inr}
use Rattle.super_block.specs.declared.page.Super.{Super}
use Rattle.super_block.specs.Numbers.{clusters_of, fixed_clusters_of}
use Rattle.blob_meta.specs.Repairs.{HasHeadsBelow}
use Rattle.store_model.specs.Maps.{Metas}
use Rattle.store_model.specs.Places.{Unclaimed, UsedClusters}
use Rattle.unclean_load.specs.Sharing.{copies, AreCounted}
use Rattle.unclean_load.proofs.Slots.{mapped_copy, find_mapped}

-- clusters that are counted are those of the maps, and the fixed ones
pub counted_used : (s : Super) (metas : Metas) (bits : List Bool) (twice : Option ℕ) → HasHeadsBelow s.md_len metas
    → length bits ≡ clusters_of s → AreCounted (fixed_clusters_of s) (copies s.md_len metas) bits twice
    → UsedClusters s bits metas Unclaimed
counted_used s metas bits twice below count x = record {
  count = count;
  fixed = λ k lt below. x.first k lt (subst (λ (n : ℕ). k < n) (sym count) below);
  mapped = λ k m. x.claimed k (mapped_copy metas k s.md_len (λ h n there. below h (subst IsSome (sym there) refl)) m);
  claimed_too = λ k bad. absurd bad;
  no_other = λ k is. elim (x.no_other k is) [
    | inl first ↦ inl first
    | inr some ↦ inr (inl (find_mapped metas k s.md_len some).mapped)
  ];
  apart = λ k bad. absurd bad;
}
