-- Masks that are what blobs claim.
use Rattle.std.proofs.Common.{◌≡◌, ℕ, ◌<◌, ◌⊎◌, Bool, true, false, List, [], length, Option, Some, None, IsSome}
use Rattle.std.proofs.Common.{refl, sym, subst, ◌∙◌, inl, inr}
use Rattle.std.specs.Prelude.{◌↔◌}
use Rattle.std.proofs.lemmas.Bool.{both_ways}
use Rattle.std.proofs.lemmas.List.{ext_get_or}
use Rattle.bit_array.specs.Bits.{is_in}
use Rattle.blob_meta.specs.declared.meta.Meta.{Meta}
use Rattle.clean_stop.specs.Masks.{MasksFit, SaysMasks}
use Rattle.page_disk.specs.Disk.{Image}
use Rattle.running_store.specs.Recovered.{chains_of}
use Rattle.store_model.specs.Maps.{Metas, Chains}
use Rattle.store_model.specs.Places.{Unclaimed, UsedClusters, UsedPages}
use Rattle.store_model.specs.Regions.{look_of, region_of}
use Rattle.super_block.specs.Numbers.{clusters_of, fixed_clusters_of}
use Rattle.super_block.specs.declared.masks.Masks.{Masks}
use Rattle.super_block.specs.declared.page.Super.{Super}
use Rattle.unclean_load.specs.Heads.{PlaceSays}
use Rattle.unclean_load.specs.Quick.{AreClaimed, AreFaulty, AreListed, IsQuick}
use Rattle.unclean_load.specs.Reading.{AreRead}
use Rattle.unclean_load.specs.Sharing.{AreCounted, copies}
use Rattle.unclean_load.specs.declared.heads.Heads.TheVariants.{Listed}
use Rattle.unclean_load.proofs.ChainsOf.{same_chains}
use Rattle.unclean_load.proofs.ClaimedClusters.{counted_used}
use Rattle.unclean_load.proofs.OfResolved.{read_below}
use Rattle.unclean_load.proofs.PlaceSays.{one_chains, one_metas}

-- ---- one set is claimed

same_bool : (a b : Bool) → (a ≡ true → b ≡ true) → (b ≡ true → a ≡ true) → a ≡ b
same_bool true b to from = sym (to refl)
same_bool false true to from = from refl
same_bool false false to from = refl

-- chains claim one set of pages
pub one_pages : (md_len : ℕ) (a b : List Bool) (chains : Chains) → UsedPages md_len a chains []
    → UsedPages md_len b chains [] → a ≡ b
one_pages md_len a b chains x y =
    ext_get_or false a b (x.count ∙ sym y.count)
    (λ i lt. same_bool (is_in a i) (is_in b i) (to a b x y i) (to b a y x i))
  where
    to : (a b : List Bool) → UsedPages md_len a chains [] → UsedPages md_len b chains [] → (i : ℕ) → is_in a i ≡ true
        → is_in b i ≡ true
    to a b x y i is = elim (x.no_other i is) [
      | inl linked ↦ y.linked i linked
      | inr held ↦ absurd (let bad : false ≡ true = held in cc bad)
    ]

-- and maps one set of clusters
pub one_clusters : (s : Super) (a b : List Bool) (metas : Metas) → UsedClusters s a metas Unclaimed
    → UsedClusters s b metas Unclaimed → a ≡ b
one_clusters s a b metas x y =
    ext_get_or false a b (x.count ∙ sym y.count)
    (λ i lt. same_bool (is_in a i) (is_in b i) (to a b x y i (subst (λ (n : ℕ). i < n) x.count lt))
    (to b a y x i (subst (λ (n : ℕ). i < n) x.count lt)))
  where
    to : (a b : List Bool) → UsedClusters s a metas Unclaimed → UsedClusters s b metas Unclaimed → (i : ℕ)
        → i < clusters_of s → is_in a i ≡ true → is_in b i ≡ true
    to a b x y i lt is = elim (x.no_other i is) [
      | inl fixed ↦ y.fixed i fixed lt
      | inr (inl mapped) ↦ y.mapped i mapped
      | inr (inr never) ↦ absurd never
    ]

-- ---- what was counted of the blobs that were read

module _ (s : Super) (metas : Metas) (chains : Chains) (read : AreRead s metas chains) (used bits : List Bool)
    (twice : Option ℕ) (are_used : UsedPages s.md_len used (chains_of metas chains) [])
    (count : length bits ≡ clusters_of s)
    (counted : AreCounted (fixed_clusters_of s) (copies s.md_len metas) bits twice) where
  pages_used : UsedPages s.md_len used chains []
  pages_used = subst (λ (l : Chains). UsedPages s.md_len used l []) (same_chains metas chains read.none) are_used

  clusters_used : UsedClusters s bits metas Unclaimed
  clusters_used = counted_used s metas bits twice (read_below s metas read.stored) count counted

  -- sets that are the same are claimed
  pub both_claimed : (pages clusters : List Bool) → used ≡ pages → bits ≡ clusters
      → UsedPages s.md_len pages chains [] × UsedClusters s clusters metas Unclaimed
  both_claimed pages clusters p c = (
    subst (λ (b : List Bool). UsedPages s.md_len b chains []) p pages_used,
    subst (λ (b : List Bool). UsedClusters s b metas Unclaimed) c clusters_used,
  )

  -- and others aren't
  pub not_pages : (pages clusters : List Bool) → (used ≡ pages → ⊥) → UsedPages s.md_len pages chains []
      → UsedClusters s clusters metas Unclaimed → ⊥
  not_pages pages clusters differ x y = differ (one_pages s.md_len used pages chains pages_used x)

  pub not_clusters : (pages clusters : List Bool) → (bits ≡ clusters → ⊥) → UsedPages s.md_len pages chains []
      → UsedClusters s clusters metas Unclaimed → ⊥
  not_clusters pages clusters differ x y = differ (one_clusters s bits clusters metas clusters_used y)

-- ---- the masks of a clean store

-- whether there is a blob
pub some_of : {o : Option Meta} {m : Meta} → o ≡ Some m → IsSome o
some_of is = subst IsSome (sym is) refl

pub none_of : {o : Option Meta} → o ≡ None → IsSome o → ⊥
none_of is some = both_ways false refl (subst IsSome is some)

module _ (s : Super) (masks : Masks) (image : Image) (metas : Metas) (chains : Chains) (fit : MasksFit s masks)
    (whole : AreListed (look_of (region_of s) image) (region_of s) masks.blobs metas chains) where
  heads_are : (h : ℕ) → (is_in masks.blobs h ≡ true) ↔ IsSome (metas h)
  heads_are h = by (whole.says h)
    where
      by : PlaceSays (look_of (region_of s) image) (region_of s) (Listed masks.blobs) h (metas h) (chains h)
          → (is_in masks.blobs h ≡ true) ↔ IsSome (metas h)
      by (inl a) = (λ _. some_of a.blob.meta_is, λ _. a.head)
      by (inr a) = (
        λ is. absurd (both_ways (is_in masks.blobs h) a.no_head is),
        λ some. absurd (none_of a.no_meta some),
      )

  -- masks of pages and of clusters that the heads of the mask claim are trusted
  pub is_trusted : s.clean ≡ 1 → SaysMasks s masks image → UsedPages s.md_len masks.pages chains []
      → UsedClusters s masks.clusters metas Unclaimed → IsQuick s masks image
  is_trusted clean says pages clusters = record {
    clean = clean;
    says = says;
    trusted = inl (record {
      metas = metas;
      chains = chains;
      blobs = whole;
      claims = record { pages = pages; clusters = clusters; count = fit.blobs; blobs = λ h _. heads_are h };
    });
  }

  -- and others aren't
  pub not_trusted : (UsedPages s.md_len masks.pages chains [] → UsedClusters s masks.clusters metas Unclaimed → ⊥)
      → IsQuick s masks image → ⊥
  not_trusted differs quick = by quick.trusted
    where
      by : AreClaimed s masks image ⊎ AreFaulty (look_of (region_of s) image) (region_of s) masks.blobs → ⊥
      by (inl c) =
          let m : c.metas ≡ metas =
          one_metas (look_of (region_of s) image) (region_of s) (Listed masks.blobs) c.metas c.chains c.blobs metas
          chains whole in
          let l : c.chains ≡ chains =
          one_chains (look_of (region_of s) image) (region_of s) (Listed masks.blobs) c.metas c.chains c.blobs metas
          chains whole in
          differs (subst (λ (x : Chains). UsedPages s.md_len masks.pages x []) l c.claims.pages)
          (subst (λ (x : Metas). UsedClusters s masks.clusters x Unclaimed) m c.claims.clusters)
      by (inr f) = f metas chains whole
