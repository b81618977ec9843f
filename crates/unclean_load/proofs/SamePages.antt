-- Images with the same pages in the fixed clusters have the same heads.
use Rattle.std.proofs.Common.{◌≡◌, ℕ, ◌+◌, ◌*◌, ◌<◌, ◌≤◌, ◌⊎◌, Bool, List, length}
use Rattle.std.proofs.Common.{Option, refl, sym, ap, subst, ◌∙◌, inl, inr, arith}
use Rattle.std.specs.Prelude.{◌&&◌, nat_lt}
use Rattle.std.proofs.Math.Nat.{mul-le-mul_right}
use Rattle.std.proofs.lemmas.Bool.{cases_Bool, ltb-true}
use Rattle.bit_array.specs.Fault.{head_fault}
use Rattle.bit_array.specs.Mask.{bits_in, mask_pages}
use Rattle.blob_meta.specs.declared.meta.Meta.{Meta}
use Rattle.clean_stop.specs.Masks.{IsMaskPage, SaysMask, SaysMasks, StandsApart}
use Rattle.md_chain.proofs.Links.{agree_by}
use Rattle.md_chain.specs.Chain.{Look}
use Rattle.page_disk.specs.Disk.{Image}
use Rattle.store_model.proofs.Scanning.{meta_kept}
use Rattle.store_model.specs.Maps.{Metas, Chains}
use Rattle.store_model.specs.Regions.{MdRegion, look_of, region_of}
use Rattle.store_model.specs.Scans.{is_head}
use Rattle.store_model.specs.StateLaws.{HasFixedPagesOf}
use Rattle.super_block.specs.Numbers.{cluster_pages_of, fixed_clusters_of}
use Rattle.super_block.specs.Placed.{IsPlaced}
use Rattle.super_block.specs.declared.masks.Masks.{Masks}
use Rattle.super_block.specs.declared.page.Super.{Super}
use Rattle.unclean_load.specs.Heads.{AreWhole, PlaceSays, has_head}
use Rattle.unclean_load.specs.Quick.{AreClaimed, AreFaulty, AreHeads, HasNoHeadBesideMask, IsQuick}
use Rattle.unclean_load.specs.declared.heads.Heads.{Heads}
use Rattle.unclean_load.specs.declared.heads.Heads.TheVariants.{ByScan, Listed}
use Rattle.unclean_load.proofs.MaskTexts.{text_kept}
use Rattle.unclean_load.proofs.PlaceSays.{in_chain}

-- ---- the same pages in the metadata region

module _ (look other : Look) (r : MdRegion) (same : (q : ℕ) → q < r.len → other q ≡ look q) where
  head_kept : (heads : Heads) (h : ℕ) → has_head heads other r.len h ≡ has_head heads look r.len h
  head_kept (Listed places) h = refl
  head_kept ByScan h = elim (cases_Bool (nat_lt h r.len)) [
    | inl t ↦ ap (λ (page : List ℕ). nat_lt h r.len && is_head h page) (same h (ltb-true h r.len t))
    | inr f ↦ rw f refl
  ]

  place_kept : (heads : Heads) (h : ℕ) (m : Option Meta) (c : Option (List ℕ)) → PlaceSays look r heads h m c
      → PlaceSays other r heads h m c
  place_kept heads h m c (inl a) =
      let b = a.blob in
      inl (record {
        head = head_kept heads h ∙ a.head;
        blob = record {
          meta = b.meta;
          pages = b.pages;
          says =
              meta_kept look other r h b.meta b.pages
              (agree_by look other b.pages
              (λ q among. same q (in_chain look r heads h m c b.pages b.pages_are (inl a) q among).low)) b.says;
          meta_is = b.meta_is;
          pages_are = b.pages_are;
        };
      })
  place_kept heads h m c (inr a) =
      inr (record { no_head = head_kept heads h ∙ a.no_head; no_meta = a.no_meta; no_chain = a.no_chain })

  -- heads that are whole stay so
  pub whole_kept : (heads : Heads) (metas : Metas) (chains : Chains) → AreWhole look r heads metas chains
      → AreWhole other r heads metas chains
  whole_kept heads metas chains whole =
      record { says = λ h. place_kept heads h (metas h) (chains h) (whole.says h); few = whole.few }

-- ---- the same pages of a mask

mask_kept : (start kind : ℕ) (bits : List Bool) (image other : Image)
    → ((k : ℕ) → k < mask_pages (length bits) → other (start + k) ≡ image (start + k))
    → SaysMask start kind bits image → SaysMask start kind bits other
mask_kept start kind bits image other same says =
    let none : start + 0 ≡ start = omega arith in
    let first : other start ≡ image start =
    subst (λ (page : ℕ). other page ≡ image page) none (same 0 (omega arith)) in
    record {
      head = ap (head_fault kind (length bits)) first ∙ says.head;
      says =
          says.says
          ∙ ap (bits_in (length bits)) (sym (text_kept start (mask_pages (length bits)) image other same));
    }

-- ---- a store

module _ (s : Super) (image other : Image) (region : (q : ℕ) → q < s.md_len → other (s.md_start + q) ≡ image
    (s.md_start + q)) (masks_too : (page : ℕ) → IsMaskPage s page → other page ≡ image page) where
  says_kept : (masks : Masks) → SaysMasks s masks image → SaysMasks s masks other
  says_kept masks says = record {
    fit = says.fit;
    pages =
        mask_kept s.used_page_mask_start 0 masks.pages image other
        (λ k lt. masks_too _
        (inl (omega arith, let e = ap mask_pages says.fit.pages in omega (arith, lt, e)))) says.pages;
    clusters =
        mask_kept s.used_cluster_mask_start 1 masks.clusters image other
        (λ k lt. masks_too _
        (inr (inl (omega arith, let e = ap mask_pages says.fit.clusters in omega (arith, lt, e))))) says.clusters;
    blobs =
        mask_kept s.used_blobid_mask_start 2 masks.blobs image other
        (λ k lt. masks_too _
        (inr (inr (omega arith, let e = ap mask_pages says.fit.blobs in omega (arith, lt, e))))) says.blobs;
  }

  abbrev before : Look
  before = look_of (region_of s) image

  abbrev after : Look
  after = look_of (region_of s) other

  claims_kept : (masks : Masks) → AreClaimed s masks image → AreClaimed s masks other
  claims_kept masks c = record {
    metas = c.metas;
    chains = c.chains;
    blobs = whole_kept before after (region_of s) region (Listed masks.blobs) c.metas c.chains c.blobs;
    claims = c.claims;
  }

  faulty_kept : (masks : Masks) → AreFaulty before (region_of s) masks.blobs → AreFaulty after (region_of s) masks.blobs
  faulty_kept masks faulty metas chains whole =
      faulty metas chains
      (whole_kept after before (region_of s) (λ q lt. sym (region q lt)) (Listed masks.blobs) metas chains whole)

  -- masks that are trusted stay so
  pub quick_kept : (masks : Masks) → IsQuick s masks image → IsQuick s masks other
  quick_kept masks x = record { clean = x.clean; says = says_kept masks x.says; trusted = by x.trusted }
    where
      by : AreClaimed s masks image ⊎ AreFaulty before (region_of s) masks.blobs
          → AreClaimed s masks other ⊎ AreFaulty after (region_of s) masks.blobs
      by (inl c) = inl (claims_kept masks c)
      by (inr f) = inr (faulty_kept masks f)

-- where the regions lie
module _ (s : Super) (placed : IsPlaced s) (apart : (page : ℕ) → IsMaskPage s page → StandsApart s page)
    (image other : Image) (same : HasFixedPagesOf s image other) where
  same_region : (q : ℕ) → q < s.md_len → other (s.md_start + q) ≡ image (s.md_start + q)
  same_region q lt = same (s.md_start + q) (let e = placed.md_end in omega (arith, lt, e))

  same_masks : (page : ℕ) → IsMaskPage s page → other page ≡ image page
  same_masks page is = same page (apart page is).fixed

  -- masks that are trusted of the one are of the other
  pub still_trusted : (masks : Masks) → IsQuick s masks image → IsQuick s masks other
  still_trusted masks x = quick_kept s image other same_region same_masks masks x

  back : (masks : Masks) → IsQuick s masks other → IsQuick s masks image
  back masks x =
      quick_kept s other image (λ q lt. sym (same_region q lt)) (λ page is. sym (same_masks page is)) masks x

  -- the heads are the same
  pub heads_kept : (heads : Heads) → AreHeads s image heads → AreHeads s other heads
  heads_kept (Listed places) x = (x.0, still_trusted x.0 x.1, x.2)
  heads_kept ByScan x = λ masks quick. x masks (back masks quick)

  pub loads_kept : (heads : Heads) (metas : Metas) (chains : Chains)
      → AreWhole (look_of (region_of s) image) (region_of s) heads metas chains
      → AreWhole (look_of (region_of s) other) (region_of s) heads metas chains
  loads_kept heads metas chains whole =
      whole_kept (look_of (region_of s) image) (look_of (region_of s) other) (region_of s) same_region heads metas
      chains whole

  pub no_head_kept : HasNoHeadBesideMask s image → HasNoHeadBesideMask s other
  no_head_kept none masks quick place is =
      none masks (back masks quick) place
      (sym (head_kept (look_of (region_of s) image) (look_of (region_of s) other) (region_of s) same_region ByScan
      place) ∙ is)

  -- and the super block is
  pub super_kept : other 0 ≡ image 0
  super_kept =
      let more : 1 * cluster_pages_of s ≤ fixed_clusters_of s * cluster_pages_of s =
      mul-le-mul_right (cluster_pages_of s) placed.some_fixed in
      let some = placed.some_pages in
      same 0 (omega (arith, more, some))
