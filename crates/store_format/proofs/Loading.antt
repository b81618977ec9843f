-- A new store is loaded as it was planned.
use Rattle.std.proofs.Common.{◌≡◌, ℕ, zero, suc, ◌+◌, ◌/◌, ◌^◌, ◌<◌, ◌≤◌, true, false, List, [], ◌∷◌, None}
use Rattle.std.proofs.Common.{Option, Some, refl, sym, ap, subst, ◌∙◌, inl, inr, arith}
use Rattle.std.specs.Prelude.{nat_lt}
use Rattle.std.proofs.lemmas.Bool.{cases_Bool, ltb-true}
use Rattle.bit_array.specs.Mask.{mask_pages}
use Rattle.clean_stop.specs.Masks.{HasMasks}
use Rattle.crc32c.proofs.Zeros.{is_sound-zeros}
use Rattle.page_disk.specs.Disk.{Image}
use Rattle.running_store.specs.LoadedWhole.{AreMasks}
use Rattle.super_block.specs.Faults.{clusters_fault, pages_fault, super_fault}
use Rattle.super_block.specs.Placed.{IsLaidOut}
use Rattle.super_block.specs.Layout.{cluster_pages_fault, layout_of, new_super, plan_fault, room_fault, IsPlanned}
use Rattle.super_block.specs.Page.{super_of}
use Rattle.super_block.proofs.Passed.{all_pass, few_pages, AllPass}
use Rattle.super_block.specs.declared.layout.Layout.{Layout}
use Rattle.super_block.specs.declared.page.Super.{Super}
use Rattle.volume_model.specs.Names.{IsName}
use Rattle.blob_meta.specs.Faults.{meta_fault}
use Rattle.blob_meta.specs.Resolving.{resolved}
use Rattle.md_chain.specs.Chain.{Look}
use Rattle.store_model.specs.Laws.{ScanLaws}
use Rattle.store_model.specs.Recovers.{IsSameStore}
use Rattle.store_model.specs.Regions.{look_of, region_of, MdRegion}
use Rattle.store_model.specs.Scans.{is_head, BlobAt, Says}
use Rattle.store_model.proofs.NewBlob.{new_steady, two_written}
use Rattle.unclean_load.specs.Accepted.{CanBeScanned, IsAccepted, UnloadedAreAccepted}
use Rattle.store_format.proofs.BareMetas.{bare_are_named, bare_is_lawful, few_slots, new_bare, no_cluster}
use Rattle.store_format.proofs.BareMetas.{resolved_bare}
use Rattle.store_format.proofs.BareMetas.{AreBare}
use Rattle.store_format.proofs.NewMasks.{are_masks, clusters_long}
use Rattle.store_format.specs.NewStore.{first_masks, first_super, md_page, zeroed_page, IsNewStore, IsReadAsPlanned}
use Rattle.store_format.specs.NewStore.{LoadsAsPlanned}
use Rattle.store_format.specs.SuperBlob.{new_chains, new_metas, super_blob_page_of, store_xattrs, super_blob_page}
use Rattle.store_format.specs.SuperBlob.{super_items}
use Rattle.store_format.specs.SuperBlob.{super_meta, AreReadable, IsReadable}
use Rattle.store_format.specs.declared.super_blob.StoreName.{StoreName}
use Rattle.store_format.proofs.SuperBlobPage.{says_super_meta}

-- ---- the super block

-- the number of the device's pages isn't read from the page
given_pages : (page : List ℕ) (pages : ℕ) → (super_of page pages).device_pages ≡ pages
unfolding super_of
given_pages page pages = refl

first_md : (plan : Layout) (blob : Option (List ℕ))
    → ((first_super plan blob).md_start ≡ plan.md_start) × ((first_super plan blob).md_len ≡ plan.md_pages)
unfolding new_super
first_md plan None = (refl, refl)
first_md plan (Some page) = (refl, refl)

planned_md : (plan : Layout) (blob : Option (List ℕ)) (sum : ℕ) (s : Super)
    → s ≡ record (first_super plan blob) { crc = sum } → (s.md_start ≡ plan.md_start) × (s.md_len ≡ plan.md_pages)
planned_md plan blob sum s is = (
  ap (λ (t : Super). t.md_start) is ∙ (first_md plan blob).0,
  ap (λ (t : Super). t.md_len) is ∙ (first_md plan blob).1,
)

-- where the masks stand, and that the store is clean
first_starts : (plan : Layout) (blob : Option (List ℕ))
    → ((first_super plan blob).used_page_mask_start ≡ plan.page_mask_start)
    × ((first_super plan blob).used_cluster_mask_start ≡ plan.cluster_mask_start)
    × ((first_super plan blob).used_blobid_mask_start ≡ plan.blob_mask_start) × ((first_super plan blob).clean ≡ 1)
unfolding new_super
first_starts plan None = (refl, refl, refl, refl)
first_starts plan (Some page) = (refl, refl, refl, refl)

-- there are few metadata pages
pub few_md_pages : (plan : Layout) → IsPlanned plan → plan.md_pages ≤ 2 ^ 20
unfolding plan_fault AllPass
few_md_pages plan is =
    let faults = cluster_pages_fault plan.cluster_pages ∷ pages_fault plan.md_pages
    ∷ clusters_fault (plan.device_pages / plan.cluster_pages)
    ∷ room_fault (layout_of plan.device_pages plan.cluster_pages plan.md_pages) ∷ [] in
    let pass : AllPass faults = all_pass faults is.no_fault in
    few_pages plan.md_pages pass.1.0

-- ---- the metadata region

no_head : (place : ℕ) (page : List ℕ) → page ≡ zeroed_page → is_head place page ≡ false
no_head place page is = rw is (rw is_sound-zeros refl)

-- a region whose pages are those of a new store
module _ (r : MdRegion) (image : Image) (some : 0 < r.len) (few : r.len < 2 ^ 32) where
  abbrev look : Look
  look = look_of r image

  -- where its pages are zeros there is no blob
  no_blob : (head : ℕ) → (head < r.len → look head ≡ zeroed_page) → BlobAt look r head None None
  no_blob head zeros = inr (record {
    no_head = elim (cases_Bool (nat_lt head r.len)) [
      | inl lt ↦ rw lt (no_head head (look head) (zeros (ltb-true head r.len lt)))
      | inr high ↦ rw high refl
    ];
    no_meta = refl;
    no_chain = refl;
  })

  -- at the first page there is the super blob
  super_blob_at : (s : Super) → region_of s ≡ r → (named : StoreName) → IsReadable named
      → look 0 ≡ super_blob_page named
      → BlobAt look r 0 (Some (super_meta named)) (Some (0 ∷ []))
  super_blob_at s is named readable here = inl (record {
    meta = super_meta named;
    pages = 0 ∷ [];
    says = record {
      items = super_items named;
      chain = readable.chain look r.len some few here;
      meta_is = sym (says_super_meta named readable.is_name);
      faultless = faultless_at s is named readable.is_name;
    };
    meta_is = refl;
    pages_are = refl;
  })
    where
      faultless_at : (s : Super) → region_of s ≡ r → (named : StoreName) → IsName named.name
          → meta_fault r.fixed r.clusters (super_meta named) ≡ None
      faultless_at s is named is_name =
          subst (λ (x : MdRegion). meta_fault x.fixed x.clusters (super_meta named) ≡ None) is
          (new_steady s 0 (store_xattrs named) true 0
          (subst (λ (x : MdRegion). 0 < x.len) (sym is) some)
          (two_written (record { cluster_pages = 1; md_len = 1; super_blob = None }) (λ head. None) named.name
          (Some named.uuid) is_name) (omega arith) (inr refl)).stored.faultless

  -- the region says the super blob alone, or nothing
  says_new : (s : Super) → region_of s ≡ r → (named : Option StoreName) → AreReadable named
      → ((k : ℕ) → k < r.len → look k ≡ md_page (super_blob_page_of named) k)
      → Says r (new_metas named) (new_chains named) image
  says_new s is None readable pages head = no_blob head (pages head)
  says_new s is (Some named) readable pages zero = super_blob_at s is named readable (pages 0 some)
  says_new s is (Some named) readable pages (suc head) = no_blob (suc head) (pages (suc head))

-- ---- the store

module _ (plan : Layout) (named : Option StoreName) (image : Image) (some : 0 < plan.md_pages)
    (few : plan.md_pages ≤ 2 ^ 20) (readable : AreReadable named)
    (new : IsNewStore plan (super_blob_page_of named) image)
    (read : IsReadAsPlanned plan (super_blob_page_of named)) where
  abbrev sup : Super
  sup = super_of (image 0) plan.device_pages

  sup_is : sup ≡ record (first_super plan (super_blob_page_of named)) { crc = read.sum }
  sup_is = ap (λ (page : List ℕ). super_of page plan.device_pages) new.super ∙ read.same

  md_is : (sup.md_start ≡ plan.md_start) × (sup.md_len ≡ plan.md_pages)
  md_is = planned_md plan (super_blob_page_of named) read.sum sup sup_is

  says : Says (region_of sup) (new_metas named) (new_chains named) image
  says =
      says_new (region_of sup) image (omega (arith, some, md_is.1)) (omega (arith, few, md_is.1)) sup refl named
      readable
      (λ k lt. ap (λ (n : ℕ). image (n + k)) md_is.0 ∙ new.regions.md k (omega (arith, lt, md_is.1)))

  -- the number of pages that the super block tells is that of the device
  same_pages : sup.device_pages ≡ plan.device_pages
  same_pages = given_pages (image 0) plan.device_pages

  faultless : super_fault (image 0) sup.device_pages ≡ None
  faultless =
      subst (λ (n : ℕ). super_fault (image 0) n ≡ None) (sym same_pages)
      (ap (λ (page : List ℕ). super_fault page plan.device_pages) new.super ∙ read.no_fault)

  read_again : sup ≡ super_of (image 0) sup.device_pages
  read_again = ap (super_of (image 0)) (sym same_pages)

  bare : AreBare (new_metas named)
  bare = new_bare named

  -- where its masks stand, and that it is clean
  starts : (sup.used_page_mask_start ≡ plan.page_mask_start) × (sup.used_cluster_mask_start ≡ plan.cluster_mask_start)
      × (sup.used_blobid_mask_start ≡ plan.blob_mask_start) × (sup.clean ≡ 1)
  starts =
      let first = first_starts plan (super_blob_page_of named) in (
        ap (λ (t : Super). t.used_page_mask_start) sup_is ∙ first.0,
        ap (λ (t : Super). t.used_cluster_mask_start) sup_is ∙ first.1,
        ap (λ (t : Super). t.used_blobid_mask_start) sup_is ∙ first.2,
        ap (λ (t : Super). t.clean) sup_is ∙ first.3,
      )

  can_be_scanned : CanBeScanned sup image (new_metas named) (new_chains named)
  can_be_scanned = record {
    faultless = faultless;
    is = read_again;
    says = says;
    few = few_slots (new_metas named) bare sup.md_len;
    named = bare_are_named (resolved (new_metas named)) (resolved_bare (new_metas named) bare);
    lawful = bare_is_lawful (resolved (new_metas named)) (resolved_bare (new_metas named) bare) sup.md_len;
  }

  module _ (planned : IsPlanned plan) (laid : IsLaidOut plan) where
    -- its masks are what the super blob claims, if it has one
    claims : AreMasks sup (new_metas named) (new_chains named) (first_masks plan (super_blob_page_of named))
    claims =
        are_masks plan planned laid some named read.sum sup sup_is md_is.1
        (λ c x. let bad = sym (no_cluster x.meta (bare x.head x.meta x.there).0 x.place) ∙ x.in_slot in cc bad)

    -- and stand where the super block says
    has_masks : HasMasks sup (first_masks plan (super_blob_page_of named)) image
    has_masks = record {
      pages =
          λ k lt. ap (λ (n : ℕ). image (n + k)) starts.0
          ∙ new.regions.page_mask k
          (subst (λ (n : ℕ). k < n) (ap mask_pages (claims.pages.count ∙ md_is.1) ∙ sym laid.page_mask_len) lt);
      clusters =
          λ k lt. ap (λ (n : ℕ). image (n + k)) starts.1
          ∙ new.regions.cluster_mask k
          (subst (λ (n : ℕ). k < n)
          (ap mask_pages (clusters_long plan laid (super_blob_page_of named)) ∙ sym laid.cluster_mask_len) lt);
      blobs =
          λ k lt. ap (λ (n : ℕ). image (n + k)) starts.2
          ∙ new.regions.blob_mask k
          (subst (λ (n : ℕ). k < n) (ap mask_pages (claims.count ∙ md_is.1) ∙ sym laid.blob_mask_len) lt);
    }

    -- a new store is accepted by its masks, and holds the super blob alone, if it has one
    loads_as_planned : UnloadedAreAccepted → ScanLaws → LoadsAsPlanned plan named image
    loads_as_planned accepts scans =
        let by_masks =
        accepts sup (first_masks plan (super_blob_page_of named)) image (new_metas named)
        (new_chains named) can_be_scanned starts.3
        has_masks claims in
        record {
          sum = read.sum;
          super_is = sup_is;
          accepted = subst (λ (n : ℕ). IsAccepted n image) same_pages by_masks.0;
          quick = by_masks.1;
          no_head = by_masks.2;
          holds = record {
            store = record { faultless = faultless; same = subst (IsSameStore sup) read_again refl };
            says = says;
          };
          no_other = λ metas chains other head.
              scans.one (look_of (region_of sup) image) (region_of sup) metas (new_metas named) chains
              (new_chains named) other says head;
        }

-- the same by the page of its super blob
pub loads : (plan : Layout) (named : Option StoreName) (image : Image) (blob : Option (List ℕ)) → blob
    ≡ super_blob_page_of named
    → 0 < plan.md_pages → plan.md_pages ≤ 2 ^ 20 → AreReadable named → IsPlanned plan → IsLaidOut plan
    → UnloadedAreAccepted → ScanLaws → IsNewStore plan blob image → IsReadAsPlanned plan blob
    → LoadsAsPlanned plan named image
loads plan named image blob is some few readable planned laid accepts scans =
    subst
    (λ (b : Option (List ℕ)). IsNewStore plan b image → IsReadAsPlanned plan b → LoadsAsPlanned plan named image)
    (sym is)
    (λ new read.
    loads_as_planned plan named image some few readable new read planned laid accepts scans)
