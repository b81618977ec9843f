-- A new store is written.
use Rattle.std.proofs.Common.{◌≡◌, ◌≢◌, ℕ, List, Option, None, Some, refl, ap, subst, ◌∙◌, inl, inr}
use Rattle.std.proofs.Common.{arith, IsTrue}
use Rattle.page_disk.specs.Disk.{Image, Telling, with_page}
use Rattle.page_disk.specs.Moments.{IsReplaced, CallsLeaveOnly}
use Rattle.page_disk.specs.declared.disk.PageDisk.{Ghosts}
use Rattle.page_disk.proofs.Images.{with_page-here, with_page-elsewhere}
use Rattle.page_disk.proofs.Moments.{joined, weaker}
use Rattle.super_block.specs.Faults.{super_fault}
use Rattle.super_block.specs.Layout.{new_super}
use Rattle.super_block.specs.Page.{super_bytes, super_of}
use Rattle.super_block.specs.Placed.{IsLaidOut}
use Rattle.super_block.specs.declared.layout.Layout.{Layout}
use Rattle.super_block.specs.declared.page.Super.{Super}
use Rattle.page_runs.specs.Writing.{IsBetween, SameBut, WritesOnly}
use Rattle.store_format.specs.NewStore.{first_super, md_end_of, HasNewRegions, IsNewStore, IsReadAsPlanned, IsUnderWay}
use Rattle.store_format.specs.NewStore.{Writes}

-- ---- the super block's page

-- the super block of a new store tells the pages of the device
planned_pages : (plan : Layout) (blob : Option (List ℕ)) → (first_super plan blob).device_pages ≡ plan.device_pages
unfolding new_super
planned_pages plan None = refl
planned_pages plan (Some page) = refl

-- its page is read as that super block, with the sum that the page holds, and has no fault
pub read_as_planned : (plan : Layout) (blob : Option (List ℕ)) (s : Super) (page : List ℕ) (sum : ℕ)
    → s ≡ first_super plan blob → page ≡ super_bytes (first_super plan blob)
    → super_of page s.device_pages ≡ record s { crc = sum } → super_fault page s.device_pages ≡ None
    → IsReadAsPlanned plan blob
read_as_planned plan blob s page sum is bytes read none =
    let t = first_super plan blob in
    let same = subst (λ (x : Super). super_of page x.device_pages ≡ record x { crc = sum }) is read in
    let clean = subst (λ (x : Super). super_fault page x.device_pages ≡ None) is none in
    record {
      sum = sum;
      same = subst (λ n. super_of (super_bytes t) n ≡ record t { crc = sum }) (planned_pages plan blob)
          (subst (λ (p : List ℕ). super_of p t.device_pages ≡ record t { crc = sum }) bytes same);
      no_fault = subst (λ n. super_fault (super_bytes t) n ≡ None) (planned_pages plan blob)
          (subst (λ (p : List ℕ). super_fault p t.device_pages ≡ None) bytes clean);
    }

-- ---- the last page that is written

module _ (plan : Layout) (blob : Option (List ℕ)) (laid : IsLaidOut plan) (old new : Image) (page : List ℕ)
    (is : new ≡ with_page old 0 page) where
  stays : (p : ℕ) → p ≢ 0 → new p ≡ old p
  stays p other = ap (λ (i : Image). i p) is ∙ with_page-elsewhere old 0 page p other

  regions_stay : HasNewRegions plan blob old → HasNewRegions plan blob new
  regions_stay regions = record {
    page_mask = λ k lt. stays _ (λ e. absurd (omega (arith, e, laid))) ∙ regions.page_mask k lt;
    cluster_mask = λ k lt. stays _ (λ e. absurd (omega (arith, e, laid))) ∙ regions.cluster_mask k lt;
    blob_mask = λ k lt. stays _ (λ e. absurd (omega (arith, e, laid))) ∙ regions.blob_mask k lt;
    md = λ k lt. stays _ (λ e. absurd (omega (arith, e, laid))) ∙ regions.md k lt;
  }

  -- over its regions the super block's page makes a new store
  pub is_new_store : page ≡ super_bytes (first_super plan blob) → HasNewRegions plan blob old → IsNewStore plan blob new
  is_new_store bytes regions =
      record { super = ap (λ (i : Image). i 0) is ∙ with_page-here old 0 page ∙ bytes; regions = regions_stay regions }

  -- behind the metadata region each page is as at first
  pub behind_too : (first : Image) → SameBut (IsBetween 1 (md_end_of plan)) first old
      → SameBut (IsBetween 0 (md_end_of plan)) first new
  behind_too first same p out =
      stays p (λ e. out (omega (arith, e), omega (arith, e, laid)))
      ∙ same p (λ at. out (omega (arith, at), at.1))

-- what power that fails while the super block is replaced may leave
under_way : {D : Type 0} (d : Ghosts D) (law : Telling d.now d.images d.since d.clock) (plan : Layout)
    (blob : Option (List ℕ)) → IsLaidOut plan
    → (first mid : D) → IsTrue d.tells → WritesOnly d (IsBetween 1 (md_end_of plan)) first mid
    → HasNewRegions plan blob (d.now mid) → (page : List ℕ) → page ≡ super_bytes (first_super plan blob)
    → (image : Image)
    → IsReplaced (d.images mid) (d.now mid) 0 page image → IsUnderWay plan blob (d.images first) image
under_way d law plan blob laid first mid told only regions page bytes image (inl held) =
    inl (only.images told image held)
under_way d law plan blob laid first mid told only regions page bytes image (inr is) =
    let before = only.images told (d.now mid) (law.reads_an_image mid) in
    inr (
      is_new_store plan blob laid (d.now mid) image page is bytes regions,
      (before.0, before.1, behind_too plan blob laid (d.now mid) image page is before.0 before.2),
    )

-- the regions are written, and then the super block is replaced, or that fails
pub writes : {D : Type 0} (d : Ghosts D) → (IsTrue d.tells → Telling d.now d.images d.since d.clock) → (plan : Layout)
    (blob : Option (List ℕ))
    → IsLaidOut plan → (first mid last : D) → WritesOnly d (IsBetween 1 (md_end_of plan)) first mid
    → (IsTrue d.tells → HasNewRegions plan blob (d.now mid))
    → (page : List ℕ) → page ≡ super_bytes (first_super plan blob)
    → CallsLeaveOnly d mid last (IsReplaced (d.images mid) (d.now mid) 0 page)
    → d.pages last ≡ d.pages mid → d.read_faults last ≡ d.read_faults mid → d.reads last ≡ d.reads mid
    → Writes d plan blob first last
writes d law plan blob laid first mid last only regions page bytes replaced pages read_faults reads = record {
  any_moment =
      λ told. joined d first mid last _ _ _ (only.any_moment told) (replaced told) (λ image x. inl x)
      (under_way d (law told) plan blob laid first mid told only (regions told) page bytes);
  pages = pages ∙ only.pages;
  read_faults = read_faults ∙ only.read_faults;
  reads = reads ∙ only.reads;
}

-- no page but those of the regions was written
pub begins : {D : Type 0} (d : Ghosts D) (plan : Layout) (blob : Option (List ℕ)) (first last : D)
    → WritesOnly d (IsBetween 1 (md_end_of plan)) first last → Writes d plan blob first last
begins d plan blob first last only = record {
  any_moment = λ told. weaker d first last _ _ (only.any_moment told) (λ image x. inl x);
  pages = only.pages;
  read_faults = only.read_faults;
  reads = only.reads;
}
