-- A place that shows a fault while the heads of a region are read.
use Rattle.std.proofs.Common.{◌≡◌, ℕ, ◌+◌, ◌<◌, true, length, Some, subst, ◌∙◌, ap, inl, inr}
use Rattle.std.specs.Prelude.{IsTrue}
use Rattle.page_disk.specs.declared.disk.PageDisk.{Ghosts}
use Rattle.super_block.specs.declared.page.Super.{Super}
use Rattle.blob_meta.specs.declared.meta.Meta.{Meta}
use Rattle.md_chain.specs.Chain.{Look}
use Rattle.md_chain.specs.Reading.{region_look}
use Rattle.store_model.specs.Maps.{Metas, Chains}
use Rattle.store_model.specs.Regions.{MdRegion, region_of}
use Rattle.store_model.specs.Scans.{MetaAt}
use Rattle.unclean_load.specs.declared.fault.LoadFault.{LoadFault}
use Rattle.unclean_load.specs.declared.fault.LoadFault.TheVariants as fault
use Rattle.unclean_load.specs.declared.heads.Blob.{Blob}
use Rattle.unclean_load.specs.declared.heads.Heads.{Heads}
use Rattle.unclean_load.specs.Heads.{PlaceSays, Shows, ShowsFirst, IsHeadsFault, has_head}
use Rattle.unclean_load.specs.Reading.{SaysAt, IsBlobFault, IsPlaceFault, IsBlobRefused, IsOnlyFault}
use Rattle.unclean_load.proofs.HeadWalk.{Walked, look_first, blob_first, the_one}

head_of : (look : Look) (r : MdRegion) (heads : Heads) (place : ℕ) (blob : Blob)
    → PlaceSays look r heads place (Some blob.meta) (Some blob.pages) → has_head heads look r.len place ≡ true
head_of look r heads place blob (inl x) = x.head
head_of look r heads place blob (inr x) = let e = x.no_meta in absurd (cc e)

module _ {D : Type 0} (d : Ghosts D) (s : Super) (heads : Heads) (first : D) where
  module _ (disk : D) (metas : Metas) (chains : Chains) (slots place : ℕ)
      (w : Walked d s heads first disk metas chains slots place) where
    shown : (why : LoadFault) → place < s.md_len → IsTrue d.tells
        → has_head heads (region_look s (d.now first)) s.md_len place ≡ true
        → Shows (region_look s (d.now first)) (region_of s) metas place why
        → ShowsFirst (region_look s (d.now first)) (region_of s) heads why
    shown why low told is x =
        record { head = place; low = low; is = is; metas = metas; chains = chains; before = w.told told; shows = x }

    place_shown : (why : LoadFault) → place < s.md_len → IsTrue d.tells
        → IsBlobFault (region_look s (d.now disk)) (region_of s) heads place why
        → ShowsFirst (region_look s (d.now first)) (region_of s) heads why
    place_shown why low told x =
        let y : IsBlobFault (region_look s (d.now first)) (region_of s) heads place why =
        subst (λ (look : Look). IsBlobFault look (region_of s) heads place why)
        (look_first d s heads first disk metas chains slots place w told) x in
        shown why low told y.head (y.shows metas)

    -- a fault at the place is the first of the heads
    pub place_fails : (why : LoadFault) → place < s.md_len → IsTrue d.tells
        → IsPlaceFault (region_look s (d.now disk)) (region_of s) heads place why
        → IsHeadsFault (region_look s (d.now first)) (region_of s) heads why
    place_fails fault.ReadFault low told x = tt
    place_fails fault.Memory low told x = tt
    place_fails (fault.Super e) low told x = place_shown (fault.Super e) low told x
    place_fails (fault.Chain head e) low told x = place_shown (fault.Chain head e) low told x
    place_fails (fault.Meta head e) low told x = place_shown (fault.Meta head e) low told x
    place_fails (fault.MapsTooLarge slots) low told x = place_shown (fault.MapsTooLarge slots) low told x
    place_fails (fault.NoParentBlob blob parent) low told x = place_shown (fault.NoParentBlob blob parent) low told x
    place_fails (fault.WritableParent blob parent) low told x =
        place_shown (fault.WritableParent blob parent) low told x
    place_fails (fault.ParentLoop blob) low told x = place_shown (fault.ParentLoop blob) low told x
    place_fails (fault.Shared cluster a b) low told x = place_shown (fault.Shared cluster a b) low told x
    place_fails (fault.NoRoom blob has wants) low told x = place_shown (fault.NoRoom blob has wants) low told x

    module _ (blob : Blob) (x : SaysAt d s disk heads place (Some blob)) where
      says_first : IsTrue d.tells → MetaAt (region_look s (d.now first)) (region_of s) place blob.meta blob.pages
      says_first told =
          the_one (region_look s (d.now first)) (region_of s) heads place blob
          (blob_first d s heads first disk metas chains slots place w (Some blob) x told)

      head_first : IsTrue d.tells → has_head heads (region_look s (d.now first)) s.md_len place ≡ true
      head_first told =
          head_of (region_look s (d.now first)) (region_of s) heads place blob
          (blob_first d s heads first disk metas chains slots place w (Some blob) x told)

      -- a blob that is refused is the first head with a fault
      pub add_fails : (why : LoadFault) → place < s.md_len → IsTrue d.tells → IsBlobRefused slots place blob.meta why
          → IsHeadsFault (region_look s (d.now first)) (region_of s) heads why
      add_fails fault.Memory low told y = tt
      add_fails (fault.MapsTooLarge n) low told y =
          shown (fault.MapsTooLarge n) low told (head_first told)
          (record {
            meta = blob.meta;
            pages = blob.pages;
            says = says_first told;
            count = y.0
                ∙ ap (λ (k : ℕ). k + length blob.meta.map) w.count;
            many = y.1;
          })
      add_fails fault.ReadFault low told y = absurd y
      add_fails (fault.Super e) low told y = absurd y
      add_fails (fault.Chain head e) low told y = absurd y
      add_fails (fault.Meta head e) low told y = absurd y
      add_fails (fault.NoParentBlob at parent) low told y = absurd y
      add_fails (fault.WritableParent at parent) low told y = absurd y
      add_fails (fault.ParentLoop at) low told y = absurd y
      add_fails (fault.Shared cluster a b) low told y = absurd y
      add_fails (fault.NoRoom blob has wants) low told y = absurd y

    -- a failed read that was counted since is counted since the beginning
    pub counted_first : (new : D) (why : LoadFault) → IsOnlyFault (d.read_faults disk) (d.read_faults new) why
        → IsOnlyFault (d.read_faults first) (d.read_faults new) why
    counted_first new why x = subst (λ (n : ℕ). IsOnlyFault n (d.read_faults new) why) w.quiet x

-- a blob is refused for a cause that no read counts
pub refused_uncounted : (old new before head : ℕ) (m : Meta) (why : LoadFault) → new ≡ old
    → IsBlobRefused before head m why
    → IsOnlyFault old new why
refused_uncounted old new before head m fault.ReadFault same x = absurd x
refused_uncounted old new before head m fault.Memory same x = same
refused_uncounted old new before head m (fault.Super e) same x = same
refused_uncounted old new before head m (fault.Chain h e) same x = same
refused_uncounted old new before head m (fault.Meta h e) same x = same
refused_uncounted old new before head m (fault.MapsTooLarge slots) same x = same
refused_uncounted old new before head m (fault.NoParentBlob blob parent) same x = same
refused_uncounted old new before head m (fault.WritableParent blob parent) same x = same
refused_uncounted old new before head m (fault.ParentLoop blob) same x = same
refused_uncounted old new before head m (fault.Shared cluster a b) same x = same
refused_uncounted old new before head m (fault.NoRoom blob has wants) same x = absurd x
