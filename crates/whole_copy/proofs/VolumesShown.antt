-- What an image shows of metadata that the store can hold are volumes of that metadata, with whole slots of pages.
use Rattle.std.proofs.Common.{◌≡◌, ℕ, ◌*◌, ◌<◌, suc, [], length, Option, Some, None, refl, ap}
use Rattle.std.proofs.Common.{arith, ◌∙◌}
use Rattle.std.specs.Prelude.{IsSome}
use Rattle.std.specs.Option.{option_map, option_map_or}
use Rattle.std.specs.Ordering.{nat_cmp}
use Rattle.std.specs.FinMap as map
use Rattle.std.proofs.lemmas.List.FromFn.{length-map-range_with_len}
use Rattle.page_disk.specs.Disk.{Image}
use Rattle.super_block.specs.declared.page.Super.{Super}
use Rattle.super_block.specs.Numbers.{cluster_pages_of}
use Rattle.super_block.specs.Placed.{IsPlaced}
use Rattle.volume_model.specs.Volumes.{Volume}
use Rattle.blob_meta.specs.declared.meta.Meta.{Meta}
use Rattle.blob_meta.specs.ShownBy.{ShowsAt, ShowsMetas}
use Rattle.blob_meta.specs.SlotCounts.{HeadsFit}
use Rattle.shown_volumes.specs.Shown.{content, fixed_of, volume_of}
use Rattle.shown_volumes.proofs.SlotSums.{slots_shown}
use Rattle.whole_copy.specs.Meant.{AreHeld, IsVolume, pages_shown, volumes_shown}

module _ (s : Super) (metas : map.FinMap nat_cmp Meta) (placed : IsPlaced s) (held : AreHeld s metas) where
  low : (h : ℕ) (o : Option Meta) → map.get metas h ≡ o → IsSome o → h < s.md_len
  low h None is some = absurd (cc some)
  low h (Some m) is some = (held h m is).low

  -- each head is a number of 32 bits
  pub heads_fit : HeadsFit metas
  heads_fit h high = by (map.get metas h) refl
    where
      by : (o : Option Meta) → map.get metas h ≡ o → map.get metas h ≡ None
      by None is = is
      by (Some m) is =
          let few = placed.few_md_pages in
          let below = (held h m is).low in
          absurd (omega (arith, few, below, high))

  module _ (image : Image) where
    -- a blob as a volume
    abbrev pub as_volume : ℕ → Meta → Volume
    as_volume h m = volume_of (cluster_pages_of s) image (map.get metas) s.md_len m.xattrs h m

    pub pages_long : (h : ℕ) (m : Meta) → length (as_volume h m).pages ≡ cluster_pages_of s * length m.map
    pages_long h m = length-map-range_with_len (content (cluster_pages_of s) image (map.get metas) (suc s.md_len) h) 0
        (cluster_pages_of s * length m.map)

    one : (h : ℕ) (o : Option Meta) → ShowsAt (fixed_of s) (option_map (as_volume h) o) o
    one h None = tt
    one h (Some m) = record {
      name_told = refl;
      uuid_told = refl;
      slots_are = slots_shown (fixed_of s) image (map.get metas) placed.some_pages m.xattrs h m;
      thin_is = refl;
      read_only_is = refl;
      locked_is = refl;
      parent_is = refl;
    }

    -- what is shown are volumes of the metadata
    pub shows_metas : ShowsMetas (fixed_of s) s metas (volumes_shown s metas image)
    shows_metas = record {
      super_is = refl;
      some_pages = placed.some_pages;
      few_heads = let few = placed.few_md_pages in omega (arith, few);
      heads_below = λ h some. low h (map.get metas h) refl some;
      shown = λ h. one h (map.get metas h);
    }

    -- the pages that are shown of a blob that is there
    pub shown_there : (h : ℕ) (m : Meta) → map.get metas h ≡ Some m
        → pages_shown s metas image h ≡ (as_volume h m).pages
    shown_there h m there = ap (λ (o : Option Meta). option_map_or (λ (x : Volume). x.pages)
        (option_map (λ (m : Meta). as_volume h m) o) []) there

  -- a blob that is there is a volume, with the pages of its slots
  pub is_volume : (h : ℕ) (m : Meta) → map.get metas h ≡ Some m
      → IsVolume s metas (record { head = h; pages = cluster_pages_of s * length m.map })
  is_volume h m there = record {
    there = rw there refl;
    long = λ image. ap length (shown_there image h m there) ∙ pages_long image h m;
  }
