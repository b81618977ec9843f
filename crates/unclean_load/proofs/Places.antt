-- What the pages that a device gave say of one place.
use Rattle.std.proofs.Common.{◌≡◌, ℕ, ◌+◌, ◌<◌, Bool, true, List, Some, None, refl, sym, ap, ◌∙◌, inl}
use Rattle.std.specs.Prelude.{IsTrue, ◌&&◌, nat_lt}
use Rattle.std.proofs.lemmas.Bool.{lt-ltb}
use Rattle.bit_array.specs.Bits.{is_in}
use Rattle.page_disk.specs.Disk.{Image, with_page}
use Rattle.page_disk.proofs.Images.{with_page-here}
use Rattle.page_disk.specs.declared.disk.PageDisk.{Ghosts}
use Rattle.super_block.specs.declared.page.Super.{Super}
use Rattle.descriptors.specs.declared.item.Item.{Item}
use Rattle.blob_meta.specs.declared.meta.Meta.{Meta}
use Rattle.blob_meta.specs.Faults.{meta_fault}
use Rattle.blob_meta.specs.Says.{meta_of}
use Rattle.md_chain.specs.Chain.{Look}
use Rattle.md_chain.specs.Reading.{GaveChain, OnlyRead, region_look}
use Rattle.md_chain.proofs.PageWalk.{known}
use Rattle.store_model.specs.Regions.{region_of}
use Rattle.store_model.specs.Scans.{MetaAt, is_head}
use Rattle.store_model.proofs.Scanning.{is_at}
use Rattle.unclean_load.specs.declared.heads.Blob.{Blob}
use Rattle.unclean_load.specs.declared.heads.Heads.{Heads}
use Rattle.unclean_load.specs.declared.heads.Heads.TheVariants.{ByScan, Listed}
use Rattle.unclean_load.specs.Heads.{has_head}
use Rattle.unclean_load.specs.Reading.{GaveHead, SaysAt}

module _ {D : Type 0} (d : Ghosts D) (s : Super) (disk : D) (place : ℕ) where
  -- a place of the region is a head where its page is one
  in_region : (is : Bool) → place < s.md_len → (nat_lt place s.md_len && is) ≡ is
  in_region is low = ap (λ (b : Bool). b && is) (lt-ltb place s.md_len low)

  -- the page that was read there is the one that a look gives
  pub gave_head : (page : List ℕ) (is : Bool) → (IsTrue d.tells → page ≡ d.now disk (s.md_start + place))
      → place < s.md_len → is ≡ is_head place page → GaveHead d s disk ByScan place is
  gave_head page is read low same = record {
    look = with_page (region_look s (d.now disk)) place page;
    seen = λ told. known (region_look s (d.now disk)) place page (read told);
    is_it =
        let here : is ≡ is_head place (with_page (region_look s (d.now disk)) place page place) =
        same ∙ ap (is_head place) (sym (with_page-here (region_look s (d.now disk)) place page)) in
        here ∙ sym (in_region (is_head place (with_page (region_look s (d.now disk)) place page place)) low);
  }

  -- a place of a set needs no page
  pub gave_listed : (places : List Bool) (is : Bool) → is ≡ is_in places place
      → GaveHead d s disk (Listed places) place is
  gave_listed places is same = record { look = region_look s (d.now disk); seen = λ told. refl; is_it = same }

  -- ---- what is said of it

  -- a head is one by the pages of its chain too
  head_again : (heads : Heads) → GaveHead d s disk heads place true → (look : Look) (m : Meta) (pages : List ℕ)
      → MetaAt look (region_of s) place m pages → has_head heads look s.md_len place ≡ true
  head_again ByScan x look m pages says = is_at look (region_of s) place m pages says
  head_again (Listed places) x look m pages says = sym x.is_it

  -- it is a head, and its chain, which was read later, says metadata without fault
  pub gave_blob : (heads : Heads) → GaveHead d s disk heads place true → (later : D) → OnlyRead d disk later
      → (blob : Blob)
      (items : List Item) → GaveChain d s later place blob.pages items → blob.meta ≡ meta_of place items
      → meta_fault (region_of s).fixed (region_of s).clusters (meta_of place items) ≡ None
      → SaysAt d s disk heads place (Some blob)
  gave_blob heads x later same blob items chain is none =
      let says : MetaAt chain.look (region_of s) place blob.meta blob.pages =
      record {
        items = items;
        chain = chain.chain;
        meta_is = is;
        faultless =
            ap (λ (m : Meta). meta_fault (region_of s).fixed (region_of s).clusters m) is ∙ none;
      } in
      record {
        look = chain.look;
        seen = λ told. chain.seen told ∙ ap (λ (image : Image). region_look s image) (same.now told);
        says = inl (record {
          head = head_again heads x chain.look blob.meta blob.pages says;
          blob = record {
            meta = blob.meta;
            pages = blob.pages;
            says = says;
            meta_is = refl;
            pages_are = refl;
          };
        });
      }
