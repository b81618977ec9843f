-- The masks that are written are read, and say one set each.
use Rattle.std.proofs.Common.{◌≡◌, ℕ, ◌+◌, ◌*◌, ◌^◌, ◌<◌, ◌≤◌, zero, suc, Bool, List, [], ◌∷◌, ◌++◌, length, take, map}
use Rattle.std.proofs.Common.{None, refl, sym, ap, subst, ◌∙◌, arith, add-one}
use Rattle.std.proofs.Math.Seq.{take-add}
use Rattle.std.proofs.lemmas.List.{append-nil, take_all}
use Rattle.std.proofs.lemmas.List.Folds.{concat-append}
use Rattle.std.proofs.lemmas.List.FromFn.{map-range_with_len_more}
use Rattle.std.specs.List.{concat, range_with_len}
use Rattle.bit_array.specs.Fault.{head_fault}
use Rattle.bit_array.specs.Mask.{bits_in, mask_pages, mask_text, text_page}
use Rattle.bit_array.proofs.Masks.{length-mask_text}
use Rattle.clean_stop.specs.Masks.{HasMask, HasMasks, MasksFit, SaysMask, SaysMasks, text_from}
use Rattle.page_disk.specs.Disk.{Image}
use Rattle.super_block.specs.Numbers.{clusters_of}
use Rattle.super_block.specs.Placed.{IsPlaced}
use Rattle.super_block.specs.declared.masks.Masks.{Masks}
use Rattle.super_block.specs.declared.page.Super.{Super}

-- one page more
pub text_from-more : (start n : ℕ) (image : Image)
    → text_from start (n + 1) image ≡ text_from start n image ++ image (start + n)
text_from-more start n image =
    ap concat (map-range_with_len_more (λ k. image (start + k)) 0 n n (omega arith))
    ∙ concat-append (map (λ k. image (start + k)) (range_with_len 0 n)) (image (start + n) ∷ [])
    ∙ ap (λ (page : List ℕ). text_from start n image ++ page) (append-nil (image (start + n)))

-- pages of a text, from its first one on, are its beginning
text_from-pages : (start n count : ℕ) (text : List ℕ) (image : Image)
    → ((k : ℕ) → k < count → image (start + k) ≡ text_page k text) → n ≤ count
    → text_from start n image ≡ take (4096 * n) text
text_from-pages start zero count text image at le = refl
text_from-pages start (suc n) count text image at le =
    ap (λ (m : ℕ). text_from start m image) (sym (add-one n))
    ∙ text_from-more start n image
    ∙ ap (λ (t : List ℕ). t ++ image (start + n)) (text_from-pages start n count text image at (omega arith))
    ∙ ap (λ (page : List ℕ). take (4096 * n) text ++ page) (at n (omega arith))
    ∙ sym (take-add (4096 * n) 4096 text)
    ∙ ap (λ (m : ℕ). take m text) (let e : 4096 * n + 4096 ≡ 4096 * suc n = omega arith in e)

-- what `masks_read_back` says
module _ (back : (kind : ℕ) (bits : List Bool) → bits_in (length bits) (mask_text kind bits) ≡ bits)
    (heads : (kind : ℕ) (bits : List Bool) → length bits < 2 ^ 32
    → head_fault kind (length bits) (text_page 0 (mask_text kind bits)) ≡ None) where
  -- a mask that is there is read
  pub says_mask : (start kind : ℕ) (bits : List Bool) (image : Image) → length bits < 2 ^ 32
      → HasMask start kind bits image → SaysMask start kind bits image
  says_mask start kind bits image few has = record {
    head =
        subst (λ (page : List ℕ). head_fault kind (length bits) page ≡ None)
        (sym (ap image (let e : start ≡ start + 0 = omega arith in e) ∙ has 0 (omega arith))) (heads kind bits few);
    says =
        sym (back kind bits)
        ∙ ap (bits_in (length bits))
        (sym (text_from-pages start (mask_pages (length bits)) (mask_pages (length bits)) (mask_text kind bits) image
        has (omega arith)
        ∙ take_all (4096 * mask_pages (length bits)) (mask_text kind bits)
        (omega (arith, length-mask_text kind bits))));
  }

  -- and so are the three
  pub says_masks : (s : Super) (masks : Masks) (image : Image) → IsPlaced s → MasksFit s masks
      → HasMasks s masks image → SaysMasks s masks image
  says_masks s masks image placed fit has = record {
    fit = fit;
    pages =
        says_mask s.used_page_mask_start 0 masks.pages image (omega (arith, fit.pages, placed.few_md_pages)) has.pages;
    clusters =
        says_mask s.used_cluster_mask_start 1 masks.clusters image
        (omega (arith, fit.clusters, placed.few_clusters)) has.clusters;
    blobs =
        says_mask s.used_blobid_mask_start 2 masks.blobs image (omega (arith, fit.blobs, placed.few_md_pages))
        has.blobs;
  }

-- a mask says one set of a length
one_set : (start kind n : ℕ) (a b : List Bool) (image : Image) → length a ≡ n → length b ≡ n
    → SaysMask start kind a image → SaysMask start kind b image → a ≡ b
one_set start kind n a b image m k x y =
    x.says
    ∙ ap (λ (len : ℕ). bits_in len (text_from start (mask_pages len) image)) (m ∙ sym k)
    ∙ sym y.says

abbrev masks_of : List Bool → List Bool → List Bool → Masks
masks_of pages clusters blobs = record { pages = pages; clusters = clusters; blobs = blobs }

same_masks : (a b : Masks) → a.pages ≡ b.pages → a.clusters ≡ b.clusters → a.blobs ≡ b.blobs → a ≡ b
same_masks a b p c h =
    ap (λ (x : List Bool). masks_of x a.clusters a.blobs) p
    ∙ ap (λ (x : List Bool). masks_of b.pages x a.blobs) c
    ∙ ap (λ (x : List Bool). masks_of b.pages b.clusters x) h

-- an image says one set of each
pub one_reading : (s : Super) (a b : Masks) (image : Image) → SaysMasks s a image → SaysMasks s b image → a ≡ b
one_reading s a b image x y =
    same_masks a b (one_set _ _ s.md_len a.pages b.pages image x.fit.pages y.fit.pages x.pages y.pages)
    (one_set _ _ (clusters_of s) a.clusters b.clusters image x.fit.clusters y.fit.clusters x.clusters y.clusters)
    (one_set _ _ s.md_len a.blobs b.blobs image x.fit.blobs y.fit.blobs x.blobs y.blobs)
