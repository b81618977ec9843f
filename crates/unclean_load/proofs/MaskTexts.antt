-- The text of a mask, page by page.
use Rattle.std.proofs.Common.{◌≡◌, ℕ, zero, suc, ◌+◌, ◌<◌, List, [], ◌∷◌, ◌++◌, map, sym, ap, ◌∙◌, add-one, arith, refl}
use Rattle.std.proofs.lemmas.List.{append-nil}
use Rattle.std.proofs.lemmas.List.Folds.{concat-append}
use Rattle.std.proofs.lemmas.List.FromFn.{map-range_with_len_more}
use Rattle.std.specs.List.{concat, range_with_len}
use Rattle.clean_stop.specs.Masks.{text_from}
use Rattle.page_disk.specs.Disk.{Image}

-- one page more
pub text_more : (start n : ℕ) (image : Image)
    → text_from start (n + 1) image ≡ text_from start n image ++ image (start + n)
text_more start n image =
    ap concat (map-range_with_len_more (λ k. image (start + k)) 0 n n (omega arith))
    ∙ concat-append (map (λ k. image (start + k)) (range_with_len 0 n)) (image (start + n) ∷ [])
    ∙ ap (λ (page : List ℕ). text_from start n image ++ page) (append-nil (image (start + n)))

-- the same pages make the same text
pub text_kept : (start n : ℕ) (image other : Image) → ((k : ℕ) → k < n → other (start + k) ≡ image (start + k))
    → text_from start n other ≡ text_from start n image
text_kept start zero image other same = refl
text_kept start (suc n) image other same =
    ap (λ (m : ℕ). text_from start m other) (sym (add-one n))
    ∙ text_more start n other
    ∙ ap (λ (t : List ℕ). t ++ other (start + n)) (text_kept start n image other (λ k lt. same k (omega (arith, lt))))
    ∙ ap (λ (page : List ℕ). text_from start n image ++ page) (same n (omega arith))
    ∙ sym (text_more start n image)
    ∙ ap (λ (m : ℕ). text_from start m image) (add-one n)
