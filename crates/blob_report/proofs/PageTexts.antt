-- The text of a page, by whether it is one word repeated.
use Rattle.std.proofs.Common.{◌≡◌, ◌∙◌, ap, sym, Bool, true, false, ℕ, List, [], ◌++◌}
use Rattle.std.proofs.lemmas.List.{append-nil}
use Rattle.std.specs.Prelude.{codes}
use Rattle.std.specs.Int.{to_be_bytes, w32, w64}
use Rattle.std.specs.Str.{bytes_eq}
use Rattle.crc32c.specs.Crc.{crc32c_of}
use Rattle.volume_model.specs.Volumes.{fill_page}
use Rattle.blob_report.specs.Pieces.{hex_text}
use Rattle.blob_report.specs.PageText.{first_word, page_text}

module _ (page : List ℕ) (same : Bool) (tested : same ≡ bytes_eq page (fill_page (first_word page))) where
  -- a page of one word, by the word's bytes
  pub filled_text : same ≡ true → (word : ℕ) → word ≡ first_word page → (digits : List ℕ)
      → digits ≡ to_be_bytes w64 word → codes "page fill " ++ (hex_text digits ++ []) ≡ page_text page
  filled_text is word first digits are =
      rw (sym tested ∙ is) (ap (λ l. codes "page fill " ++ l)
      (append-nil (hex_text digits) ∙ ap hex_text are ∙ ap (λ w. hex_text (to_be_bytes w64 w)) first))

  -- any other, by the bytes of its sum
  pub summed_text : same ≡ false → (sum : ℕ) → sum ≡ crc32c_of page → (digits : List ℕ) → digits ≡ to_be_bytes w32 sum
      → codes "page crc " ++ (hex_text digits ++ []) ≡ page_text page
  summed_text is sum sum_is digits are =
      rw (sym tested ∙ is) (ap (λ l. codes "page crc " ++ l)
      (append-nil (hex_text digits) ∙ ap hex_text are ∙ ap (λ n. hex_text (to_be_bytes w32 n)) sum_is))
