use Rattle.std.proofs.Common.{◌≡◌, ◌∙◌, ap, sym, drop, get_or, length, List, ℕ, ◌∷◌, [], ◌<◌, ◌+◌, arith}
use Rattle.std.specs.Int.{from_le_bytes, w32}
use Rattle.std.proofs.lemmas.List.{drop_more, drop_all}
use Rattle.std.specs.Prelude.{◌==◌}
use mathlib.Core.Path.{ap₂}
use Rattle.crc32c.specs.Crc.{is_sound}
use Rattle.crc32c.proofs.Zeros.{is_sound-zeros}
use Rattle.crc32c.proofs.page_ok.Goals as goal

drop_next : (xs : List ℕ) (i j : ℕ) → j ≡ i + 1 → i < length xs → drop i xs ≡ get_or xs i 0 ∷ drop j xs
drop_next xs i j is lt = drop_more xs i 0 lt ∙ ap (λ k. get_or xs i 0 ∷ drop k xs) (sym is)

last_four : (page : List ℕ) (n : ℕ) → length page ≡ n + 4
    → drop n page ≡ get_or page n 0 ∷ get_or page (n + 1) 0 ∷ get_or page (n + 2) 0 ∷ get_or page (n + 3) 0 ∷ []
last_four page n long =
    drop_next page n (n + 1) (omega arith) (omega arith)
    ∙ ap (λ (l : List ℕ). get_or page n 0 ∷ l) (drop_next page (n + 1) (n + 2) (omega arith) (omega arith)
    ∙ ap (λ (l : List ℕ). get_or page (n + 1) 0 ∷ l) (drop_next page (n + 2) (n + 3) (omega arith) (omega arith)
    ∙ ap (λ (l : List ℕ). get_or page (n + 2) 0 ∷ l) (drop_next page (n + 3) (n + 4) (omega arith) (omega arith)
    ∙ ap (λ (l : List ℕ). get_or page (n + 3) 0 ∷ l) (drop_all (n + 4) page (omega arith)))))

pub returns-clause-sound : goal.returns-clause-sound
unfolding is_sound
returns-clause-sound c =
    let spelt : c.from_le_bytes.result ≡ from_le_bytes w32 (drop 4092 c.args.page.now) =
    c.from_le_bytes.ensures ∙ sym (ap (from_le_bytes w32) (last_four c.args.page.now 4092 c.told-page)) in
    ap₂ (λ a b. a == b) spelt c.sum.ensures

pub returns-clause-zeros : goal.returns-clause-zeros
returns-clause-zeros c zeros = returns-clause-sound c ∙ ap is_sound zeros ∙ is_sound-zeros
