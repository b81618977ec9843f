-- The bytes of a file, and the pages that they are.
use Rattle.std.proofs.Common.{◌≡◌, ◌≢◌, ◌⊎◌, inl, inr, ⊎_elim, ◌≤◌, ◌<◌, ◌+◌, ◌-◌, ◌*◌, ℕ, true, List}
use Rattle.std.proofs.Common.{refl, sym, ◌∙◌, ap, subst, arith, length, get_or}
use Rattle.std.specs.Prelude.{Result, Ok, Err, IfOk}
use Rattle.std.proofs.lemmas.Bool.Decides.{nat_tests, Decides-eqb}
use Rattle.std.proofs.lemmas.Bool.{cases_eq, cases_lt}
use Rattle.std.proofs.lemmas.List.{ext_get_or, get_or_default, get_or_past}
use Rattle.std.proofs.lemmas.List.FromFn.{length-map-range_with_len, get_or-map-range_with_len}
use mathlib.Core.Path.{fun_ext}
use Rattle.page_disk.specs.Disk.{with_page}
use Rattle.page_disk.proofs.Images.{with_page-here, with_page-elsewhere}
use Rattle.file_disk.specs.FileCalls.{FileBytes, IsPageAt, bytes_from, moved_pages, pages_in, with_bytes}

apart : (p q : ℕ) → p ≢ q → (p < q) ⊎ (q < p)
apart p q other = ⊎_elim (λ below. inl below) (λ (above : q ≤ p). inr (omega arith)) (cases_lt p q)

-- so many bytes
pub length_from : (file : FileBytes) (offset count : ℕ) → length (bytes_from file offset count) ≡ count
unfolding bytes_from
length_from file offset count = length-map-range_with_len file offset count

-- each of them
pub byte_from : (file : FileBytes) (offset count i : ℕ) → i < count
    → get_or (bytes_from file offset count) i 0 ≡ file (offset + i)
unfolding bytes_from
byte_from file offset count i lt = get_or-map-range_with_len file offset count i (offset + i) 0 lt refl

-- bytes that are those from this offset on
pub are_bytes_from : (file : FileBytes) (offset count : ℕ) (bytes : List ℕ) → length bytes ≡ count
    → ((i : ℕ) → i < count → get_or bytes i 0 ≡ file (offset + i)) → bytes ≡ bytes_from file offset count
are_bytes_from file offset count bytes long each =
    ext_get_or 0 bytes (bytes_from file offset count) (long ∙ sym (length_from file offset count))
    (λ i lt. let within : i < count = omega (arith, long) in
    each i within ∙ sym (byte_from file offset count i within))

-- what the file holds with other bytes put into it: before them, among them, behind them
pub byte_before : (file : FileBytes) (offset : ℕ) (bytes : List ℕ) (at : ℕ) → at < offset
    → with_bytes file offset bytes at ≡ file at
unfolding with_bytes
byte_before file offset bytes at lt = grind (arith, nat_tests)

from_there : (file : FileBytes) (offset : ℕ) (bytes : List ℕ) (at : ℕ) → offset ≤ at
    → with_bytes file offset bytes at ≡ get_or bytes (at - offset) (file at)
unfolding with_bytes
from_there file offset bytes at le = grind (arith, nat_tests)

pub byte_among : (file : FileBytes) (offset : ℕ) (bytes : List ℕ) (i : ℕ) → i < length bytes
    → with_bytes file offset bytes (offset + i) ≡ get_or bytes i 0
byte_among file offset bytes i lt =
    let here : offset + i - offset ≡ i = omega arith in
    from_there file offset bytes (offset + i) (omega arith)
    ∙ ap (λ n. get_or bytes n (file (offset + i))) here
    ∙ get_or_default bytes i (file (offset + i)) 0 lt

pub byte_behind : (file : FileBytes) (offset : ℕ) (bytes : List ℕ) (at : ℕ) → offset + length bytes ≤ at
    → with_bytes file offset bytes at ≡ file at
byte_behind file offset bytes at le =
    from_there file offset bytes at (omega arith) ∙ get_or_past bytes (at - offset) (file at) (omega arith)

-- a page that is put at its place
module _ (file : FileBytes) (place offset : ℕ) (bytes : List ℕ) (is_page : IsPageAt place offset bytes) where
  here : pages_in (with_bytes file offset bytes) place ≡ bytes
  here = sym (are_bytes_from (with_bytes file offset bytes) (place * 4096) 4096 bytes is_page.long
      (λ i lt. sym (ap (λ n. with_bytes file offset bytes (n + i)) (sym is_page.place)
      ∙ byte_among file offset bytes i (omega (arith, is_page.long)))))

  untouched : (p i : ℕ) → p ≢ place → i < 4096
      → with_bytes file offset bytes (p * 4096 + i) ≡ file (p * 4096 + i)
  untouched p i other lt = ⊎_elim
      (λ (below : p < place). byte_before file offset bytes (p * 4096 + i) (omega (arith, is_page.place)))
      (λ (above : place < p). byte_behind file offset bytes (p * 4096 + i) (omega (arith, is_page.place, is_page.long)))
      (apart p place other)

  elsewhere : (p : ℕ) → p ≢ place → pages_in (with_bytes file offset bytes) p ≡ pages_in file p
  elsewhere p other = are_bytes_from file (p * 4096) 4096 (pages_in (with_bytes file offset bytes) p)
      (length_from (with_bytes file offset bytes) (p * 4096) 4096)
      (λ i lt. byte_from (with_bytes file offset bytes) (p * 4096) 4096 i lt ∙ untouched p i other lt)

  pub page_put : pages_in (with_bytes file offset bytes) ≡ with_page (pages_in file) place bytes
  page_put = fun_ext (λ p. ⊎_elim
      (λ (is : p ≡ place). ap (pages_in (with_bytes file offset bytes)) is ∙ here
      ∙ sym (ap (with_page (pages_in file) place bytes) is ∙ with_page-here (pages_in file) place bytes))
      (λ (other : p ≡ place → ⊥). elsewhere p other ∙ sym (with_page-elsewhere (pages_in file) place bytes p other))
      (cases_eq p place))

-- what a call that moved a whole page says of its count
of_page : {E : Type 0} (P : ℕ → Type 0) (answer : Result ℕ E) → moved_pages 1 answer ≡ true → IfOk answer P → P 4096
of_page P (Ok count) whole says = subst P ((Decides-eqb count 4096).0 whole) says
of_page P (Err error) whole says = cc

-- a page that was read whole
pub page_read : {E : Type 0} (file : FileBytes) (page : ℕ) (into : List ℕ) (answer : Result ℕ E)
    → length into ≡ 4096 → moved_pages 1 answer ≡ true
    → IfOk answer (λ count. (i : ℕ) → i < count → get_or into i 0 ≡ file (page * 4096 + i))
    → into ≡ pages_in file page
page_read file page into answer long whole says =
    are_bytes_from file (page * 4096) 4096 into long
    (of_page (λ count. (i : ℕ) → i < count → get_or into i 0 ≡ file (page * 4096 + i)) answer whole says)
