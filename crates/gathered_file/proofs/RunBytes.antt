-- The bytes of a file with a run of pages in it.
use Rattle.std.proofs.Common.{◌≡◌, ◌⊎◌, ⊎_elim, ◌+◌, ◌*◌, ◌<◌, ◌≤◌, ℕ, List, [], ◌∷◌, ◌++◌, length, get_or, sym, ◌∙◌, ap, refl, arith}
use Prim.Native.Nat.{zero, suc}
use Rattle.std.proofs.lemmas.List.{get_or_default}
use Rattle.std.proofs.lemmas.List.Elements.{All-append}
use Rattle.std.specs.Prelude.{Result, Ok, Err, IfOk}
use Rattle.file_disk.specs.FileCalls.{FileBytes, FileCall, file_after, with_bytes, with_run}
use Rattle.file_disk.specs.PageBytes.{byte_before, byte_among, byte_behind}
use Rattle.gathered_file.specs.Gathering.{ArePages, Gathers}

-- the first of some pages, and the others
first_long : (page : List ℕ) (pages : List (List ℕ)) → ArePages (page ∷ pages) → length page ≡ 4096
first_long page pages long = long 0 [] (omega arith)

others : (page : List ℕ) (pages : List (List ℕ)) → ArePages (page ∷ pages) → ArePages pages
others page pages long = λ k d lt. long (suc k) d (omega arith)

-- before it
pub before_run : (file : FileBytes) (offset : ℕ) (pages : List (List ℕ)) (at : ℕ) → at < offset
    → with_run file offset pages at ≡ file at
before_run file offset [] at lt = refl
before_run file offset (page ∷ pages) at lt =
    before_run (with_bytes file offset page) (offset + 4096) pages at (omega arith) ∙ byte_before file offset page at lt

-- behind it
pub behind_run : (file : FileBytes) (offset : ℕ) (pages : List (List ℕ)) (at : ℕ) → ArePages pages
    → offset + length pages * 4096 ≤ at → with_run file offset pages at ≡ file at
behind_run file offset [] at long le = refl
behind_run file offset (page ∷ pages) at long le =
    let h = first_long page pages long in
    behind_run (with_bytes file offset page) (offset + 4096) pages at (others page pages long) (omega arith)
    ∙ byte_behind file offset page at (omega arith)

-- in one of its pages
pub among_run : (file : FileBytes) (offset : ℕ) (pages : List (List ℕ)) (index i : ℕ) → ArePages pages
    → index < length pages → i < 4096
    → with_run file offset pages (offset + index * 4096 + i) ≡ get_or (get_or pages index []) i 0
among_run file offset [] index i long lt within = absurd (omega arith)
among_run file offset (page ∷ pages) zero i long lt within =
    let h = first_long page pages long in
    let here : offset + 0 * 4096 + i ≡ offset + i = omega arith in
    ap (with_run (with_bytes file offset page) (offset + 4096) pages) here
    ∙ before_run (with_bytes file offset page) (offset + 4096) pages (offset + i) (omega arith)
    ∙ byte_among file offset page i (omega arith)
among_run file offset (page ∷ pages) (suc k) i long lt within =
    let there : offset + suc k * 4096 + i ≡ offset + 4096 + k * 4096 + i = omega arith in
    ap (with_run (with_bytes file offset page) (offset + 4096) pages) there
    ∙ among_run (with_bytes file offset page) (offset + 4096) pages k i (others page pages long) (omega arith) within

-- pages and one more
pub pages_push : (pages : List (List ℕ)) (page : List ℕ) → ArePages pages → length page ≡ 4096
    → ArePages (pages ++ page ∷ [])
pages_push pages page long one =
    All-append (λ (p : List ℕ). length p ≡ 4096) pages (page ∷ []) long
    (λ k d lt. let first : k ≡ 0 = omega arith in rw first one)

-- the bytes that a file that gathers reads
module _ (opened : FileBytes) (asked sent : List FileCall) (start : ℕ) (kept : List (List ℕ))
    (gathers : Gathers opened asked sent start kept) (long : ArePages kept) where
  -- of a page that is kept
  pub kept_byte : (offset index i : ℕ) (page : List ℕ) → page ≡ get_or kept index page → index < length kept
      → offset ≡ start + index * 4096 → i < 4096 → get_or page i 0 ≡ file_after opened asked (offset + i)
  kept_byte offset index i page here lt is within =
      let same : offset + i ≡ start + index * 4096 + i = omega arith in
      ap (λ bytes. get_or bytes i 0) (here ∙ get_or_default kept index page [] lt)
      ∙ sym (ap (λ (file : FileBytes). file (offset + i)) gathers.holds
      ∙ ap (with_run (file_after opened sent) start kept) same
      ∙ among_run (file_after opened sent) start kept index i long lt within)

  -- of any other
  outside_byte : (offset i : ℕ) → (offset + 4096 ≤ start) ⊎ (start + length kept * 4096 ≤ offset) → i < 4096
      → file_after opened sent (offset + i) ≡ file_after opened asked (offset + i)
  outside_byte offset i outside within =
      sym (ap (λ (file : FileBytes). file (offset + i)) gathers.holds
      ∙ ⊎_elim
      (λ (before : offset + 4096 ≤ start).
      before_run (file_after opened sent) start kept (offset + i) (omega (arith, before, within)))
      (λ (behind : start + length kept * 4096 ≤ offset).
      behind_run (file_after opened sent) start kept (offset + i) long (omega (arith, behind)))
      outside)

  pub outside_read : {E : Type 0} (answer : Result ℕ E) (offset : ℕ) (into : List ℕ)
      → (offset + 4096 ≤ start) ⊎ (start + length kept * 4096 ≤ offset) → IfOk answer (λ count. count ≤ 4096)
      → IfOk answer (λ count. (i : ℕ) → i < count → get_or into i 0 ≡ file_after opened sent (offset + i))
      → IfOk answer (λ count. (i : ℕ) → i < count → get_or into i 0 ≡ file_after opened asked (offset + i))
  outside_read (Ok count) offset into outside most reads =
      λ i lt. reads i lt ∙ outside_byte offset i outside (omega (arith, most, lt))
  outside_read (Err error) offset into outside most reads = reads
