use Rattle.std.proofs.Common.{◌≡◌, ⊎_elim, ◌≤◌, ◌<◌, ◌+◌, ◌-◌, ℕ, List, length, get_or, sym, ◌∙◌, ap, subst}
use Rattle.std.proofs.Common.{arith, rules}
use Rattle.std.proofs.lemmas.Bool.{cases_lt}
use Rattle.std.proofs.lemmas.List.{places}
use borrow.Rule.Slice.PartMut.{put_mid}
use Rattle.file_disk.specs.FileCalls.{FileBytes, HasBytes, with_bytes}
use Rattle.file_disk.specs.PageBytes.{byte_among, byte_before, byte_behind}
use Rattle.file_disk.proofs.memory_file.put_at.Goals as goal

-- k bytes ys in the place of those of xs from the a-th on
module _ (xs ys : List ℕ) (a k : ℕ) (fits : a + k ≤ length xs) (long : length ys ≡ k) where
  same_length : length (put_mid a k xs ys) ≡ length xs
  same_length = grind (arith, places)

  before : (at : ℕ) → at < a → get_or (put_mid a k xs ys) at 0 ≡ get_or xs at 0
  before at lt = grind (arith, places)

  among : (i : ℕ) → i < k → get_or (put_mid a k xs ys) (a + i) 0 ≡ get_or ys i 0
  among i lt = grind (arith, places)

  behind : (at : ℕ) → a + k ≤ at → get_or (put_mid a k xs ys) at 0 ≡ get_or xs at 0
  behind at le = grind (arith, places)

  module _ (file : FileBytes) (has : HasBytes xs file) where
    among_at : (at : ℕ) → a ≤ at → at < a + k
        → get_or (put_mid a k xs ys) at 0 ≡ with_bytes file a ys at
    among_at at le lt =
        let is : a + (at - a) ≡ at = omega arith in
        let within : at - a < k = omega arith in
        ap (λ n. get_or (put_mid a k xs ys) n 0) (sym is)
        ∙ among (at - a) within
        ∙ sym (byte_among file a ys (at - a) (omega (arith, within, long)))
        ∙ ap (with_bytes file a ys) is

    put_has : HasBytes (put_mid a k xs ys) (with_bytes file a ys)
    put_has at lt =
        let within : at < length xs = omega (arith, lt, same_length) in
        ⊎_elim
        (λ (below : at < a). before at below ∙ has at within ∙ sym (byte_before file a ys at below))
        (λ (not_below : a ≤ at). ⊎_elim
        (λ (inside : at < a + k). among_at at not_below inside)
        (λ (past : a + k ≤ at). behind at past ∙ has at within
        ∙ sym (byte_behind file a ys at (omega (arith, past, long))))
        (cases_lt at (a + k)))
        (cases_lt at a)

pub returns : goal.returns
returns c file has =
    let count : c.args.at + 4096 - c.args.at ≡ 4096 = omega arith in
    let long : length c.args.page.now ≡ 4096 = search rules in
    subst
    (λ (ys : List ℕ). HasBytes (put_mid c.args.at (c.args.at + 4096 - c.args.at) c.args.bytes.now ys)
    (with_bytes file c.args.at c.args.page.now))
    (sym c.copy_from_slice.ensures.after)
    (put_has c.args.bytes.now c.args.page.now c.args.at (c.args.at + 4096 - c.args.at)
    (omega (arith, count, c.requires)) (long ∙ sym count) file has)
