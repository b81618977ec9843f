-- A request for pages is split into its pages, by clusters.
use Rattle.std.proofs.Common.{◌≡◌, ℕ, zero, suc, ◌+◌, ◌-◌, ◌*◌, ◌/◌, ◌%◌, ◌<◌, ◌≤◌}
use Rattle.std.proofs.Common.{List, [], ◌∷◌, ◌++◌, length, map, refl, sym, ap, subst, ◌∙◌, arith, inl, inr}
use Rattle.std.specs.List.{range_with_len}
use Rattle.std.proofs.lemmas.Bool.{cases_eq, cases_lt, ne_eqb}
use Rattle.std.proofs.Math.Nat.{div-add-mod, mod-lt, mul-div_cancel_left}
use Rattle.data_path.specs.declared.splitting.Part.{Part}
use Rattle.data_path.specs.Parts.{first_part, in_cluster, IsSplit, pages_of, parts_of}

-- the numbers of a range, in two runs
range_apart : (m n page : ℕ) → range_with_len page (m + n) ≡ range_with_len page m ++ range_with_len (page + m) n
range_apart zero n page =
    let e : page ≡ page + 0 = omega arith in
    let f : zero + n ≡ n = omega arith in
    ap (range_with_len page) f ∙ ap (λ p. range_with_len p n) e
range_apart (suc m) n page =
    let e : page + 1 + m ≡ page + suc m = omega arith in
    let f : suc m + n ≡ suc (m + n) = omega arith in
    ap (range_with_len page) f ∙ ap (λ l. page ∷ l)
    (range_apart m n (page + 1) ∙ ap (λ p. range_with_len (page + 1) m ++ range_with_len p n) e)

module _ (k : ℕ) (some : 0 < k) where
  -- of a request for a page and more, some pages lie in the first one's cluster
  in_some : (page count : ℕ) → 0 < count → 0 < in_cluster k page count
  in_some page count more = let lt = mod-lt page some in omega (arith, lt, more)

  in_few : (page count : ℕ) → in_cluster k page count ≤ count
  in_few page count = omega arith

  -- the number of parts at most doesn't matter where it is enough
  pub enough : (a b page count : ℕ) → count ≤ a → count ≤ b → parts_of k a page count ≡ parts_of k b page count
  enough zero zero page count low high = refl
  enough zero (suc b) page count low high =
      let e : count ≡ 0 = omega (arith, low) in rw e refl
  enough (suc a) zero page count low high =
      let e : count ≡ 0 = omega (arith, high) in rw e refl
  enough (suc a) (suc b) page count low high = elim (cases_eq count 0) [
    | inl e ↦ rw e refl
    | inr ne ↦
        let more = in_some page count (omega (arith, ne)) in
        rw (ne_eqb count 0 ne) (ap (λ l. first_part k page count ∷ l)
        (enough a b (page + in_cluster k page count) (count - in_cluster k page count) (omega (arith, low, more))
        (omega (arith, high, more))))
  ]

  -- the first part and those behind it
  pub next_part : (times page count : ℕ) → 0 < count → count ≤ times → parts_of k times page count
      ≡ first_part k page count
      ∷ parts_of k (count - in_cluster k page count) (page + in_cluster k page count)
      (count - in_cluster k page count)
  next_part zero page count more low = absurd (omega (arith, more, low))
  next_part (suc times) page count more low =
      let taken = in_some page count more in
      rw (ne_eqb count 0 (λ e. omega (arith, e, more))) (ap (λ l. first_part k page count ∷ l)
      (enough times (count - in_cluster k page count) (page + in_cluster k page count)
      (count - in_cluster k page count) (omega (arith, low, taken)) (omega arith)))

  none_left : (times page : ℕ) → parts_of k times page 0 ≡ []
  none_left zero page = refl
  none_left (suc times) page = refl

  -- nothing is asked for
  nothing : (times page count : ℕ) → count ≡ 0 → IsSplit k page count (parts_of k times page count)
  nothing times page count none = subst (λ n. IsSplit k page n (parts_of k times page n)) (sym none)
      (subst (IsSplit k page 0) (sym (none_left times page)) (record { pages = refl; within = tt; clusters = refl }))

  -- behind a cluster's last page comes the next cluster's first one
  next_cluster : (page count : ℕ) → in_cluster k page count < count
      → (page + in_cluster k page count) / k ≡ page / k + 1
  next_cluster page count more =
      let whole = div-add-mod page k in
      let lt = mod-lt page some in
      let e : page + in_cluster k page count ≡ k * (page / k + 1) = omega (arith, whole, lt, more) in
      ap (λ n. n / k) e ∙ mul-div_cancel_left (page / k + 1) some

  -- the first part in front of the parts behind it
  in_front : (page count : ℕ) (parts : List Part) → 0 < count
      → IsSplit k (page + in_cluster k page count) (count - in_cluster k page count) parts
      → (in_cluster k page count ≡ count → parts ≡ []) → IsSplit k page count (first_part k page count ∷ parts)
  in_front page count parts more rest last =
      let n = in_cluster k page count in
      let lt = mod-lt page some in
      let few = in_few page count in
      let whole = div-add-mod page k in
      let start : page / k * k + page % k ≡ page = omega (arith, whole) in
      let both : n + (count - n) ≡ count = omega (arith, few) in
      record {
        pages = ap (λ p. range_with_len p n ++ pages_of k parts) start
            ∙ ap (λ l. range_with_len page n ++ l) rest.pages
            ∙ sym (range_apart n (count - n) page)
            ∙ ap (range_with_len page) both;
        within = (record { some = in_some page count more; inside = omega (arith, lt) }, rest.within);
        clusters = ap (λ l. page / k ∷ l) (elim (cases_lt n count) [
          | inl below ↦ rest.clusters
              ∙ ap (λ slot. range_with_len slot (length parts)) (next_cluster page count below)
          | inr all ↦
              let none = last (omega (arith, all, few)) in
              ap (λ (l : List Part). map (λ part. part.slot) l) none
              ∙ sym (ap (λ (l : List Part). range_with_len (page / k + 1) (length l)) none)
        ]);
      }

  pub is_split : (times page count : ℕ) → count ≤ times → IsSplit k page count (parts_of k times page count)
  is_split zero page count low = nothing zero page count (omega (arith, low))
  is_split (suc times) page count low = elim (cases_eq count 0) [
    | inl e ↦ nothing (suc times) page count e
    | inr ne ↦
        let more : 0 < count = omega (arith, ne) in
        let taken = in_some page count more in
        rw (ne_eqb count 0 ne) (in_front page count
        (parts_of k times (page + in_cluster k page count) (count - in_cluster k page count)) more
        (is_split times (page + in_cluster k page count) (count - in_cluster k page count)
        (omega (arith, low, taken)))
        (λ all. let e : count - in_cluster k page count ≡ 0 = omega (arith, all) in
        ap (parts_of k times (page + in_cluster k page count)) e
        ∙ none_left times (page + in_cluster k page count)))
  ]
