-- The pages of claimed clusters that a job still has to overwrite.
use Rattle.std.proofs.Common.{◌≡◌, ℕ, zero, suc, ◌+◌, ◌-◌, ◌*◌, ◌<◌, ◌≤◌, List, [], ◌∷◌, ◌++◌, length, get_or, drop}
use Rattle.std.proofs.Common.{map, refl, sym, ◌∙◌, ap, arith, add-one}
use Rattle.std.specs.List.{range_with_len}
use Rattle.store_model.specs.Phases.{Phase, Zeros}
use Rattle.running_store.specs.Jobs.{behind_zero, writing_for, zeroing_for, IsMatched, IsMatchedFor}
use Rattle.running_store.specs.Jobs.{IsZeroedFor}
use Rattle.std.specs.Prelude.{IsSome}
use Rattle.running_store.specs.Zeroing.{next_zeroed, zeroed_from, pages_of, IsLeft}
use Rattle.running_store.specs.declared.replacements.Planned.{Planned}
use Rattle.running_store.specs.declared.job.Serves.{Serves}
use Rattle.running_store.specs.declared.job.Serves.TheVariants as whom
use Rattle.running_store.specs.declared.job.Zeroed.{Zeroed}
use Rattle.store_model.specs.StoreState.{JobState}

-- what is known of a job that overwrites clusters
pub zeroed_of : (serves : Serves) (p : Planned) (z : Zeroed) → IsZeroedFor serves p z
    → IsMatched p × IsLeft p.effects.claimed z × IsSome p.effects.commit
zeroed_of (whom.Command channel freeze) p z is = is
zeroed_of (whom.Insert channel) p z is = absurd is
zeroed_of whom.Repair p z is = absurd is

-- another page of them may come
pub still_zeroed : (serves : Serves) (p : Planned) (z more : Zeroed) → IsZeroedFor serves p z
    → IsLeft p.effects.claimed more → IsZeroedFor serves p more
still_zeroed (whom.Command channel freeze) p z more is left = (is.0, left, is.2)
still_zeroed (whom.Insert channel) p z more is left = is
still_zeroed whom.Repair p z more is left = is

-- or its metadata
pub matched_behind : (serves : Serves) (p : Planned) (z : Zeroed) → IsZeroedFor serves p z → IsMatchedFor serves p
matched_behind (whom.Command channel freeze) p z is = is.0
matched_behind (whom.Insert channel) p z is = absurd is
matched_behind whom.Repair p z is = absurd is

-- ---- lists of pages

-- the first of some in a row
first_of_row : (start len : ℕ) (rest : List ℕ) → 0 < len
    → range_with_len start len ++ rest ≡ start ∷ drop 1 (range_with_len start len ++ rest)
first_of_row start zero rest some = absurd (omega (arith, some))
first_of_row start (suc n) rest some = refl

drop_past : (l : List ℕ) (n : ℕ) → length l ≤ n → drop n l ≡ []
drop_past [] zero le = refl
drop_past [] (suc n) le = refl
drop_past (x ∷ xs) zero le = absurd (omega (arith, le))
drop_past (x ∷ xs) (suc n) le = drop_past xs n (omega (arith, le))

-- all pages of clusters
pub from_start : (k : ℕ) (l : List ℕ) → zeroed_from k l 0 ≡ pages_of k l
from_start k [] = refl
from_start k (c ∷ cs) =
    ap (λ n. range_with_len n (k - 0) ++ pages_of k cs) (let same : c * k + 0 ≡ c * k = omega arith in same)
    ∙ ap (λ n. range_with_len (c * k) n ++ pages_of k cs) (let whole : k - 0 ≡ k = omega arith in whole)

-- The next page is that of the cluster that is being overwritten,
pub first_page : (k : ℕ) (l : List ℕ) (m page : ℕ) → m < length l → page < k
    → zeroed_from k (drop m l) page ≡ (get_or l m 0 * k + page) ∷ drop 1 (zeroed_from k (drop m l) page)
first_page k [] m page low some = absurd (omega (arith, low))
first_page k (c ∷ cs) zero page low some =
    first_of_row (c * k + page) (k - page) (pages_of k cs) (omega (arith, some))
first_page k (c ∷ cs) (suc m) page low some = first_page k cs m page (omega (arith, low)) some

-- behind which the next page of the cluster comes,
pub next_in_cluster : (k : ℕ) (l : List ℕ) (m page : ℕ) → m < length l → page + 1 < k
    → zeroed_from k (drop m l) (page + 1) ≡ drop 1 (zeroed_from k (drop m l) page)
next_in_cluster k [] m page low more = absurd (omega (arith, low))
next_in_cluster k (c ∷ cs) zero page low more =
    ap (λ n. range_with_len n (k - (page + 1)) ++ pages_of k cs)
    (let next : c * k + (page + 1) ≡ c * k + page + 1 = omega arith in next)
    ∙ sym (ap (λ n. drop 1 (range_with_len (c * k + page) n ++ pages_of k cs))
    (let left : k - page ≡ suc (k - (page + 1)) = omega (arith, more) in left))
next_in_cluster k (c ∷ cs) (suc m) page low more = next_in_cluster k cs m page (omega (arith, low)) more

-- or the first of the next cluster.
pub next_cluster : (k : ℕ) (l : List ℕ) (m page : ℕ) → m < length l → page < k → k ≤ page + 1
    → zeroed_from k (drop (suc m) l) 0 ≡ drop 1 (zeroed_from k (drop m l) page)
next_cluster k [] m page low some last = absurd (omega (arith, low))
next_cluster k (c ∷ cs) zero page low some last =
    from_start k cs
    ∙ sym (ap (λ n. drop 1 (range_with_len (c * k + page) n ++ pages_of k cs))
    (let left : k - page ≡ 1 = omega (arith, some, last) in left))
next_cluster k (c ∷ cs) (suc m) page low some last = next_cluster k cs m page (omega (arith, low)) some last

-- ---- phases

zero_ahead : (l : List ℕ) (n : ℕ) (more : List Phase) → l ≡ n ∷ drop 1 l
    → map Zeros l ++ more ≡ Zeros n ∷ drop 1 (map Zeros l ++ more)
zero_ahead [] n more is = absurd (cc is)
zero_ahead (x ∷ xs) n more is = let e : x ≡ n = cc is in ap (λ y. Zeros y ∷ (map Zeros xs ++ more)) e

zeros_behind : (l : List ℕ) (n : ℕ) (more : List Phase) → l ≡ n ∷ drop 1 l
    → drop 1 (map Zeros l ++ more) ≡ map Zeros (drop 1 l) ++ more
zeros_behind [] n more is = absurd (cc is)
zeros_behind (x ∷ xs) n more is = refl

module _ (serves : Serves) (planned : Planned) (old : List ℕ) (z : Zeroed) (others : List Phase)
    (left : IsLeft planned.effects.claimed z) where
  abbrev claimed : List ℕ
  claimed = planned.effects.claimed

  abbrev k : ℕ
  k = z.cluster_pages

  abbrev j : JobState
  j = zeroing_for serves planned old z others

  abbrev ahead : List ℕ
  ahead = zeroed_from k (drop z.clusters claimed) z.pages

  abbrev more : List Phase
  more = (writing_for serves planned old 0 others).todo

  next : ahead ≡ next_zeroed claimed z ∷ drop 1 ahead
  next = first_page k claimed z.clusters z.pages left.clusters left.pages

  -- the next page is overwritten first,
  pub zeroes_next : j.todo ≡ Zeros (next_zeroed claimed z) ∷ drop 1 j.todo
  zeroes_next = zero_ahead ahead (next_zeroed claimed z) more next

  behind : (l : List ℕ) → l ≡ drop 1 ahead → record j { todo = map Zeros l ++ more } ≡ behind_zero j
  behind l is =
      ap (λ l. record j { todo = map Zeros l ++ more }) is
      ∙ ap (λ t. record j { todo = t }) (sym (zeros_behind ahead (next_zeroed claimed z) more next))

  -- then another of its cluster,
  pub page_more : z.pages + 1 < z.cluster_pages
      → zeroing_for serves planned old (record z { pages = z.pages + 1 }) others ≡ behind_zero j
  page_more some =
      behind (zeroed_from k (drop z.clusters claimed) (z.pages + 1))
      (next_in_cluster k claimed z.clusters z.pages left.clusters some)

  -- or one of the next cluster,
  pub cluster_more : z.cluster_pages ≤ z.pages + 1
      → zeroing_for serves planned old (record z { clusters = z.clusters + 1; pages = 0 }) others
      ≡ behind_zero j
  cluster_more last =
      ap (λ n. zeroing_for serves planned old (record z { clusters = n; pages = 0 }) others) (add-one z.clusters)
      ∙ behind (zeroed_from k (drop (suc z.clusters) claimed) 0)
      (next_cluster k claimed z.clusters z.pages left.clusters left.pages last)

  -- or the metadata is written.
  pub none_more : z.cluster_pages ≤ z.pages + 1 → length claimed ≤ z.clusters + 1
      → writing_for serves planned old 0 others ≡ behind_zero j
  none_more last all =
      behind []
      (sym (ap (λ l. zeroed_from k l 0) (drop_past claimed (suc z.clusters) (omega (arith, all))))
      ∙ next_cluster k claimed z.clusters z.pages left.clusters left.pages last)
