-- What logging an entry makes of the counts.
use Rattle.std.proofs.Common.{◌≡◌, ℕ, ◌+◌, ◌<◌, ◌≤◌, eqb, List, [], ◌∷◌, ◌++◌, length, slice_index_or, slice_set, refl}
use Rattle.std.proofs.Common.{sym, ◌∙◌, ap, subst, arith, inl, inr, not, length-append}
use Rattle.std.proofs.lemmas.Bool.{cases_eq, eq-eqb, ne_eqb}
use Rattle.std.proofs.lemmas.List.{append-nil, get_or-set_same, get_or-set_other}
use Rattle.std.proofs.lemmas.List.Elements.{filter-append}
use Rattle.std.proofs.lemmas.List.Filters.{length-filter_both}
use Rattle.std.proofs.lemmas.List.Sums.{sum_by-set}
use Rattle.volume_model.specs.declared.reply.Entry.{Entry}
use Rattle.store_model.specs.Rows.{Row, entries_of}
use Rattle.running_store.specs.Running.{left_in}

pub few_of : (channel : ℕ) (log : List Entry) → length (entries_of channel log) ≤ length log
few_of channel log = let both = length-filter_both (λ (e : Entry). eqb e.channel channel)
    (λ e. not (eqb e.channel channel)) (λ e. refl) log in omega (arith, both)

-- one command less in a row
pub left_less : (rows : List Row) (channel : ℕ) (row d : Row)
    → channel < length rows → length (slice_index_or rows channel d).left ≡ length row.left + 1
    → left_in (slice_set rows channel row) + 1 ≡ left_in rows
left_less rows channel row d low less =
    let s = sum_by-set (λ (r : Row). length r.left) rows channel row d low in omega (arith, s, less)

-- the same number in a row
pub left_same : (rows : List Row) (channel : ℕ) (row d : Row)
    → channel < length rows → length (slice_index_or rows channel d).left ≡ length row.left
    → left_in (slice_set rows channel row) ≡ left_in rows
left_same rows channel row d low same =
    let s = sum_by-set (λ (r : Row). length r.left) rows channel row d low in omega (arith, s, same)

-- one entry more of a channel
pub counted_more : (logged : List ℕ) (log : List Entry) (e : Entry) (n : ℕ) → n ≡ length logged → e.channel < n
    → ((c : ℕ) → c < n → slice_index_or logged c 0 ≡ length (entries_of c log))
    → (c : ℕ) → c < n → slice_index_or (slice_set logged e.channel (slice_index_or logged e.channel 0 + 1)) c 0
    ≡ length (entries_of c (log ++ e ∷ []))
counted_more logged log e n long low counted c lt = elim (cases_eq c e.channel) [
  | inl is ↦
      let more : entries_of c (log ++ e ∷ []) ≡ entries_of c log ++ e ∷ [] =
      filter-append (λ (x : Entry). eqb x.channel c) log (e ∷ []) ∙ rw (eq-eqb e.channel c (sym is)) refl in
      let here : slice_index_or (slice_set logged e.channel (slice_index_or logged e.channel 0 + 1)) c 0
      ≡ slice_index_or logged c 0 + 1 =
      rw is (get_or-set_same logged e.channel (slice_index_or logged e.channel 0 + 1) 0
      (subst (λ k. e.channel < k) long low)) in
      here ∙ ap (λ k. k + 1) (counted c lt)
      ∙ sym (ap (λ (l : List Entry). length l) more ∙ length-append (entries_of c log) (e ∷ []))
  | inr ne ↦
      let same : entries_of c (log ++ e ∷ []) ≡ entries_of c log =
      filter-append (λ (x : Entry). eqb x.channel c) log (e ∷ [])
      ∙ rw (ne_eqb e.channel c (λ x. ne (sym x))) (append-nil (entries_of c log)) in
      get_or-set_other logged e.channel c (slice_index_or logged e.channel 0 + 1) 0 ne ∙ counted c lt
      ∙ sym (ap (λ (l : List Entry). length l) same)
]
