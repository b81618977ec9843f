-- What is written is read again.
use Rattle.std.proofs.Common.{◌≡◌, ℕ, zero, suc, ◌+◌, ◌-◌, ◌*◌, ◌/◌, ◌%◌, ◌^◌, ◌<◌, ◌≤◌, true, false, eqb, ltb, List}
use Rattle.std.proofs.Common.{[], ◌∷◌, ◌++◌, length, take, drop, get_or, replicate, All, Some, refl, sym, ap, subst}
use Rattle.std.proofs.Common.{◌∙◌, append_assoc, arith, length-append, inl, inr}
use Rattle.std.specs.List.{flat_map, AllByRecursion}
use Rattle.std.proofs.lemmas.Bool.{cases_lt, eq-eqb, ne_eqb, le-ltb}
use Rattle.std.proofs.lemmas.List.{take_at, drop_at, drop-drop, append-nil, length-replicate, get_or-replicate}
use Rattle.std.proofs.lemmas.List.{get_or_past, drop-replicate}
use Rattle.std.proofs.lemmas.List.Sums.{sum_by-cons}
use Rattle.std.proofs.lemmas.List.Elements.{recursion_from_All}
use Rattle.byteorder.specs.Endian.{little_number, little_from}
use Rattle.byteorder.specs.Numbers.{little_number-reads_back}
use Rattle.volume_model.specs.declared.lists.SlotRun.{SlotRun}
use Rattle.descriptors.specs.declared.item.Item.{Item}
use Rattle.descriptors.specs.declared.item.Item.TheVariants.{Rle, Xattr, Flags, InternalXattr, Unknown}
use Rattle.descriptors.specs.Numbers.{number_from}
use Rattle.descriptors.specs.Rows.{spelled_runs, rle, pair_in, flags, row, xattr_of, internal_of}
use Rattle.descriptors.specs.Grammar.{Descriptor, Spells, short, ends, adds}
use Rattle.descriptors.specs.Writing.{run_bytes, pair_bytes, flags_bytes, kind_of_item, item_body, framed, item_bytes}
use Rattle.descriptors.specs.Writing.{item_size, spelled_size, spelling, RunFits, ItemFits, IsWritable}
use Rattle.page_fields.specs.Fields.{number, number_bytes}
use Rattle.descriptors.proofs.ReadingSteps.{number_from-drop}
use Rattle.page_fields.proofs.Laws.{len-number_bytes}
use Rattle.descriptors.proofs.Lengths.{length-runs_bytes, length-framed, length-item_bytes}

-- ---- numbers

number_again : (n x : ℕ) (rest : List ℕ) → x < 256 ^ n → number_from 0 n (number_bytes n x ++ rest) ≡ x
unfolding number_from number number_bytes
number_again n x rest lt = little_number-reads_back n x rest lt

-- a number behind other bytes
number_past : (n k i : ℕ) (front rest : List ℕ) → length front ≡ k
    → number_from (k + i) n (front ++ rest) ≡ number_from i n rest
number_past n k i front rest len = sym (number_from-drop n i k (front ++ rest))
    ∙ ap (number_from i n) (drop_at front rest k len)

-- ---- rows

pair_again : (name value : List ℕ) → length name < 2 ^ 16 → length value < 2 ^ 16
    → pair_in (pair_bytes name value) ≡ Some (name, value)
unfolding pair_in pair_bytes
pair_again name value small_name small_value =
    let a = number_bytes 2 (length name) in
    let b = number_bytes 2 (length value) in
    let body = a ++ (b ++ (name ++ value)) in
    let len : length body ≡ 4 + length name + length value = simp (length-append, len-number_bytes) (omega arith) in
    let first : number_from 0 2 body ≡ length name = number_again 2 (length name) (b ++ (name ++ value)) small_name in
    let second : number_from 2 2 body ≡ length value =
    number_past 2 2 0 a (b ++ (name ++ value)) (len-number_bytes 2 _)
    ∙ number_again 2 (length value) (name ++ value) small_value in
    let past : drop 4 body ≡ name ++ value = sym (drop-drop 2 2 body)
    ∙ ap (drop 2) (drop_at a (b ++ (name ++ value)) 2 (len-number_bytes 2 _))
    ∙ drop_at b (name ++ value) 2 (len-number_bytes 2 _) in
    let rest : drop (4 + length name) body ≡ value =
    sym (drop-drop (length name) 4 body) ∙ ap (drop (length name)) past ∙ drop_at name value (length name) refl in
    let long : ltb (length body) 4 ≡ false = le-ltb _ _ (omega arith) in
    let whole : eqb (length body) (4 + length name + length value) ≡ true = eq-eqb _ _ len in
    rw (long, first, second, whole, past, rest, take_at name value (length name) refl) refl

flags_again : (a b c : ℕ) → a < 2 ^ 64 → b < 2 ^ 64 → c < 2 ^ 64 → flags (flags_bytes a b c) ≡ Some (Flags a b c)
unfolding flags flags_bytes
flags_again a b c la lb lc =
    let x = number_bytes 8 a in
    let y = number_bytes 8 b in
    let z = number_bytes 8 c in
    let body = x ++ (y ++ z) in
    let len : length body ≡ 24 = simp (length-append, len-number_bytes) in
    let first : number_from 0 8 body ≡ a = number_again 8 a (y ++ z) la in
    let second : number_from 8 8 body ≡ b = number_past 8 8 0 x (y ++ z) (len-number_bytes 8 _)
    ∙ number_again 8 b z lb in
    let third : number_from 16 8 body ≡ c = number_past 8 8 8 x (y ++ z) (len-number_bytes 8 _)
    ∙ number_past 8 8 0 y z (len-number_bytes 8 _) ∙ ap (number_from 0 8) (sym (append-nil z))
    ∙ number_again 8 c [] lc in
    rw (eq-eqb _ _ len, first, second, third) refl

runs_again : (runs : List SlotRun) (rest : List ℕ) → AllByRecursion RunFits runs
    → spelled_runs (length runs) (flat_map run_bytes runs ++ rest) ≡ runs
runs_again [] rest h = refl
runs_again (r ∷ rs) rest h =
    let x = number_bytes 4 r.cluster in
    let y = number_bytes 4 r.length in
    let more = flat_map run_bytes rs ++ rest in
    let body : ((x ++ y) ++ flat_map run_bytes rs) ++ rest ≡ x ++ (y ++ more) = simp append_assoc in
    let first : number_from 0 4 (x ++ (y ++ more)) ≡ r.cluster = number_again 4 r.cluster (y ++ more) h.0.0 in
    let second : number_from 4 4 (x ++ (y ++ more)) ≡ r.length =
    number_past 4 4 0 x (y ++ more) (len-number_bytes 4 _) ∙ number_again 4 r.length more h.0.1 in
    let past : drop 8 (x ++ (y ++ more)) ≡ more = sym (drop-drop 4 4 (x ++ (y ++ more)))
    ∙ ap (drop 4) (drop_at x (y ++ more) 4 (len-number_bytes 4 _)) ∙ drop_at y more 4 (len-number_bytes 4 _) in
    rw (body, first, second, past, runs_again rs rest h.1) refl

rle_again : (runs : List SlotRun) → 0 < length runs → All RunFits runs → rle (flat_map run_bytes runs) ≡ Some (Rle runs)
unfolding rle
rle_again runs some fits =
    let body = flat_map run_bytes runs in
    let len : length body ≡ 8 * length runs = length-runs_bytes runs in
    let not_empty : eqb (length body) 0 ≡ false = ne_eqb _ _ (λ e. omega arith) in
    let whole : eqb (length body % 8) 0 ≡ true = eq-eqb _ _ (omega arith) in
    let count : length body / 8 ≡ length runs = omega arith in
    let again : spelled_runs (length runs) body ≡ runs =
    ap (spelled_runs (length runs)) (sym (append-nil body))
    ∙ runs_again runs [] (recursion_from_All RunFits runs fits) in
    rw (not_empty, whole, count, again) refl

row_again : (item : Item) → IsWritable item → ItemFits item → item_size item < 2 ^ 16
    → row (kind_of_item item) (item_body item) ≡ Some item
row_again (Rle runs) w f small = rle_again runs w f
row_again (Xattr key value) w f small = ap xattr_of (pair_again key value (omega arith) (omega arith))
row_again (Flags a b c) w f small = flags_again a b c f.0 f.1 f.2
row_again (InternalXattr key value) w f small = ap internal_of (pair_again key value (omega arith) (omega arith))
row_again (Unknown kind) w f small = absurd w

kind_above : (item : Item) → IsWritable item → 0 < kind_of_item item
kind_above (Rle runs) w = omega arith
kind_above (Xattr key value) w = omega arith
kind_above (Flags a b c) w = omega arith
kind_above (InternalXattr key value) w = omega arith
kind_above (Unknown kind) w = absurd w

-- ---- bodies

head_again : (kind : ℕ) (body rest : List ℕ) → length body < 2 ^ 32
    → Descriptor (framed kind body ++ rest) kind body rest
head_again kind body rest lt =
    let s = number_bytes 4 (length body) in
    let all = framed kind body ++ rest in
    let len : length all ≡ 5 + length body + length rest =
    length-append (framed kind body) rest ∙ ap (λ (n : ℕ). n + length rest) (length-framed kind body) in
    let shape : all ≡ (kind ∷ s) ++ (body ++ rest) = ap (λ (t : List ℕ). kind ∷ t) (append_assoc s body rest) in
    let size : number_from 1 4 all ≡ length body = number_past 4 1 0 (kind ∷ []) ((s ++ body) ++ rest) refl
    ∙ ap (number_from 0 4) (append_assoc s body rest) ∙ number_again 4 (length body) (body ++ rest) lt in
    let past : drop 5 all ≡ body ++ rest = ap (drop 5) shape
    ∙ drop_at (kind ∷ s) (body ++ rest) 5 (ap suc (len-number_bytes 4 _)) in
    record {
      head = omega arith;
      fits = omega arith;
      kind_is = refl;
      size_is = sym size;
      body_is = sym (ap (take (length body)) past ∙ take_at body rest (length body) refl);
      rest_is = sym (sym (drop-drop (length body) 5 all) ∙ ap (drop (length body)) past
          ∙ drop_at body rest (length body) refl);
    }

-- ---- what is left

abbrev pub zeros : ℕ → List ℕ
zeros n = replicate n 0

zero_at : (m i : ℕ) → get_or (zeros m) i 0 ≡ 0
zero_at m i = elim (cases_lt i m) [
  | inl lt ↦ get_or-replicate m i 0 0 lt
  | inr le ↦ get_or_past (zeros m) i 0 (omega (arith, length-replicate {A = ℕ} m 0))
]

little_zeros : (n i m : ℕ) → little_from i n (zeros m) ≡ 0
little_zeros zero i m = refl
little_zeros (suc n) i m = omega (arith, zero_at m i, little_zeros n (suc i) m)

number_zero : (n i m : ℕ) → number_from i n (zeros m) ≡ 0
unfolding number_from number
number_zero n i m = ap (little_number n) (drop-replicate i m 0) ∙ little_zeros n 0 (m - i)

zeros_end : (n : ℕ) → Spells (zeros n) []
zeros_end n =
    let b = zeros n in
    let len : length b ≡ n = length-replicate {A = ℕ} n 0 in
    elim (cases_lt n 5) [
      | inl lt ↦ short b (omega arith)
      | inr le ↦ ends b [] (drop 5 b) (record {
        head = omega arith;
        fits = omega arith;
        kind_is = sym (zero_at n 0);
        size_is = sym (number_zero 4 1 n);
        body_is = refl;
        rest_is = refl;
      }) refl
    ]

again : (items : List Item) (n : ℕ) → AllByRecursion IsWritable items → AllByRecursion ItemFits items
    → spelled_size items < 2 ^ 16 → Spells (spelling items ++ zeros n) items
again [] n w f lt = zeros_end n
again (item ∷ items) n w f lt =
    let rest : List ℕ = spelling items ++ zeros n in
    let whole : spelled_size (item ∷ items) ≡ item_size item + spelled_size items = sum_by-cons item_size item items in
    let sized : 5 + length (item_body item) ≡ item_size item =
    sym (length-framed (kind_of_item item) (item_body item)) ∙ length-item_bytes item in
    let d : Descriptor (framed (kind_of_item item) (item_body item) ++ rest) (kind_of_item item) (item_body item) rest =
    head_again (kind_of_item item) (item_body item) rest (omega arith) in
    let s : Spells (item_bytes item ++ rest) (item ∷ items) =
    adds _ (kind_of_item item) (item_body item) rest item items d (kind_above item w.0)
    (row_again item w.0 f.0 (omega arith)) (again items n w.1 f.1 (omega arith)) in
    subst (λ (b : List ℕ). Spells b (item ∷ items)) (sym (append_assoc (item_bytes item) (spelling items) (zeros n))) s

-- what the items are spelled as, with zeros after it, spells them
pub written_again : (items : List Item) (n : ℕ) → All IsWritable items → All ItemFits items
    → spelled_size items < 2 ^ 16 → Spells (spelling items ++ zeros n) items
written_again items n w f lt = again items n (recursion_from_All IsWritable items w)
    (recursion_from_All ItemFits items f) lt

-- the same of a body that was written
pub body_again : (items slice : List Item) (mid new : List ℕ) (n : ℕ) → slice ≡ items → mid ≡ spelling slice
    → new ≡ mid ++ zeros n
    → All IsWritable items → All ItemFits slice → spelled_size items ≤ 4072 → Spells new items
body_again items slice mid new n e-slice e-mid e-new w f le =
    let fits : All ItemFits items = subst (All ItemFits) e-slice f in
    let whole : new ≡ spelling items ++ zeros n = e-new
    ∙ ap (λ (t : List ℕ). t ++ zeros n) (e-mid ∙ ap spelling e-slice) in
    subst (λ (b : List ℕ). Spells b items) (sym whole) (written_again items n w fits (omega arith))
