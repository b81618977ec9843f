-- The text of a mask and the set that it says, place by place.
use Rattle.std.proofs.Common.{◌≡◌, ℕ, ◌+◌, ◌-◌, ◌*◌, ◌/◌, ◌%◌, ◌^◌, ◌<◌, ◌≤◌, Bool, true, false, eqb, List, [], ◌∷◌}
use Rattle.std.proofs.Common.{◌++◌, length, get_or, take, drop, map, replicate, refl, sym, ap, ◌∙◌, subst, arith, zero}
use Rattle.std.proofs.Common.{suc, inl, inr, add-one, add-zero, add_comm, None, eq-eqb}
use Rattle.std.proofs.Math.Nat.{pow-suc, pow-le-pow_right}
use Rattle.std.specs.Prelude.{◌||◌}
use Rattle.std.specs.List.{range_with_len}
use Rattle.std.specs.Int.{bit_at, from_le_bytes, to_le_bytes, w32}
use Rattle.std.proofs.lemmas.Nat.{from_le_bytes-to_le_bytes_4}
use Rattle.std.proofs.lemmas.Bool.{cases_lt, cases_Bool}
use Rattle.std.proofs.lemmas.List.{ext_get_or, get_or_past, get_or_append_left, get_or-append_right, get_or-replicate}
use Rattle.std.proofs.lemmas.List.{length-replicate, length-append, length-drop, length-take-le, get_or-take}
use Rattle.std.proofs.lemmas.List.{get_or-drop}
use Rattle.std.proofs.lemmas.List.FromFn.{length-map-range_with_len, get_or-map-range_with_len}
use Rattle.std.proofs.lemmas.Nat.Bits.{bit_at-zero, bit_at-suc, bit_at_lowest}
use Rattle.bit_array.specs.Bits.{is_in}
use Rattle.bit_array.specs.Fault.{head_fault, length_in}
use Rattle.bit_array.specs.Mask.{bit_value, bits_in, mask_pages, mask_text, packed, packed_byte, text_page, text_bit}

-- a text says a set of the length that is wanted
pub length-bits_in : (len : ℕ) (text : List ℕ) → length (bits_in len text) ≡ len
unfolding bits_in
length-bits_in len text = length-map-range_with_len (text_bit text) 0 len

-- a place is in the set where its bit of the text is set
pub is_in-bits_in : (len : ℕ) (text : List ℕ) (k : ℕ) → k < len → is_in (bits_in len text) k ≡ text_bit text k
unfolding bits_in
is_in-bits_in len text k h = get_or-map-range_with_len (text_bit text) 0 len k k false h (omega arith)

-- a text that isn't there says nothing
pub text_bit-past : (text : List ℕ) (k : ℕ) → length text ≤ 5 + k / 8 → text_bit text k ≡ false
text_bit-past text k h =
    ap (λ (b : ℕ). eqb (bit_at b (k % 8)) 1) (get_or_past text (5 + k / 8) 0 h)
    ∙ ap (λ (b : ℕ). eqb b 1) (bit_at-zero (k % 8))

-- an empty text says the empty set
pub bits_in-none : (len : ℕ) → replicate len false ≡ bits_in len []
bits_in-none len =
    ext_get_or false _ _ (length-replicate len false ∙ sym (length-bits_in len []))
    (λ k h.
    let below : k < len = subst (λ (n : ℕ). k < n) (length-replicate len false) h in
    get_or-replicate len k false false below ∙ sym (is_in-bits_in len [] k below ∙ text_bit-past [] k (omega arith)))

-- whether a page of the text has the bit of a place set, where the page begins at `first`
abbrev pub page_bit : List ℕ → ℕ → ℕ → Bool
page_bit page first k = eqb (bit_at (get_or page (5 + k / 8 - first) 0) (k % 8)) 1

-- a page's bits were put to those of the pages before it
pub record TakesPage (old new : List Bool) (page : List ℕ) (first end : ℕ) : Type 0 where
  pub len : length new ≡ length old
  pub taken : (k : ℕ) → 8 * (first - 5) ≤ k → k < end → is_in new k ≡ (is_in old k || page_bit page first k)
  pub below : (k : ℕ) → k < 8 * (first - 5) → is_in new k ≡ is_in old k
  pub past : (k : ℕ) → end ≤ k → is_in new k ≡ is_in old k

-- the bits that a page takes are those of the longer text
pub bits_in-page : (old new : List Bool) (page : List ℕ) (index end : ℕ) (text : List ℕ)
    → TakesPage old new page (4096 * index) end → length page ≡ 4096
    → (k_end : (k : ℕ) → k < length old → end ≤ k → 8 * (4096 * index + 4091) ≤ k) → end ≤ 8 * (4096 * index + 4091)
    → length text ≡ 4096 * index → old ≡ bits_in (length old) text → new ≡ bits_in (length old) (text ++ page)
bits_in-page old new page index end text takes page_len k_end within pages was =
    ext_get_or false _ _ (takes.len ∙ sym (length-bits_in (length old) (text ++ page)))
    (λ k h.
    let inside : k < length old = subst (λ (n : ℕ). k < n) takes.len h in
    let said : is_in old k ≡ text_bit text k =
    ap (λ (bits : List Bool). is_in bits k) was ∙ is_in-bits_in (length old) text k inside in
    let whole : is_in (bits_in (length old) (text ++ page)) k ≡ text_bit (text ++ page) k =
    is_in-bits_in (length old) (text ++ page) k inside in
    let long : length (text ++ page) ≡ length text + length page = length-append text page in
    elim (cases_lt k (8 * (4096 * index - 5))) [
      | inl lt ↦
          takes.below k lt ∙ said
          ∙ sym (whole
          ∙ ap (λ (b : ℕ). eqb (bit_at b (k % 8)) 1) (get_or_append_left text page 0 (5 + k / 8) (omega arith)))
      | inr ge ↦
          elim (cases_lt k end) [
            | inl lt ↦
                let nothing : is_in old k ≡ false = said ∙ text_bit-past text k (omega arith) in
                takes.taken k ge lt
                ∙ ap (λ (b : Bool). b || page_bit page (4096 * index) k) nothing
                ∙ sym (whole
                ∙ ap (λ (b : ℕ). eqb (bit_at b (k % 8)) 1)
                (get_or-append_right text page (4096 * index) (5 + k / 8) 0 pages (omega arith)))
            | inr past ↦
                let far : 8 * (4096 * index + 4091) ≤ k = k_end k inside past in
                takes.past k past ∙ said ∙ text_bit-past text k (omega arith)
                ∙ sym (whole ∙ text_bit-past (text ++ page) k (omega arith))
          ]
    ])

-- ---- bytes of bits

-- no bits are the number 0
pub packed-none : (bits : List Bool) (at : ℕ) → packed bits at 0 ≡ 0
unfolding packed
packed-none bits at = refl

-- one bit more at the front, from the number of the bits behind it
pub packed-more : (bits : List Bool) (at next n : ℕ) → at + 1 ≡ next
    → packed bits at (n + 1) ≡ 2 * packed bits next n + bit_value bits at
unfolding packed
packed-more bits at next n e =
    ap (packed bits at) (add-one n) ∙ ap (λ (k : ℕ). bit_value bits at + 2 * packed bits k n) e
    ∙ add_comm (bit_value bits at) (2 * packed bits next n)

bit_value-le : (bits : List Bool) (at : ℕ) → bit_value bits at ≤ 1
bit_value-le bits at = elim (cases_Bool (is_in bits at)) [ inl e ↦ rw e (omega arith) | inr e ↦ rw e (omega arith) ]

packed-lt : (bits : List Bool) (at n : ℕ) → packed bits at n < 2 ^ n
unfolding packed
packed-lt bits at zero = omega arith
packed-lt bits at (suc n) =
    omega (arith, packed-lt bits (at + 1) n, bit_value-le bits at, pow-suc 2 n)

-- one bit more in front
pub packed_step : (bits : List Bool) (index step byte bit : ℕ) → byte ≡ packed bits (8 * index + (8 - step)) step
    → bit ≡ bit_value bits (8 * index + 7 - step) → step < 8
    → (2 * byte + bit ≡ packed bits (8 * index + (8 - (step + 1))) (step + 1)) × (2 * byte + bit < 256)
packed_step bits index step byte bit was read h =
    let more : packed bits (8 * index + 7 - step) (step + 1) ≡ 2 * packed bits
    (8 * index + (8 - step)) step + bit_value bits (8 * index + 7 - step) =
    packed-more bits (8 * index + 7 - step) (8 * index + (8 - step)) step (omega arith) in
    let place : 8 * index + (8 - (step + 1)) ≡ 8 * index + 7 - step = omega arith in
    let now : 2 * byte + bit ≡ packed bits (8 * index + (8 - (step + 1))) (step + 1) = rw place (omega arith) in
    let two : 0 < 2 = omega arith in
    let high : step + 1 ≤ 8 = omega arith in
    let most : 2 ^ (step + 1) ≤ 2 ^ 8 = pow-le-pow_right two high in
    (now, omega (arith, packed-lt bits (8 * index + (8 - (step + 1))) (step + 1)))

-- ---- the text of a mask

length-head : (kind n : ℕ) → length (kind ∷ to_le_bytes w32 n) ≡ 5
length-head kind n = refl

-- byte 0 is the mask's type
pub mask_text-kind : (kind : ℕ) (bits : List Bool) → get_or (mask_text kind bits) 0 0 ≡ kind
unfolding mask_text
mask_text-kind kind bits = refl

-- bytes 1 to 4 are the number of its bits
pub mask_text-len : (kind place : ℕ) (bits : List Bool) → 1 ≤ place → place ≤ 4
    → get_or (mask_text kind bits) place 0 ≡ get_or (to_le_bytes w32 (length bits)) (place - 1) 0
unfolding mask_text
mask_text-len kind zero bits low high = absurd (omega arith)
mask_text-len kind (suc place) bits low high =
    get_or_append_left (kind ∷ to_le_bytes w32 (length bits)) _ 0 (suc place) (omega arith)
    ∙ ap (λ (k : ℕ). get_or (to_le_bytes w32 (length bits)) k 0) (let e : place ≡ suc place - 1 = omega arith in e)

-- each later byte holds eight bits
pub mask_text-bits : (kind place : ℕ) (bits : List Bool) → 5 ≤ place → place < 4096 * mask_pages (length bits)
    → get_or (mask_text kind bits) place 0 ≡ packed_byte bits (place - 5)
unfolding mask_text
mask_text-bits kind place bits low high =
    get_or-append_right (kind ∷ to_le_bytes w32 (length bits)) _ 5 place 0 (length-head kind (length bits)) low
    ∙ get_or-map-range_with_len (packed_byte bits) 0 (4096 * mask_pages (length bits) - 5) (place - 5) (place - 5) 0
    (omega arith) (omega arith)

-- a text has whole pages
pub length-mask_text : (kind : ℕ) (bits : List Bool) → length (mask_text kind bits) ≡ 4096 * mask_pages (length bits)
unfolding mask_text
length-mask_text kind bits =
    let long =
    length-append (kind ∷ to_le_bytes w32 (length bits))
    (map (packed_byte bits) (range_with_len 0 (4096 * mask_pages (length bits) - 5))) in
    let rest : length
    (map (packed_byte bits) (range_with_len 0 (4096 * mask_pages (length bits) - 5))) ≡ 4096 * mask_pages
    (length bits) - 5 =
    length-map-range_with_len (packed_byte bits) 0 (4096 * mask_pages (length bits) - 5) in
    let head : length (kind ∷ to_le_bytes w32 (length bits)) ≡ 5 = length-head kind (length bits) in
    omega (arith, long)

-- ---- a page of a text

-- a byte of a page is a byte of the text
pub get_or-page_of : (index : ℕ) (text : List ℕ) (k : ℕ) → k < 4096
    → get_or (text_page index text) k 0 ≡ get_or text (4096 * index + k) 0
get_or-page_of index text k h = get_or-take 4096 (drop (4096 * index) text) k 0 h ∙ get_or-drop (4096 * index) text k 0

-- a page of a text has 4096 bytes
pub length-page_of : (index : ℕ) (text : List ℕ) → 4096 * (index + 1) ≤ length text
    → length (text_page index text) ≡ 4096
length-page_of index text h =
    length-take-le 4096 (drop (4096 * index) text) (rw length-drop (omega arith))

-- a page written byte by byte
pub is_page : (kind index : ℕ) (bits : List Bool) (page : List ℕ) → length page ≡ 4096
    → index < mask_pages (length bits)
    → ((k : ℕ) → k < 4096 → get_or page k 0 ≡ get_or (mask_text kind bits) (4096 * index + k) 0)
    → page ≡ text_page index (mask_text kind bits)
is_page kind index bits page long below same =
    ext_get_or 0 _ _ (long ∙ sym (length-page_of index (mask_text kind bits) (rw length-mask_text (omega arith))))
    (λ k h.
    let inside : k < 4096 = omega arith in
    same k inside ∙ sym (get_or-page_of index (mask_text kind bits) k inside))

-- ---- what is written is read again

bit_at-packed : (bits : List Bool) (at n k : ℕ) → k < n → bit_at (packed bits at n) k ≡ bit_value bits (at + k)
unfolding packed
bit_at-packed bits at zero k h = absurd (omega arith)
bit_at-packed bits at (suc n) zero h =
    let low : packed bits at (suc n) % 2 ≡ bit_value bits at = omega (arith, bit_value-le bits at) in
    bit_at_lowest (packed bits at (suc n)) ∙ low ∙ rw add-zero refl
bit_at-packed bits at (suc n) (suc k) h =
    let half : packed bits at (suc n) / 2 ≡ packed bits (at + 1) n = omega (arith, bit_value-le bits at) in
    let place : at + 1 + k ≡ at + suc k = omega arith in
    bit_at-suc (packed bits at (suc n)) k
    ∙ ap (λ (m : ℕ). bit_at m k) half
    ∙ bit_at-packed bits (at + 1) n k (omega arith)
    ∙ ap (bit_value bits) place

bit_value-is : (bits : List Bool) (at : ℕ) → eqb (bit_value bits at) 1 ≡ is_in bits at
bit_value-is bits at = elim (cases_Bool (is_in bits at)) [ inl e ↦ rw e refl | inr e ↦ rw e refl ]

-- a set's text says the set
pub bits_in-mask_text : (kind : ℕ) (bits : List Bool) → bits_in (length bits) (mask_text kind bits) ≡ bits
unfolding packed_byte
bits_in-mask_text kind bits =
    ext_get_or false _ _ (length-bits_in (length bits) (mask_text kind bits))
    (λ k h.
    let inside : k < length bits = subst (λ (n : ℕ). k < n) (length-bits_in (length bits) (mask_text kind bits)) h in
    let byte : get_or (mask_text kind bits) (5 + k / 8) 0 ≡ packed_byte bits (5 + k / 8 - 5) =
    mask_text-bits kind (5 + k / 8) bits (omega arith) (omega arith) in
    let place : 5 + k / 8 - 5 ≡ k / 8 = omega arith in
    let back : 8 * (k / 8) + k % 8 ≡ k = omega arith in
    is_in-bits_in (length bits) (mask_text kind bits) k inside
    ∙ ap (λ (b : ℕ). eqb (bit_at b (k % 8)) 1) (byte ∙ ap (packed_byte bits) place)
    ∙ ap (λ (b : ℕ). eqb b 1) (bit_at-packed bits (8 * (k / 8)) 8 (k % 8) (omega arith) ∙ ap (bit_value bits) back)
    ∙ bit_value-is bits k)

-- the head of the first page
first_page-at : (kind k index : ℕ) (bits : List Bool) → index ≡ 0 → k < 5
    → get_or (text_page index (mask_text kind bits)) k 0 ≡ get_or (mask_text kind bits) k 0
first_page-at kind k index bits e h =
    let place : 4096 * index + k ≡ k = omega arith in
    get_or-page_of index (mask_text kind bits) k (omega arith) ∙ ap (λ (j : ℕ). get_or (mask_text kind bits) j 0) place

first_page-len : (kind index : ℕ) (bits : List Bool) → index ≡ 0
    → take 4 (drop 1 (text_page index (mask_text kind bits))) ≡ to_le_bytes w32 (length bits)
first_page-len kind index bits e =
    let page = text_page index (mask_text kind bits) in
    let page_len : length page ≡ 4096 =
    length-page_of index (mask_text kind bits) (rw length-mask_text (omega arith)) in
    let rest : length (drop 1 page) ≡ length page - 1 = length-drop 1 page in
    let part : length (take 4 (drop 1 page)) ≡ 4 = length-take-le 4 (drop 1 page) (omega arith) in
    ext_get_or 0 _ _ part
    (λ k h.
    let inside : k < 4 = omega arith in
    let back : 1 + k - 1 ≡ k = omega arith in
    get_or-take 4 (drop 1 page) k 0 inside
    ∙ get_or-drop 1 page k 0
    ∙ first_page-at kind (1 + k) index bits e (omega arith)
    ∙ mask_text-len kind (1 + k) bits (omega arith) (omega arith)
    ∙ ap (λ (j : ℕ). get_or (to_le_bytes w32 (length bits)) j 0) back)

no_fault : (kind len : ℕ) (page : List ℕ) → get_or page 0 0 ≡ kind → length_in page ≡ len
    → head_fault kind len page ≡ None
no_fault kind len page first second =
    let same_kind : eqb (get_or page 0 0) kind ≡ true = eq-eqb (get_or page 0 0) kind first in
    let same_len : eqb (length_in page) len ≡ true = eq-eqb (length_in page) len second in
    rw (same_kind, same_len) refl

first_page-fault : (kind index : ℕ) (bits : List Bool) → index ≡ 0 → length bits < 2 ^ 32
    → head_fault kind (length bits) (text_page index (mask_text kind bits)) ≡ None
first_page-fault kind index bits e h =
    no_fault kind (length bits) (text_page index (mask_text kind bits))
    (first_page-at kind 0 index bits e (omega arith) ∙ mask_text-kind kind bits)
    (ap (from_le_bytes w32) (first_page-len kind index bits e) ∙ from_le_bytes-to_le_bytes_4 (length bits) h)

-- a set's text has no fault in its head
pub head_fault-mask_text : (kind : ℕ) (bits : List Bool) → length bits < 2 ^ 32
    → head_fault kind (length bits) (text_page 0 (mask_text kind bits)) ≡ None
head_fault-mask_text kind bits h = first_page-fault kind 0 bits refl h
