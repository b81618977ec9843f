-- Heads and the bytes of INFO.
use Rattle.std.proofs.Common.{◌≡◌, ◌≢◌, ℕ, ◌+◌, ◌^◌, ◌<◌, List, ◌++◌, length, take, refl, sym, ap}
use Rattle.std.proofs.Common.{◌∙◌, arith, append_assoc, length-append}
use Rattle.std.proofs.Common.{◌≤◌, Bool, true, false}
use Rattle.std.proofs.lemmas.List.{take_at, take_all}
use Rattle.nbd_words.specs.Numbers.{number_bytes}
use Rattle.nbd_words.specs.declared.options.ClientFlags.{ClientFlags}
use Rattle.nbd_words.specs.Options.{IsInfoRequest, client_flags_number, client_flags_bytes}
use Rattle.nbd_words.proofs.NumberLaws.{length-number, one_number, same_text}

-- bytes that begin with another number don't begin with this one
pub other_number : (n x y : ℕ) (front : List ℕ) → x < 256 ^ n → y < 256 ^ n → front ≡ number_bytes n x → x ≢ y
    → front ≡ number_bytes n y → ⊥
other_number n x y front lx ly is ne is' = ne (one_number n x y lx ly (sym is ∙ is'))

-- a client's flags are below 4
client_flags_few : (fixed no_zeroes : Bool) → client_flags_number (record { fixed = fixed; no_zeroes = no_zeroes }) < 4
client_flags_few true true = omega arith
client_flags_few true false = omega arith
client_flags_few false true = omega arith
client_flags_few false false = omega arith

-- the number of four bytes is written by them
pub four_bytes : (bytes : List ℕ) (n k : ℕ) → length bytes ≡ 4 → take 4 bytes ≡ number_bytes 4 n → n ≡ k
    → bytes ≡ number_bytes 4 k
four_bytes bytes n k long is e = sym (take_all 4 bytes (omega arith)) ∙ is ∙ ap (number_bytes 4) e

-- a number from 4 on is no client's flags
pub no_flags : (bytes : List ℕ) (n : ℕ) → length bytes ≡ 4 → n < 2 ^ 32 → take 4 bytes ≡ number_bytes 4 n → 4 ≤ n
    → (flags : ClientFlags) → bytes ≡ client_flags_bytes flags → ⊥
no_flags bytes n long lt is large flags e =
    let few : client_flags_number flags < 4 = client_flags_few flags.fixed flags.no_zeroes in
    let same : n ≡ client_flags_number flags =
    one_number 4 n (client_flags_number flags) lt (omega arith)
    (sym is ∙ take_all 4 bytes (omega arith) ∙ e) in
    absurd (omega arith)

-- how long the bytes of INFO are
pub info_length : (bytes name infos : List ℕ) (q : IsInfoRequest bytes name infos)
    → length bytes ≡ 6 + length name + length infos
info_length bytes name infos q =
    ap length q.whole
    ∙ simp (length-append, length-number) (omega arith)

-- the name's length stands in front
pub info_name : (bytes name infos : List ℕ) (k : ℕ) (q : IsInfoRequest bytes name infos) → k < 2 ^ 32
    → take 4 bytes ≡ number_bytes 4 k → k ≡ length name
info_name bytes name infos k q lt is =
    let grouped : bytes ≡ number_bytes 4 (length name) ++ (name ++ (number_bytes 2 q.count ++ infos)) =
    q.whole ∙ simp append_assoc in
    let front : take 4 bytes ≡ number_bytes 4 (length name) =
    ap (take 4) grouped
    ∙ take_at (number_bytes 4 (length name)) (name ++ (number_bytes 2 q.count ++ infos)) 4 (length-number 4 _) in
    one_number 4 k (length name) lt q.name_fits (sym is ∙ front)

-- the count stands behind the name
pub info_count : (bytes name infos : List ℕ) (k c : ℕ) (q : IsInfoRequest bytes name infos) → k ≡ length name
    → c < 2 ^ 16 → take (4 + k + 2) bytes ≡ take (4 + k) bytes ++ number_bytes 2 c → c ≡ q.count
info_count bytes name infos k c q k_is lt is =
    let front = number_bytes 4 (length name) ++ name in
    let long : length front ≡ 4 + k =
    length-append (number_bytes 4 (length name)) name ∙ omega (arith, length-number 4 (length name)) in
    let longer : length (front ++ number_bytes 2 q.count) ≡ 4 + k + 2 =
    length-append front (number_bytes 2 q.count) ∙ omega (arith, long, length-number 2 q.count) in
    let a : take (4 + k) bytes ≡ front =
    ap (take (4 + k)) (q.whole ∙ append_assoc front (number_bytes 2 q.count) infos)
    ∙ take_at front (number_bytes 2 q.count ++ infos) (4 + k) long in
    let b : take (4 + k + 2) bytes ≡ front ++ number_bytes 2 q.count =
    ap (take (4 + k + 2)) q.whole ∙ take_at (front ++ number_bytes 2 q.count) infos (4 + k + 2) longer in
    let both : front ++ number_bytes 2 c ≡ front ++ number_bytes 2 q.count =
    ap (λ (xs : List ℕ). xs ++ number_bytes 2 c) (sym a) ∙ sym is ∙ b in
    one_number 2 c q.count lt q.count_fits (same_text front front _ _ refl both).1
