-- A name passes the test of names.
use Rattle.std.proofs.Common.{◌≡◌, ℕ, true, false, ◌&&◌, List, [], ◌∷◌, length, Some, refl, ap, arith}
use Rattle.std.specs.Prelude.{nat_le, ◌==◌}
use Rattle.std.proofs.lemmas.Bool.Decides.{nat_tests}
use Rattle.std.proofs.lemmas.List.Sums.{list_all-from_AllPass}
use Rattle.volume_model.specs.Names.{IsName, IsGraphic}
use Rattle.lvol_store.specs.Names.{is_graphic, begins_no_name, is_name}

byte_seen : (b : ℕ) → IsGraphic b → (nat_le 33 b && nat_le b 126) ≡ true
byte_seen b g = grind (arith, nat_tests)

seen : (text : List ℕ) → IsName text → is_graphic text ≡ true
seen text n = list_all-from_AllPass (λ b. nat_le 33 b && nat_le b 126) text (λ k d lt. byte_seen _ (n.graphic k d lt))

another : (a b : ℕ) → (Some a ≡ Some b → ⊥) → (a == b) ≡ false
another a b differ = let apart : a ≡ b → ⊥ = λ e. differ (ap Some e) in grind (arith, nat_tests)

begins : (text : List ℕ) → IsName text → begins_no_name text ≡ false
begins [] n = absurd (let some = n.some in omega arith)
begins (x ∷ xs) n =
    let at = another x 64 n.no_head in
    let hash = another x 35 n.no_comment in
    let long : (length (x ∷ xs) == 0) ≡ false = grind (arith, nat_tests) in
    rw (long, at, hash) refl

-- the test of names holds of every name
pub is_name-from_IsName : (text : List ℕ) → IsName text → is_name text ≡ true
is_name-from_IsName text n =
    let short : nat_le (length text) 63 ≡ true = let most = n.most in grind (arith, nat_tests) in
    rw (begins text n, short, seen text n) refl
