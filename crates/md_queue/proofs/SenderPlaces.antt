-- Senders of the channels from one on, and the places that they stand in.
use Rattle.std.proofs.Common.{◌≡◌, ℕ, zero, suc, ◌+◌, ◌<◌, ◌≤◌, List, [], ◌∷◌, ◌++◌, length, All, Some, None, Option, refl}
use Rattle.std.proofs.Common.{sym, ap, ◌∙◌, subst, arith, IfSome, IfNone, length-append}
use Rattle.std.specs.Prelude.{slice_index_or, remove}
use Rattle.std.proofs.lemmas.List.Elements.{All-append}
use Rattle.atomic_table.specs.Seated.{TableId}
use Rattle.md_queue.specs.QueueEnds.{Sender, senders_in, AreOf}

-- ---- places

senders_in-push : (places : List (Option Sender)) (s : Sender)
    → senders_in (places ++ Some s ∷ []) ≡ senders_in places ++ s ∷ []
senders_in-push [] s = refl
senders_in-push (None ∷ places) s = senders_in-push places s
senders_in-push (Some first ∷ places) s = ap (λ l. first ∷ l) (senders_in-push places s)

few_senders : (places : List (Option Sender)) → length (senders_in places) ≤ length places
few_senders [] = omega arith
few_senders (None ∷ places) = let rest = few_senders places in omega arith
few_senders (Some first ∷ places) = let rest = few_senders places in omega arith

abbrev pub AreFull : List (Option Sender) → Type 0
AreFull places = length (senders_in places) ≡ length places

-- a sender comes into a place behind full ones
pub full-push : (places after : List (Option Sender)) (s : Sender) → AreFull places → after ≡ places ++ Some s ∷ []
    → AreFull after × (senders_in after ≡ senders_in places ++ s ∷ [])
full-push places after s full is =
    subst (λ (l : List (Option Sender)). AreFull l × (senders_in l ≡ senders_in places ++ s ∷ [])) (sym is) (
      ap length (senders_in-push places s)
          ∙ omega (arith, length-append (senders_in places) (s ∷ []), length-append places (Some s ∷ [])),
      senders_in-push places s,
    )

-- the first place's sender, or that there is none, and the places after it
abbrev pub IsFirst : List Sender → Option Sender → List (Option Sender) → Type 0
IsFirst all first rest =
    AreFull rest × IfSome first (λ s. all ≡ s ∷ senders_in rest)
    × IfNone first ((all ≡ []) × (senders_in rest ≡ []))

-- of full places the first is taken out
pub full-first : (places rest : List (Option Sender)) (first : Option Sender) → 0 < length places
    → first ≡ slice_index_or places 0 first → rest ≡ remove places 0 → AreFull places
    → IsFirst (senders_in places) first rest
full-first [] rest first some is others full = absurd (omega arith)
full-first (None ∷ places) rest first some is others full =
    let few = few_senders places in absurd (omega arith)
full-first (Some s ∷ places) rest first some is others full =
    subst (λ (p : Option Sender × List (Option Sender)). IsFirst (s ∷ senders_in places) p.0 p.1)
    (λ i. (sym is i, sym others i)) (omega arith, refl, tt)

-- ---- senders of a line

-- the sender of the next channel comes behind the others
pub are-push : (line : TableId) (from : ℕ) (ss : List Sender) (s : Sender) → AreOf line from ss → s.line ≡ line
    → s.channel ≡ from + length ss → AreOf line from (ss ++ s ∷ [])
are-push line from [] s are own at = (own, omega arith, tt)
are-push line from (first ∷ ss) s are own at =
    (are.0, are.1, are-push line (from + 1) ss s are.2 own (omega arith))

-- the first of the senders, and the others
pub first-of : (line : TableId) (from : ℕ) (ss rest : List Sender) (s : Sender) → AreOf line from ss
    → ss ≡ s ∷ rest → (s.line ≡ line) × (s.channel ≡ from) × AreOf line (from + 1) rest
first-of line from ss rest s are is = subst (AreOf line from) is are

-- a sender that was made comes behind those made before, by the same line under whatever name
pub are-behind : (line was : TableId) (ss after : List Sender) (s : Sender) (count : ℕ) → AreOf was 0 ss
    → line ≡ was → s.line ≡ line → length ss ≡ count → s.channel ≡ count → after ≡ ss ++ s ∷ []
    → AreOf line 0 after
are-behind line was ss after s count are same own size at is =
    subst (AreOf line 0) (sym is)
    (are-push line 0 ss s (subst (λ (t : TableId). AreOf t 0 ss) (sym same) are) own (omega arith))

-- a sender that has sent nothing comes behind others that haven't
pub unsent-behind : (ss after : List Sender) (s : Sender) → All (λ (x : Sender). x.sent ≡ []) ss → s.sent ≡ []
    → after ≡ ss ++ s ∷ [] → All (λ (x : Sender). x.sent ≡ []) after
unsent-behind ss after s all none is =
    subst (All (λ (x : Sender). x.sent ≡ [])) (sym is)
    (All-append (λ (x : Sender). x.sent ≡ []) ss (s ∷ []) all one)
  where
    one : All (λ (x : Sender). x.sent ≡ []) (s ∷ [])
    one zero d low = none
    one (suc k) d low = absurd (omega arith)
