-- The inserts of a run: of two into one slot the later is under a greater generation.
use Rattle.std.proofs.Common.{◌≡◌, ◌<◌, ◌≤◌, ℕ, zero, suc, Bool, List, [], ◌∷◌, Option, Some, None, refl, sym, ◌∙◌}
use Rattle.std.proofs.Common.{subst, inl, inr, arith}
use Rattle.std.specs.Prelude.{slice_get}
use Rattle.std.specs.Option.{option_map_or}
use Rattle.std.proofs.lemmas.Bool.{cases_lt}
use Rattle.super_block.specs.declared.page.Super.{Super}
use Rattle.super_block.specs.Placed.{IsPlaced}
use Rattle.volume_model.specs.Volumes.{Volumes}
use Rattle.volume_model.specs.declared.command.Command.{Command}
use Rattle.store_model.specs.Cases.{Kind, Run, Turn}
use Rattle.store_model.specs.Cases as k
use Rattle.store_model.specs.Copying.{IsWanted}
use Rattle.store_model.specs.Rows.{OpenClaim}
use Rattle.store_model.specs.RunInvariant.{RunInvariant}
use Rattle.store_model.specs.StoreState.{StoreState}
use Rattle.store_model.proofs.Known.{Known}
use Rattle.insert_runs.specs.InsertRuns.{AreOncePerGeneration, claim_put, claims_put, IsOfSameSlot, RiseInSlots}
use Rattle.insert_runs.proofs.PutInSlots as put
use Rattle.insert_runs.proofs.Wanted.{WantsNoMore}
use Rattle.insert_runs.proofs.WantedTurns.{wants_no_more}

-- ---- claims of one slot

-- A slot was filled under a claim: whatever claim of it is wanted now is under a greater generation.
record IsFilledSince (claim : OpenClaim) (p : StoreState) : Type 0 where
  drawn : claim.generation ≤ p.drawn
  later : (other : OpenClaim) → IsOfSameSlot claim other → IsWanted p other → claim.generation < other.generation

filled_still : (claim : OpenClaim) (p q : StoreState) → WantsNoMore p q → IsFilledSince claim p → IsFilledSince claim q
filled_still claim p q turn filled = record {
  drawn = let low = filled.drawn in let more = turn.drawn in omega (arith, low, more);
  later = λ other same wanted. elim (cases_lt p.drawn other.generation) [
    | inl new ↦ let low = filled.drawn in omega (arith, low, new)
    | inr old ↦ filled.later other same (turn.wanted other old wanted)
  ];
}

-- each claim of the list that is of the slot is under a greater generation
abbrev AllLater : OpenClaim → List OpenClaim → Type 0
AllLater claim list = (i : ℕ) (other : OpenClaim) → slice_get list i ≡ Some other → IsOfSameSlot claim other
    → claim.generation < other.generation

later_more : (claim c : OpenClaim) (list : List OpenClaim) → (IsOfSameSlot claim c → claim.generation < c.generation)
    → AllLater claim list → AllLater claim (c ∷ list)
later_more claim c list first all zero other is same =
    let e : c ≡ other = cc is in
    subst (λ (x : OpenClaim). IsOfSameSlot claim x → claim.generation < x.generation) e first same
later_more claim c list first all (suc i) other is same = all i other is same

rise_more : (c : OpenClaim) (list : List OpenClaim) → AllLater c list → RiseInSlots list → RiseInSlots (c ∷ list)
rise_more c list all rise zero zero claim other lt is too same = absurd (omega (arith, lt))
rise_more c list all rise zero (suc k) claim other lt is too same =
    let e : c ≡ claim = cc is in
    subst (λ (x : OpenClaim). IsOfSameSlot x other → x.generation < other.generation) e (all k other too) same
rise_more c list all rise (suc i) zero claim other lt is too same = absurd (omega (arith, lt))
rise_more c list all rise (suc i) (suc k) claim other lt is too same =
    rise i k claim other (omega (arith, lt)) is too same

pub once : (list : List OpenClaim) → RiseInSlots list → AreOncePerGeneration list
once list rise i k claim other is too same one = elim (cases_lt i k) [
  | inl lt ↦ let less = rise i k claim other lt is too same in absurd (omega (arith, less, one))
  | inr ge ↦ elim (cases_lt k i) [
    | inl gt ↦
        let less = rise k i other claim gt too is (record { head = sym same.head; slot = sym same.slot }) in
        absurd (omega (arith, less, one))
    | inr le ↦ omega (arith, ge, le)
  ]
]

-- ---- runs

-- What is known of a claim whose cluster a turn puts into its slot: it was wanted, and none of that slot is then.
record IsPut (p q : StoreState) (claim : OpenClaim) : Type 0 where
  wanted : IsWanted p claim
  since : IsFilledSince claim q

module _ (told : Bool) (s : Super) (first : Volumes) (script : ℕ → List Command) (placed : IsPlaced s)
    (keep : (p q : StoreState) (of : Kind) → RunInvariant s first script p → Turn told p of q
    → RunInvariant s first script q) where
  abbrev at : (p : StoreState) → RunInvariant s first script p → Known
  at p facts = record { s = s; placed = placed; first = first; script = script; p = p; facts = facts }

  is_put : (of : Kind) (p q : StoreState) → RunInvariant s first script p → (t : Turn told p of q) → (claim : OpenClaim)
      → claim_put told of p q t ≡ Some claim → IsPut p q claim
  is_put k.inserts p q facts t claim is =
      let known = at p facts in
      let same : put.claim known told q t ≡ claim = let both = sym (put.held known told q t) ∙ is in cc both in
      subst (IsPut p q) same (record {
        wanted = put.wanted known told q t;
        since = record {
          drawn = let low = put.drawn known told q t in
              let more = (put.inserts_want known told q t).drawn in omega (arith, low, more);
          later = λ other alike wanted. absurd (put.unwanted known told q t other alike wanted);
        };
      })
  is_put _ p q facts t claim is = absurd (cc is)

  module _ (of : Kind) (p mid : StoreState) (facts : RunInvariant s first script p) (turn : Turn told p of mid)
      (list : List OpenClaim) where
    abbrev grown : Option OpenClaim → List OpenClaim
    grown o = option_map_or (λ claim. claim ∷ list) o list

    later_by : (claim : OpenClaim) → IsFilledSince claim p → AllLater claim list → (o : Option OpenClaim)
        → claim_put told of p mid turn ≡ o → AllLater claim (grown o)
    later_by claim filled all None is = all
    later_by claim filled all (Some c) is = later_more claim c list
        (λ same. filled.later c same (is_put of p mid facts turn c is).wanted) all

    rise_by : ((claim : OpenClaim) → IsFilledSince claim mid → AllLater claim list) → RiseInSlots list
        → (o : Option OpenClaim) → claim_put told of p mid turn ≡ o → RiseInSlots (grown o)
    rise_by all rise None is = rise
    rise_by all rise (Some c) is = rise_more c list (all c (is_put of p mid facts turn c is).since) rise

  all_later : (claim : OpenClaim) (kinds : List Kind) (p q : StoreState) → RunInvariant s first script p
      → IsFilledSince claim p → (run : Run told p kinds q) → AllLater claim (claims_put told kinds p q run)
  all_later claim [] p q facts filled run = λ i other is same. absurd (cc is)
  all_later claim (of ∷ kinds) p q facts filled run =
      later_by of p run.0 facts run.1 (claims_put told kinds run.0 q run.2) claim filled
      (all_later claim kinds run.0 q (keep p run.0 of facts run.1)
      (filled_still claim p run.0 (wants_no_more (at p facts) told run.0 of run.1) filled) run.2)
      (claim_put told of p run.0 run.1) refl

  pub rises : (kinds : List Kind) (p q : StoreState) → RunInvariant s first script p → (run : Run told p kinds q)
      → RiseInSlots (claims_put told kinds p q run)
  rises [] p q facts run = λ earlier later claim other lt is too same. absurd (cc is)
  rises (of ∷ kinds) p q facts run =
      let now = keep p run.0 of facts run.1 in
      rise_by of p run.0 facts run.1 (claims_put told kinds run.0 q run.2)
      (λ claim filled. all_later claim kinds run.0 q now filled run.2) (rises kinds run.0 q now run.2)
      (claim_put told of p run.0 run.1) refl
