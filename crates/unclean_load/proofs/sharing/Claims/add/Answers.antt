use Rattle.std.proofs.Common.{◌≡◌, ◌+◌, ◌<◌, ◌≤◌, ℕ, List, Option, None, length, take, sym, subst, ap, ◌∙◌, arith}
use Rattle.std.proofs.lemmas.List.{take_all}
use Rattle.unclean_load.specs.Sharing.{copies_in, AreInside}
use Rattle.unclean_load.proofs.Counts.{adds_one, adds_same, some_copy, counted_same}
use Rattle.unclean_load.proofs.sharing.Claims.add.Goals as goal
use Rattle.unclean_load.proofs.sharing.Claims.add.Goals.{in-Some, in_default}

pub claim-requires : goal.claim-requires
claim-requires c =
    let some =
    some_copy c.in-Some.cluster c.as_slice-slot-items.result.now c.loop-slot.slot-index None c.loop-slot-test.true
    c.in-Some.is in
    let low =
    c.requires c.in-Some.cluster
    (subst (λ (slots : List (Option ℕ)). 0 < copies_in c.in-Some.cluster slots) c.as_slice-slot-items.ensures.slots
    some) in
    let count = c.loop-slot.invariant.0 in
    omega (arith, low, count)

pub loop-slot-preserved : goal.loop-slot-preserved
loop-slot-preserved c =
    let old = c.args.self.now in
    let now = c.loop-slot.self in
    let slots = c.as_slice-slot-items.result.now in
    let i = c.loop-slot.slot-index in
    let v = c.loop-slot.invariant in
    elim c.match-slot.branch [
      | in-Some w ↦
          let new = w.claim.new.self in
          rw w.self-is (
            w.claim.ensures.count
                ∙ v.0,
            adds_one old.clusters now.clusters old.twice now.twice slots i None w.in-Some.cluster new.clusters new.twice
                c.loop-slot-test.true w.in-Some.is w.claim.ensures.claimed v.1,
          )
      | in_default w ↦
          rw w.self-is (
            v.0,
            adds_same old.clusters now.clusters old.twice now.twice slots i None c.loop-slot-test.true w.in_default.is
                v.1,
          )
    ]

all_of : (slots map : List (Option ℕ)) (i : ℕ) → slots ≡ map → length slots ≤ i → take i slots ≡ map
all_of slots map i same le = take_all i slots le ∙ same

pub returns-clause-claimed : goal.returns-clause-claimed
returns-clause-claimed c =
    let old = c.args.self.now in
    let now = c.loop-slot.self in
    let slots = c.as_slice-slot-items.result.now in
    let same = c.as_slice-slot-items.ensures.slots in
    λ fixed count inside x.
    counted_same fixed _ _ now.clusters now.twice
    (λ k. ap (λ (l : List (Option ℕ)). count k + copies_in k l)
    (all_of slots c.args.map.now c.loop-slot.slot-index same c.loop-slot-test.false))
    (c.loop-slot.invariant.1 fixed count
    (subst (λ (l : List (Option ℕ)). AreInside fixed (length old.clusters) l) (sym same) inside) x)
