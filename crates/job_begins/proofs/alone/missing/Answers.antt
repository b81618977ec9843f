use Rattle.std.proofs.Common.{◌≡◌, ◌+◌, ◌<◌, ℕ, Bool, List, Option, None, true, false, length, sym, ◌∙◌, subst}
use Rattle.std.proofs.Common.{arith, get_or, Some}
use Rattle.std.specs.Prelude.{slice_set}
use Rattle.bit_array.specs.Bits.{is_in}
use Rattle.blob_meta.specs.Faults.{clusters_held}
use Rattle.md_chain.specs.Chain.{is_among}
use Rattle.job_begins.proofs.ClustersAlone.{one_of}
use Rattle.job_begins.proofs.MissingFound.{finds_had, finds_none, finds_one, Finds}
use Rattle.job_begins.proofs.alone.missing.Goals as goal
use Rattle.job_begins.proofs.alone.missing.Goals.{in-Some+then-not-get+in_ok-push, in-Some+else-not-get, in_default}

-- a slot's cluster is below the length of the set
below : (slots map : List (Option ℕ)) (i cluster len now : ℕ)
    → ((c : ℕ) → is_among c (clusters_held map) ≡ true → c < len) → slots ≡ map → i < length slots
    → get_or slots i None ≡ Some cluster → now ≡ len → cluster < now
below slots map i cluster len now all same low is count =
    let less = all cluster (subst (λ (l : List (Option ℕ)). is_among cluster (clusters_held l) ≡ true) same
    (one_of slots i cluster None low is)) in
    omega (arith, less, count)

pub get-requires : goal.get-requires
get-requires c = below c.as_slice-slot-items.result.now c.args.map.now c.loop-slot.slot-index c.in-Some.cluster
    (length c.args.clusters.now) (length c.loop-slot.clusters) c.requires c.as_slice-slot-items.ensures.slots
    c.loop-slot-test.true c.in-Some.is c.loop-slot.invariant.count

pub set-requires : goal.set-requires
set-requires c = below c.as_slice-slot-items.result.now c.args.map.now c.loop-slot.slot-index c.in-Some.cluster
    (length c.args.clusters.now) (length c.loop-slot.clusters) c.requires c.as_slice-slot-items.ensures.slots
    c.loop-slot-test.true c.in-Some.is c.loop-slot.invariant.count

pub loop-slot-preserved : goal.loop-slot-preserved
loop-slot-preserved c =
    let old = c.args.clusters.now in
    let now = c.loop-slot.clusters in
    let places = c.loop-slot.places.items in
    let slots = c.as_slice-slot-items.result.now in
    let i = c.loop-slot.slot-index in
    let low = c.loop-slot-test.true in
    let v = c.loop-slot.invariant in
    elim c.match-slot.branch [
      | in-Some+then-not-get+in_ok-push w ↦
          let k = w.in-Some.cluster in
          let clear : is_in now k ≡ false = sym w.get.ensures ∙ w.if-not-get.true in
          let less = below slots c.args.map.now i k (length old) (length now) c.requires
          c.as_slice-slot-items.ensures.slots low w.in-Some.is v.count in
          let found = finds_one old slots i None now places low v k w.in-Some.is clear less in
          rw (w.clusters-is, w.places-is)
          (subst (λ (bits : List Bool). Finds old slots (i + 1) bits w.push.new.self.items) (sym w.set.ensures)
          (subst (Finds old slots (i + 1) (slice_set now k true)) (sym w.in_ok-push.ensures.items) found))
      | in-Some+else-not-get w ↦
          let set : is_in now w.in-Some.cluster ≡ true = sym w.get.ensures ∙ w.if-not-get.false in
          rw (w.clusters-is, w.places-is)
          (finds_had old slots i None now places low v w.in-Some.cluster w.in-Some.is set)
      | in_default w ↦ rw (w.clusters-is, w.places-is)
          (finds_none old slots i None now places low v w.in_default.is)
    ]
