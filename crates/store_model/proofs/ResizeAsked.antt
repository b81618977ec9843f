-- What a resize asks for: clusters of zeros for the slots that it adds; and what it means that nothing refuses it.
use Rattle.std.proofs.Common.{◌≡◌, ℕ, ◌-◌, ◌<◌, ◌≤◌, ◌&&◌, Bool, true, false, List, [], ◌∷◌}
use Rattle.std.proofs.Common.{Some, None, arith}
use Rattle.std.specs.Prelude.{if◌then◌else◌, nat_lt}
use Rattle.std.specs.List.{range_with_len}
use Rattle.volume_model.specs.Volumes.{all_slots, Fixed, head_of, is_super, slots_of, Volume}
use Rattle.volume_model.specs.Volumes.{Volumes}
use Rattle.volume_model.specs.Refusals.{has_longer_parent, is_too_large, refusal}
use Rattle.volume_model.specs.declared.command.Command.TheVariants as c
use Rattle.volume_model.specs.declared.command.VolumeRef.{VolumeRef}
use Rattle.volume_model.specs.declared.reply.Reply.TheVariants as r_
use Rattle.store_model.proofs.InARow.{among_range, range_differs}
use Rattle.md_chain.specs.Chain.{is_among}
use Rattle.store_model.specs.Places.{AreDistinct}
use Rattle.shown_volumes.proofs.Passing.{none_holds}

-- the slots that get clusters of zeros: those that are added to a blob that isn't thin
abbrev pub added_zeros : Bool → ℕ → ℕ → List ℕ
added_zeros thin len slots = if thin then [] else range_with_len len (slots - len)

-- no slot is given two
pub zeros_differ : (thin : Bool) (len slots : ℕ) → AreDistinct (added_zeros thin len slots)
zeros_differ true len slots = tt
zeros_differ false len slots = range_differs len (slots - len)

-- they lie behind the slots that were there
pub zeros_lie : (thin : Bool) (len slots i : ℕ) → is_among i (added_zeros thin len slots) ≡ true
    → (len ≤ i) × (i < slots)
zeros_lie true len slots i among = absurd (cc among)
zeros_lie false len slots i among =
    let x = among_range len (slots - len) i among in
    let le = x.0 in
    let lt = x.1 in
    (le, omega (arith, le, lt))

-- ---- a resize that nothing refuses

-- what the refusals that don't hold say of the volume
pub record CanResize (f : Fixed) (v : Volumes) (slots : ℕ) (x : Volume) : Type 0 where
  pub writable : x.read_only ≡ false
  pub short : (nat_lt (slots_of f x) slots && has_longer_parent f v x (slots_of f x)) ≡ false
  pub large : is_too_large f v slots (all_slots f v - slots_of f x) ≡ false

-- nothing refuses the command
pub can_resize : (f : Fixed) (v : Volumes) (volume : VolumeRef) (slots head : ℕ) (x : Volume)
    → head_of f v volume ≡ Some head → v head ≡ Some x → refusal f v (c.Resize volume slots) ≡ None
    → CanResize f v slots x
can_resize f v volume slots head x found there asked =
    let none = none_holds
    ((is_super f head, r_.Reserved) ∷ (x.read_only, r_.ReadOnly)
    ∷ (nat_lt (slots_of f x) slots && has_longer_parent f v x (slots_of f x), r_.Short)
    ∷ (is_too_large f v slots (all_slots f v - slots_of f x), r_.TooLarge) ∷ []) (rw (found, there) at asked) in
    record { writable = none.1.0; short = none.1.1.0; large = none.1.1.1.0 }
