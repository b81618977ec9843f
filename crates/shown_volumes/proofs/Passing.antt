-- What is known where no cause of a refusal holds.
use Rattle.std.proofs.Common.{◌≡◌, ℕ, ◌+◌, ◌≤◌, ◌^◌, Bool, true, false, not, ◌||◌, Option, Some, None, List, [], ◌∷◌}
use Rattle.std.proofs.Common.{length, refl, sym, ap, ◌∙◌, arith}
use Rattle.std.specs.Prelude.{find, is_none, nat_le}
use Rattle.std.specs.List.{AllByRecursion}
use Rattle.std.specs.Option.{option_map, option_map_or}
use Rattle.std.proofs.lemmas.Bool.Decides.{nat_tests}
use Rattle.volume_model.specs.Refusals.{Causes, is_short_between, is_taken, is_too_large, only_clone, refusal}
use Rattle.volume_model.specs.Volumes.{all_slots, clones, Fixed, head_of, is_super, slots_of, Volume}
use Rattle.volume_model.specs.Volumes.{Volumes}
use Rattle.volume_model.specs.Xattrs.{Text}
use Rattle.volume_model.specs.declared.command.Command.TheVariants as c
use Rattle.volume_model.specs.declared.command.VolumeRef.{VolumeRef}
use Rattle.volume_model.specs.declared.reply.Reply.{Reply}
use Rattle.volume_model.specs.declared.reply.Reply.TheVariants as r

-- none of the causes holds
pub none_holds : (causes : Causes)
    → option_map (λ (cause : Bool × Reply). cause.1) (find (λ (cause : Bool × Reply). cause.0) causes) ≡ None
    → AllByRecursion (λ (cause : Bool × Reply). cause.0 ≡ false) causes
none_holds [] none = tt
none_holds ((true, reply) ∷ causes) none = absurd (cc none)
none_holds ((false, reply) ∷ causes) none = (refl, none_holds causes none)

turned : (b : Bool) → not b ≡ false → b ≡ true
turned true is = refl
turned false is = absurd (cc is)

module _ (f : Fixed) (v : Volumes) (volume : VolumeRef) (name : Text) (head : ℕ) (x : Volume)
    (found : head_of f v volume ≡ Some head) (there : v head ≡ Some x) where
  -- one volume more that is as long
  abbrev pub HasRoom : Type 0
  HasRoom = all_slots f v + slots_of f x ≤ 2 ^ 24

  room : is_too_large f v (slots_of f x) (all_slots f v) ≡ false → HasRoom
  room large = grind (arith, nat_tests, large)

  -- a snapshot has room
  pub snapshot_room : refusal f v (c.Snapshot volume name) ≡ None → HasRoom
  snapshot_room passed = room (none_holds ((is_super f head, r.Reserved) ∷ (x.read_only, r.ReadOnly)
      ∷ (is_taken f v name, r.NameTaken) ∷ (is_too_large f v (slots_of f x) (all_slots f v), r.TooLarge) ∷ [])
      (rw (found, there) at passed)).1.1.1.0

  abbrev Clonable : Causes
  Clonable = (not x.read_only, r.NotReadOnly) ∷ (is_taken f v name, r.NameTaken)
      ∷ (is_too_large f v (slots_of f x) (all_slots f v), r.TooLarge) ∷ []

  -- so has a clone, of a volume that is read-only
  pub clone_room : refusal f v (c.Clone volume name) ≡ None → HasRoom
  clone_room passed = room (none_holds Clonable (rw (found, there) at passed)).1.1.0

  pub clone_read_only : refusal f v (c.Clone volume name) ≡ None → x.read_only ≡ true
  clone_read_only passed = turned x.read_only (none_holds Clonable (rw (found, there) at passed)).0

left : (a b : Bool) → (a || b) ≡ false → a ≡ false
left true b is = is
left false b is = refl

module _ (f : Fixed) (v : Volumes) (volume : VolumeRef) (head : ℕ) (x : Volume)
    (found : head_of f v volume ≡ Some head) (there : v head ≡ Some x)
    (passed : refusal f v (c.Delete volume) ≡ None) where
  abbrev Deletable : List ℕ → Causes
  Deletable hs = (is_super f head, r.Reserved) ∷ (x.locked || only_clone f v (λ y. y.locked) hs, r.ReadOnly)
      ∷ (nat_le 2 (length hs), r.Busy (length hs)) ∷ (only_clone f v (is_short_between f v x) hs, r.Short) ∷ []

  deletable : AllByRecursion (λ (cause : Bool × Reply). cause.0 ≡ false) (Deletable (clones f v head))
  deletable = none_holds (Deletable (clones f v head)) (rw (found, there) at passed)

  -- what is deleted isn't locked
  pub delete_unlocked : x.locked ≡ false
  delete_unlocked = left x.locked (only_clone f v (λ y. y.locked) (clones f v head)) deletable.1.0

  -- nor would its one clone read its parent where it read zeros
  pub delete_long : (clone : ℕ) (y : Volume) → clones f v head ≡ clone ∷ [] → v clone ≡ Some y
      → is_short_between f v x y ≡ false
  delete_long clone y one is =
      sym (ap (λ o. option_map_or (is_short_between f v x) o false) is)
      ∙ sym (ap (λ hs. only_clone f v (is_short_between f v x) hs) one) ∙ deletable.1.1.1.0

module _ (f : Fixed) (v : Volumes) (volume : VolumeRef) (head : ℕ) (x : Volume)
    (found : head_of f v volume ≡ Some head) (there : v head ≡ Some x)
    (passed : refusal f v (c.Decouple volume) ≡ None) where
  -- its parent has fewer slots than the volume and than its own parent
  abbrev is_short_above : Option ℕ → Bool
  is_short_above o = option_map_or (λ p. option_map_or (λ y. is_short_between f v y x) (v p) false) o false

  decouplable : AllByRecursion (λ (cause : Bool × Reply). cause.0 ≡ false)
      ((is_super f head, r.Reserved) ∷ (x.read_only, r.ReadOnly) ∷ (is_none x.parent, r.NoParent)
      ∷ (is_short_above x.parent, r.Short) ∷ [])
  decouplable = none_holds ((is_super f head, r.Reserved) ∷ (x.read_only, r.ReadOnly) ∷ (is_none x.parent, r.NoParent)
      ∷ (is_short_above x.parent, r.Short) ∷ []) (rw (found, there) at passed)

  -- what is decoupled has a parent
  pub decouple_parent : is_none x.parent ≡ false
  decouple_parent = decouplable.1.1.0

  -- and wouldn't read the parent of that where it read zeros
  pub decouple_long : (p : ℕ) (y : Volume) → x.parent ≡ Some p → v p ≡ Some y → is_short_between f v y x ≡ false
  decouple_long p y parent is =
      sym (ap (λ o. option_map_or (λ z. is_short_between f v z x) o false) is)
      ∙ sym (ap is_short_above parent) ∙ decouplable.1.1.1.0
