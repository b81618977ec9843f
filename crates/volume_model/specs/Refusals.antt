-- Why a command is refused.
use Rattle.std.specs.Prelude.{ℕ, ◌+◌, ◌-◌, ◌^◌, nat_lt, nat_le, Option, Some, None, Bool, true, false, ◌&&◌, ◌||◌, not}
use Rattle.std.specs.Prelude.{is_some, is_none, List, [], ◌∷◌, length}
use Rattle.std.specs.List.{find}
use Rattle.std.specs.Option.{option_map, option_map_or}
use Rattle.std.specs.Str.{bytes_eq}
use Rattle.volume_model.specs.Xattrs.{Text, value_of, name_key, uuid_key}
use Rattle.volume_model.specs.Volumes.{Volume, Volumes, Fixed, is_super, slots_of, slots_at, all_slots, head_named}
use Rattle.volume_model.specs.Volumes.{head_of, clones}
use Rattle.volume_model.specs.declared.command.VolumeRef.{VolumeRef}
use Rattle.volume_model.specs.declared.command.Command.{Command}
use Rattle.volume_model.specs.declared.command.Command.TheVariants as c
use Rattle.volume_model.specs.declared.reply.Reply.{Reply}
use Rattle.volume_model.specs.declared.reply.Reply.TheVariants as r

-- a cause, whether it holds, and the reply that it gives
abbrev pub Causes : Type 0
Causes = List (Bool × Reply)

-- `name` and `uuid` are set by no attribute command
abbrev pub is_reserved : Text → Bool
is_reserved key = bytes_eq key name_key || bytes_eq key uuid_key

module _ (f : Fixed) (v : Volumes) where
  -- a live volume other than the super blob has the name; the volume that is renamed counts too
  abbrev pub is_taken : Text → Bool
  is_taken name = is_some (head_named f v name)

  -- more than 2^20 slots, or more than 2^24 with the others
  abbrev pub is_too_large : ℕ → ℕ → Bool
  is_too_large slots others = nat_lt (2 ^ 20) slots || nat_lt (2 ^ 24) (others + slots)

  -- the parent has more slots than these
  abbrev pub has_longer_parent : Volume → ℕ → Bool
  has_longer_parent x slots = option_map_or (λ p. nat_lt slots (slots_at f v p)) x.parent false

  -- s has fewer slots than its parent and than its clone, so that the clone would read the parent where s read zeros
  abbrev pub is_short_between : Volume → Volume → Bool
  is_short_between s clone = has_longer_parent s (slots_of f s) && nat_lt (slots_of f s) (slots_of f clone)

  -- of one clone alone
  abbrev pub only_clone : (Volume → Bool) → List ℕ → Bool
  only_clone test (c ∷ []) = option_map_or test (v c) false
  only_clone test _ = false

  -- the causes of a command on a volume: first that it isn't there
  abbrev pub causes_on_volume : VolumeRef → (ℕ → Volume → Causes) → Causes
  causes_on_volume volume causes_at = at (head_of f v volume)
    where
      at : Option ℕ → Causes
      at None = (true, r.NoVolume) ∷ []
      at (Some h) = of (v h)
        where
          of : Option Volume → Causes
          of None = (true, r.NoVolume) ∷ []
          of (Some x) = causes_at h x

  -- the refusals of each verb, in their order
  abbrev pub causes : Command → Causes
  causes (c.Create name slots thick uuid) =
      (is_taken name, r.NameTaken) ∷ (is_too_large slots (all_slots f v), r.TooLarge) ∷ []
  causes (c.Write volume page word) = causes_on_volume volume (λ h x.
      (is_super f h, r.Reserved) ∷ (nat_le (length x.pages) page, r.OutOfRange) ∷ (x.read_only, r.ReadOnly) ∷ [])
  causes (c.Read volume page) = causes_on_volume volume (λ h x.
      (nat_le (length x.pages) page, r.OutOfRange) ∷ [])
  causes c.Flush = []
  causes (c.SetX volume key value) = causes_on_volume volume (λ h x.
      (is_super f h || is_reserved key, r.Reserved) ∷ (x.read_only, r.ReadOnly)
      ∷ (nat_lt 4063 (length key + length value), r.TooLong) ∷ [])
  causes (c.DelX volume key) = causes_on_volume volume (λ h x.
      (is_super f h || is_reserved key, r.Reserved) ∷ (x.read_only, r.ReadOnly)
      ∷ (is_none (value_of x.live key), r.NoValue) ∷ [])
  causes (c.GetX volume key) = causes_on_volume volume (λ h x.
      (is_none (value_of x.live key), r.NoValue) ∷ [])
  causes (c.Put volume key value) = causes_on_volume volume (λ h x.
      (is_super f h || is_reserved key, r.Reserved) ∷ (x.read_only, r.ReadOnly)
      ∷ (nat_lt 4063 (length key + length value), r.TooLong) ∷ [])
  causes (c.Sync volume) = causes_on_volume volume (λ h x.
      (is_super f h, r.Reserved) ∷ (x.read_only, r.ReadOnly) ∷ [])
  -- growth under a parent that is longer than the volume is short
  causes (c.Resize volume slots) = causes_on_volume volume (λ h x.
      (is_super f h, r.Reserved) ∷ (x.read_only, r.ReadOnly)
      ∷ (nat_lt (slots_of f x) slots && has_longer_parent x (slots_of f x), r.Short)
      ∷ (is_too_large slots (all_slots f v - slots_of f x), r.TooLarge) ∷ [])
  causes (c.Snapshot volume name) = causes_on_volume volume (λ h x.
      (is_super f h, r.Reserved) ∷ (x.read_only, r.ReadOnly) ∷ (is_taken name, r.NameTaken)
      ∷ (is_too_large (slots_of f x) (all_slots f v), r.TooLarge) ∷ [])
  causes (c.Clone volume name) = causes_on_volume volume (λ h x.
      (not x.read_only, r.NotReadOnly) ∷ (is_taken name, r.NameTaken)
      ∷ (is_too_large (slots_of f x) (all_slots f v), r.TooLarge) ∷ [])
  causes (c.Inflate volume) = causes_on_volume volume (λ h x.
      (is_super f h, r.Reserved) ∷ (x.read_only, r.ReadOnly) ∷ [])
  causes (c.Decouple volume) = causes_on_volume volume (λ h x.
      (is_super f h, r.Reserved) ∷ (x.read_only, r.ReadOnly) ∷ (is_none x.parent, r.NoParent)
      ∷ (option_map_or (λ p. option_map_or (λ s. is_short_between s x) (v p) false) x.parent false, r.Short) ∷ [])
  -- read only: locked, or its one clone locked; a volume that is only read-only can be deleted
  causes (c.Delete volume) = causes_on_volume volume (λ h x.
      (is_super f h, r.Reserved) ∷ (x.locked || only_clone (λ y. y.locked) (clones f v h), r.ReadOnly)
      ∷ (nat_le 2 (length (clones f v h)), r.Busy (length (clones f v h)))
      ∷ (only_clone (is_short_between x) (clones f v h), r.Short) ∷ [])
  causes (c.Rename volume name) = causes_on_volume volume (λ h x.
      (is_super f h, r.Reserved) ∷ (x.read_only, r.ReadOnly) ∷ (is_taken name, r.NameTaken) ∷ [])
  causes (c.ReadOnly volume) = causes_on_volume volume (λ h x.
      (is_super f h, r.Reserved) ∷ (x.read_only, r.ReadOnly) ∷ [])
  causes (c.Info volume) = causes_on_volume volume (λ h x. [])
  causes c.List = []
  causes c.Df = []

  -- the first cause that holds decides
  abbrev pub refusal : Command → Option Reply
  refusal command = option_map (λ cause. cause.1) (find (λ cause. cause.0) (causes command))
