-- What a volume is called, and its uuid, are on the disk as they are read.
use Rattle.std.specs.Prelude.{◌≡◌, ℕ, Some}
use Rattle.volume_model.specs.Xattrs.{told, name_key, uuid_key}
use Rattle.volume_model.specs.Volumes.{Volume, Volumes}

-- The volume's live `name` and `uuid` tell what its synced ones do.
pub record IsNamedAlike (x : Volume) : Type 0 where
  pub name_told : told x.live name_key ≡ told x.synced name_key
  pub uuid_told : told x.live uuid_key ≡ told x.synced uuid_key

-- so of each volume
abbrev pub AreNamedAlike : Volumes → Type 0
AreNamedAlike v = (h : ℕ) (x : Volume) → v h ≡ Some x → IsNamedAlike x
