-- Which blob a command means.
use Rattle.std.specs.Prelude.{◌≡◌, ℕ, ◌+◌, ◌^◌, ◌<◌, ◌==◌, Bool, true, false, ◌&&◌, not, List}
use Rattle.std.specs.Option.{option_map_or}
use Rattle.std.specs.Ordering.{nat_cmp}
use Rattle.std.specs.FinMap as map
use Rattle.std.specs.Str.{bytes_eq}
use Rattle.super_block.specs.declared.page.Super.{Super}
use Rattle.volume_model.specs.Xattrs.{told, name_key}
use Rattle.volume_model.specs.declared.command.VolumeRef.{VolumeRef}
use Rattle.volume_model.specs.declared.command.VolumeRef.TheVariants.{Head, Named}
use Rattle.blob_meta.specs.declared.meta.Meta.{Meta}

-- its `name`, up to the first NUL, is this one
abbrev pub is_called : List ℕ → Meta → Bool
is_called name m = bytes_eq (told m.xattrs name_key) name

-- A head names its own blob; a name any but the super blob, whose id is this one.
abbrev pub is_meant : ℕ → map.FinMap nat_cmp Meta → VolumeRef → ℕ → Bool
is_meant super_blob metas (Head h) k = (k == h) && map.contains_key metas k
is_meant super_blob metas (Named name) k = not (super_blob == 2 ^ 32 + k)
    && option_map_or (is_called name) (map.get metas k) false

-- the least head that passes
pub record IsLeast (test : ℕ → Bool) (head : ℕ) : Type 0 where
  pub passes : test head ≡ true
  pub none_below : (k : ℕ) → k < head → test k ≡ false

-- a volume is meant, by a head of 32 bits
abbrev pub IsThere : map.FinMap nat_cmp Meta → Super → VolumeRef → Type 0
IsThere metas sup volume = (head : ℕ) × (head < 2 ^ 32) × (is_meant sup.super_blob metas volume head ≡ true)
