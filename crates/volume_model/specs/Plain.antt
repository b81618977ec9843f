-- A volume of the plain machine, as contracts see it.
use Rattle.std.specs.Prelude.{ℕ, if◌then◌else◌, Option}
use Rattle.volume_model.specs.Volumes.{Volume, is_given_head}
use Rattle.volume_model.specs.declared.machine.rows.Volume as row

-- the volume that a row of the machine holds
abbrev pub volume_in_row : row.Volume → Volume
volume_in_row x = record {
  pages = x.pages.items;
  live = x.live;
  synced = x.synced;
  thin = x.thin;
  read_only = x.read_only;
  locked = x.locked;
  parent = x.parent;
}

-- a clone of the volume at h has this parent from now on
abbrev pub adopted : ℕ → Option ℕ → Volume → Volume
adopted h parent x = record x { parent = if is_given_head h x.parent then parent else x.parent }

-- the same of a row
abbrev pub adopted_row : ℕ → Option ℕ → row.Volume → row.Volume
adopted_row h parent x = record x { parent = if is_given_head h x.parent then parent else x.parent }
