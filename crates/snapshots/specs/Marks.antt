-- Internal attributes that name another blob by its id.
use Rattle.std.specs.Prelude.{ℕ, ◌+◌, ◌^◌, List, codes}
use Rattle.std.specs.Option.{option_map_or}
use Rattle.page_fields.specs.Fields.{number_bytes}
use Rattle.volume_model.specs.Xattrs.{Text, Xattrs, value_of, with_value, without}
use Rattle.blob_meta.specs.declared.meta.Meta.{Meta}

-- the eight bytes of a blob's id
abbrev pub id_bytes : ℕ → List ℕ
id_bytes head = number_bytes 8 (2 ^ 32 + head)

-- naming the blob at a head
abbrev pub with_named : Xattrs → Text → ℕ → Xattrs
with_named internal key head = with_value internal key (id_bytes head)

-- naming the parent of this blob, or none where it has none
abbrev pub with_parent_of : Xattrs → Meta → Xattrs
with_parent_of internal m = option_map_or (λ id. with_value internal (codes "SNAP") id)
    (value_of m.internal (codes "SNAP")) (without internal (codes "SNAP"))
