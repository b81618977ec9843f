-- Extended attributes: lists of keys and values in which, of equal keys, the first counts.
use Rattle.std.specs.Prelude.{ℕ, ◌==◌, if◌then◌else◌, Option, not, List, [], ◌∷◌, ◌++◌, codes}
use Rattle.std.specs.List.{find, filter, before_first}
use Rattle.std.specs.Option.{option_map, option_map_or}
use Rattle.std.specs.Str.{bytes_eq}
use Rattle.volume_model.specs.declared.text.Xattr.{Xattr}

-- bytes
abbrev pub Text : Type 0
Text = List ℕ

-- attributes in their order
abbrev pub Xattrs : Type 0
Xattrs = List Xattr

-- the value of the first attribute of this key
abbrev pub value_of : Xattrs → Text → Option Text
value_of xattrs key = option_map (λ x. x.value) (find (λ x. bytes_eq x.key key) xattrs)

-- a key that is there keeps its place, a new one comes last
abbrev pub with_value : Xattrs → Text → Text → Xattrs
with_value [] key value = record { key = key; value = value } ∷ []
with_value (x ∷ xs) key value = if bytes_eq x.key key then record x { value = value } ∷ xs else x
    ∷ with_value xs key value

-- the attributes of other keys
abbrev pub without : Xattrs → Text → Xattrs
without xattrs key = filter (λ x. not (bytes_eq x.key key)) xattrs

-- the two attributes that every volume has
abbrev pub name_key : Text
name_key = codes "name"

-- the key of a volume's uuid
abbrev pub uuid_key : Text
uuid_key = codes "uuid"

-- their values are a text and one NUL; what is read counts up to the first NUL, and is empty where the attribute isn't
-- there
abbrev pub with_nul : Text → Text
with_nul text = text ++ 0 ∷ []

-- a value up to its first NUL, empty where the attribute isn't there
abbrev pub told : Xattrs → Text → Text
told xattrs key = option_map_or (before_first (λ b. b == 0)) (value_of xattrs key) []
