-- Uuids of volumes.
use Rattle.std.specs.Prelude.{ℕ, List, ◌++◌, take}
use Rattle.std.specs.Option.{unwrap_or}
use Rattle.sha1.specs.Sha1.{sha1}
use Rattle.uuid.specs.Parts.{with_version, with_variant, zero_bytes}
use Rattle.uuid.specs.Text.{hyphenated_text, lower, parsed}
use Rattle.uuid.specs.declared.Variant.TheVariants.{RFC4122}
use Rattle.uuid.specs.declared.Version.TheVariants.{Sha1}

-- the sixteen bytes of version 5 of a name in a store's uuid, by RFC 9562: what a volume has where none is given
unfoldable pub default_uuid : List ℕ → List ℕ → List ℕ
default_uuid store name = with_version (with_variant (take 16 (sha1 (store ++ name))) RFC4122) Sha1

-- sixteen bytes as 36 characters, hyphenated and lower case
unfoldable pub uuid_text : List ℕ → List ℕ
uuid_text bytes = hyphenated_text lower bytes

-- the bytes that a text says, or the nil uuid where it is no uuid's text
unfoldable pub uuid_said : List ℕ → List ℕ
uuid_said text = unwrap_or (parsed text) zero_bytes
