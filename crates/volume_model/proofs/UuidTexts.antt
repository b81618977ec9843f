-- Uuids as texts.
use Rattle.std.proofs.Common.{◌≡◌, List, ℕ, length, refl}
use Rattle.uuid.specs.Text.{by_index}
use Rattle.volume_model.specs.Uuids.{uuid_text}

pub length-uuid_text : (bytes : List ℕ) → length (uuid_text bytes) ≡ 36
unfolding uuid_text by_index
length-uuid_text bytes = refl
