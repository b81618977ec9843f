-- Which metadata the store can hold, and a running one has.
use Rattle.std.specs.Prelude.{◌≡◌, ℕ, Some}
use Rattle.super_block.specs.declared.page.Super.{Super}
use Rattle.blob_meta.specs.declared.meta.Meta.{Meta}
use Rattle.store_model.specs.Maps.{Metas}
pub use Rattle.shown_volumes.specs.Steady.{CanBeWritten, IsStored, NamesHead, IsUnmarked, IsSteady, AreSteady}

-- the store can hold each blob, marked ones among them
abbrev pub AreStored : Super → Metas → Type 0
AreStored s metas = (head : ℕ) (m : Meta) → metas head ≡ Some m → IsStored s head m

-- the SNAP of each blob names a head, where the blob has one
abbrev pub AreNamed : Metas → Type 0
AreNamed metas = (head : ℕ) (m : Meta) → metas head ≡ Some m → NamesHead m
