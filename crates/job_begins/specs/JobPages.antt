-- The pages of a job, taken at once.
use Rattle.std.specs.Prelude.{◌≡◌, ◌<◌, ℕ, Bool, true, List, length}
use Rattle.pools.specs.Pool.{clear_in}
use Rattle.store_model.specs.Places.{all_set, AreLeastClear}
use Rattle.volume_model.specs.declared.reply.Reply.{Reply}
use Rattle.volume_model.specs.declared.reply.Reply.TheVariants as r

-- These are so many pages, the least clear ones, which are in use from now on.
pub record ArePagesTaken (count : ℕ) (old new : List Bool) (places : List ℕ) : Type 0 where
  pub least : AreLeastClear old places
  pub long : length places ≡ count
  pub set : new ≡ all_set old places true

-- why a job of so many pages doesn't begin: fewer are clear, or memory ran out
abbrev pub IsShort : ℕ → List Bool → Reply → Type 0
IsShort count pages r.NoPage = clear_in pages < count
IsShort count pages r.Memory = Unit {0}
IsShort count pages _ = ⊥
