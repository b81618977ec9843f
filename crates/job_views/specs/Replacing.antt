-- What the replacements of a job are, as the model of the store has them.
use Rattle.std.specs.Prelude.{List, ℕ, Option}
use Rattle.std.specs.Option.{option_map}
use Rattle.store_model.specs.Phases.{Committing, Replacing}
use Rattle.running_store.specs.Blobs.{Blobs, commit_of}
use Rattle.running_store.specs.Effects.{commit_seen}
use Rattle.running_store.specs.Jobs.{erasure_of, replacing_of}
use Rattle.running_store.specs.StoreView.{StoreView}
use Rattle.running_store.specs.declared.replacements.Change.{Change}
use Rattle.running_store.specs.declared.replacements.Change.TheVariants as change

-- the blobs that a store has in memory
abbrev pub blobs_in : {D : Type 0} → StoreView D → Blobs
blobs_in p = record { metas = p.metas; marked = p.marked; chains = p.chains; live = p.live; guards = p.guards }

-- a change, and the old pages that are cleared behind it
abbrev pub replacing_for : Change → List ℕ → Replacing
replacing_for (change.Writes p) old = replacing_of p old
replacing_for (change.Erases e) old = erasure_of e old

-- what it commits, if it does
abbrev pub committing : Change → Option Committing
committing x = option_map commit_seen (commit_of x)
