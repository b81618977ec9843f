-- What a commit makes of the store in memory, beside its blob.
use Rattle.std.specs.Prelude.{ℕ, Bool, Option}
use Rattle.running_store.specs.Blobs.{live_change, numbered_in, shows_of}
use Rattle.running_store.specs.Places.{with_changes, with_numbers}
use Rattle.running_store.specs.declared.replacements.Commit.{Commit}
use Rattle.running_store.specs.declared.running.Running.{Running}

-- attributes are read otherwise, another blob is shown otherwise, and blobs have new generations
abbrev pub concluded : {D : Type 0} → Running D → Option Commit → Bool → ℕ → Running D
concluded running commit makes head = record running {
  metas = with_changes running.metas (shows_of commit);
  live = with_changes running.live (live_change commit);
  guards = with_numbers running.guards (numbered_in commit makes head);
}
