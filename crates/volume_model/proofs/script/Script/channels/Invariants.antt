use Rattle.std.proofs.Common.{◌≡◌, ℕ, ◌≤◌, [], slice_index_or}
use Rattle.volume_model.proofs.script.Script.channels.Given as goal

abbrev pub invariant-loop-channels : goal.invariant-loop-channels
invariant-loop-channels l = (l.channels ≤ 16) × ((channel : ℕ) → l.channels ≤ channel
    → slice_index_or l.self-inside.lists channel [] ≡ [])

abbrev pub decreases-loop-channels : goal.decreases-loop-channels
decreases-loop-channels l = l.channels
