use Rattle.std.proofs.Common.{◌≡◌, ◌++◌, None, take}
use Rattle.std.specs.Prelude.{map as map_list}
use Rattle.blob_meta.proofs.recovery.push_erasures.Given as goal

abbrev pub invariant-loop-head : goal.invariant-loop-head
invariant-loop-head l =
    l.list ≡ l.fn.list ++ map_list (λ head. record { head = head; new = None }) (take l.head-index l.removed)
