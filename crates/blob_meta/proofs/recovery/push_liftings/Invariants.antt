use Rattle.std.proofs.Common.{◌≡◌, ◌++◌, take}
use Rattle.std.specs.Prelude.{map as map_list}
use Rattle.std.specs.Option.{option_map}
use Rattle.std.specs.FinMap as map
use Rattle.blob_meta.specs.Resolving.{without_marks}
use Rattle.blob_meta.proofs.recovery.push_liftings.Given as goal

abbrev pub invariant-loop-head : goal.invariant-loop-head
invariant-loop-head l = l.list ≡ l.fn.list ++ map_list
    (λ head. record { head = head; new = option_map without_marks (map.get l.metas head) }) (take l.head-index l.kept)
