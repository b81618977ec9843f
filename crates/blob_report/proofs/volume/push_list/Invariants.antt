use Rattle.std.proofs.Common.{◌≡◌, ◌++◌, take, length, decimal}
use Rattle.std.specs.Prelude.{codes}
use Rattle.std.specs.List.{flat_map}
use Rattle.blob_report.specs.Text.{info_line}
use Rattle.blob_report.proofs.volume.push_list.Given as goal

abbrev pub invariant-loop-info : goal.invariant-loop-info
invariant-loop-info l = l.into.items ≡ l.fn.into.items ++
    (codes "list " ++ decimal (length l.infos) ++ flat_map info_line (take l.info-index l.infos))
