use Rattle.std.proofs.Common.{◌≡◌, ◌++◌, if◌then◌else◌, drop}
use Rattle.volume_model.specs.Xattrs.{with_value}
use Rattle.volume_model.proofs.xattrs.ListOf+Xattr.with_value.Given as goal

abbrev pub invariant-loop-xattr : goal.invariant-loop-xattr
invariant-loop-xattr l =
    l.list ++ (if l.is_set then drop l.xattr-index l.xattr-items else with_value (drop l.xattr-index l.xattr-items)
    l.key l.value) ≡ with_value l.xattr-items l.key l.value
