use Rattle.std.proofs.Common.{◌≡◌, ◌++◌, take}
use Rattle.blob_meta.specs.Items.{xattr_items}
use Rattle.blob_meta.proofs.writing.push_xattrs.Given as goal

abbrev pub invariant-loop-xattr : goal.invariant-loop-xattr
invariant-loop-xattr l = l.items ≡ l.fn.items ++ xattr_items (take l.xattr-index l.xattrs)
