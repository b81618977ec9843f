use Rattle.std.proofs.Common.{◌≡◌, false}
use Rattle.std.specs.List.{AllWithin}
use Rattle.std.specs.Str.{bytes_eq}
use Rattle.blob_meta.proofs.entries.named_from.Given as goal

abbrev pub invariant-loop-place : goal.invariant-loop-place
invariant-loop-place g l = AllWithin (λ e. bytes_eq (g.V.HasName.name_of e.1) l.name ≡ false) l.entries l.first l.place
