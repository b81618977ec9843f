use Rattle.std.proofs.Common.{arith}
use Rattle.blob_meta.proofs.NameSums.{sum_at, as_many}
use Rattle.blob_meta.proofs.entries.named_from.Goals as goal

pub is_named-requires-clause-sum : goal.is_named-requires-clause-sum
is_named-requires-clause-sum g c =
    let name_of = g.V.HasName.name_of in
    let es = c.args.entries.now in
    let sums = c.args.sums.now in
    sum_at name_of es sums c.loop-place.place c.index-entries-place.result 0 c.requires
    (omega (arith, as_many name_of es sums c.requires))
