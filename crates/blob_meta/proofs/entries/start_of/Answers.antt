use Rattle.std.proofs.Common.{rules, arith, ltb}
use Rattle.std.proofs.lemmas.Bool.Decides.{nat_tests}
use Rattle.std.proofs.lemmas.List.Sorted.{IsPartitionPoint-from_clause}
use Rattle.blob_meta.proofs.NamedHeads.{parted}
use Rattle.blob_meta.proofs.entries.start_of.Goals as goal

pub returns-clause-parts : goal.returns-clause-parts
returns-clause-parts g c =
    let (before, behind) =
    IsPartitionPoint-from_clause (λ e. ltb e.0 c.args.head) _ _ c.partition_point.ensures.partitioned
    (parted c.args.entries.now c.args.head c.requires) (λ a r f called. search rules) in (
      (λ k d low lt. grind (arith, nat_tests, before k d low lt)),
      (λ k d low lt. grind (arith, nat_tests, behind k d low lt)),
    )
