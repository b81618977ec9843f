use Rattle.std.proofs.Common.{arith}
use Rattle.nbd_words.proofs.NumberLaws.{read_8}
use Rattle.nbd_words.proofs.numbers.u64_at.Goals as goal

pub returns : goal.returns
returns c =
    read_8 c.args.bytes.now c.args.at _ c.from_be_bytes.result (omega arith) (omega arith)
    (λ i. omega (arith, c.type_inv.bytes i)) c.from_be_bytes.ensures
