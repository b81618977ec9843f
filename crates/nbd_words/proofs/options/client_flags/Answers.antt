use Rattle.std.proofs.Common.{arith}
use Rattle.nbd_words.proofs.Heads.{four_bytes, no_flags}
use Rattle.nbd_words.proofs.options.client_flags.Goals as goal

pub returns-in_default-clause-none : goal.returns-in_default-clause-none
returns-in_default-clause-none c =
    no_flags c.args.bytes.now c.u32_at-number.result (omega arith) (omega arith) c.u32_at-number.ensures (omega arith)

pub returns-in-0-clause-found : goal.returns-in-0-clause-found
returns-in-0-clause-found c =
    four_bytes c.args.bytes.now c.u32_at-number.result 0 (omega arith) c.u32_at-number.ensures (omega arith)

pub returns-in-1-clause-found : goal.returns-in-1-clause-found
returns-in-1-clause-found c =
    four_bytes c.args.bytes.now c.u32_at-number.result 1 (omega arith) c.u32_at-number.ensures (omega arith)

pub returns-in-2-clause-found : goal.returns-in-2-clause-found
returns-in-2-clause-found c =
    four_bytes c.args.bytes.now c.u32_at-number.result 2 (omega arith) c.u32_at-number.ensures (omega arith)

pub returns-in-3-clause-found : goal.returns-in-3-clause-found
returns-in-3-clause-found c =
    four_bytes c.args.bytes.now c.u32_at-number.result 3 (omega arith) c.u32_at-number.ensures (omega arith)
