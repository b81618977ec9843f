use Rattle.std.proofs.Common.{◌≡◌, take, arith}
use Rattle.std.proofs.lemmas.List.{take_all}
use Rattle.nbd_words.specs.Requests.{request_magic}
use Rattle.nbd_words.proofs.Heads.{other_number}
use Rattle.nbd_words.proofs.requests.request_head.Goals as goal

pub returns-then-magic-ne-REQUEST_MAGIC-clause-wrong : goal.returns-then-magic-ne-REQUEST_MAGIC-clause-wrong
returns-then-magic-ne-REQUEST_MAGIC-clause-wrong c =
    other_number 4 _ request_magic (take 4 c.args.bytes.now) (omega arith) (omega arith) c.u32_at-magic.ensures
    c.if-magic-ne-REQUEST_MAGIC.true

pub returns-clause-found : goal.returns-clause-found
returns-clause-found c =
    let whole : take 28 c.args.bytes.now ≡ c.args.bytes.now = take_all 28 c.args.bytes.now (omega arith) in
    cc
