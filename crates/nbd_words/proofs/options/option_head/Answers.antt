use Rattle.std.proofs.Common.{◌≡◌, take, arith}
use Rattle.std.proofs.lemmas.List.{take_all}
use Rattle.nbd_words.specs.Options.{option_magic}
use Rattle.nbd_words.proofs.Heads.{other_number}
use Rattle.nbd_words.proofs.options.option_head.Goals as goal

pub returns-then-magic-ne-OPTION_MAGIC-clause-wrong : goal.returns-then-magic-ne-OPTION_MAGIC-clause-wrong
returns-then-magic-ne-OPTION_MAGIC-clause-wrong c =
    other_number 8 _ option_magic (take 8 c.args.bytes.now) (omega arith) (omega arith) c.u64_at-magic.ensures
    c.if-magic-ne-OPTION_MAGIC.true

pub returns-clause-found : goal.returns-clause-found
returns-clause-found c =
    let whole : take 16 c.args.bytes.now ≡ c.args.bytes.now = take_all 16 c.args.bytes.now (omega arith) in
    cc
