use Rattle.std.proofs.Common.{ap, ◌∙◌}
use Rattle.crc32c.specs.Crc.{crc32c_of}
use Rattle.super_block.specs.Page.{super_bytes, super_front}
use Rattle.store_format.proofs.NewStore.{read_as_planned}
use Rattle.store_format.proofs.formatting.super_page.Goals as goal

pub returns-clause-read : goal.returns-clause-read
returns-clause-read c =
    let s = c.super_block_of.result in
    let w = c.write_super.ensures in
    read_as_planned c.args.layout.now c.args.super_blob s c.write_super.new.into (crc32c_of (super_front s))
    c.super_block_of.ensures.value (w.bytes ∙ ap super_bytes c.super_block_of.ensures.value) w.again
    (w.no_fault c.super_block_of.ensures.faultless)
