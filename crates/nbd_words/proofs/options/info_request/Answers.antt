use Rattle.std.proofs.Common.{◌≡◌, arith}
use Rattle.std.specs.Prelude.{length}
use Rattle.nbd_words.proofs.Heads.{info_length, info_name, info_count}
use Rattle.nbd_words.proofs.options.info_request.Goals as goal

pub returns-then-bytes-lt6-clause-none : goal.returns-then-bytes-lt6-clause-none
returns-then-bytes-lt6-clause-none c = λ name infos q. absurd (omega (arith, info_length c.args.bytes.now name infos q))

pub returns-then-name_length-bytes-clause-none : goal.returns-then-name_length-bytes-clause-none
returns-then-name_length-bytes-clause-none c = λ name infos q.
    let named : c.u32_at-name_length.result ≡ length name =
    info_name c.args.bytes.now name infos c.u32_at-name_length.result q (omega arith) c.u32_at-name_length.ensures in
    absurd (omega (arith, info_length c.args.bytes.now name infos q))

pub returns-then-bytes-infos_from-clause-none : goal.returns-then-bytes-infos_from-clause-none
returns-then-bytes-infos_from-clause-none c = λ name infos q.
    let named : c.u32_at-name_length.result ≡ length name =
    info_name c.args.bytes.now name infos c.u32_at-name_length.result q (omega arith) c.u32_at-name_length.ensures in
    let counted : c.u16_at-count.result ≡ q.count =
    info_count c.args.bytes.now name infos c.u32_at-name_length.result c.u16_at-count.result q named (omega arith)
    c.u16_at-count.ensures in
    absurd (omega (arith, info_length c.args.bytes.now name infos q, q.infos_are))
