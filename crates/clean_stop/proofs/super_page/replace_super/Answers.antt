use Rattle.clean_stop.specs.Stopping.{with_clean}
use Rattle.clean_stop.proofs.Supers.{faultless_with, is_page_of}
use Rattle.clean_stop.proofs.super_page.replace_super.Goals as goal

pub returns-then-is_err-clause-read : goal.returns-then-is_err-clause-read
returns-then-is_err-clause-read g c =
    let w = c.write_super.ensures in
    is_page_of (with_clean c.args.clean c.args.sup.now) c.write_super.new.into _ w.bytes w.again
    (w.no_fault (faultless_with c.args.sup.now c.args.clean c.requires.faultless))

pub returns-else-is_err-clause-read : goal.returns-else-is_err-clause-read
returns-else-is_err-clause-read g c =
    let w = c.write_super.ensures in
    is_page_of (with_clean c.args.clean c.args.sup.now) c.write_super.new.into _ w.bytes w.again
    (w.no_fault (faultless_with c.args.sup.now c.args.clean c.requires.faultless))
