use Rattle.std.proofs.Common.{List, ℕ, Bool, true, ap, ◌∙◌}
use Rattle.crc32c.specs.Crc.{crc32c_of, is_sound}
use Rattle.super_block.specs.Page.{super_front, super_of}
use Rattle.super_block.specs.Faults.{fault_of}
use Rattle.super_block.proofs.Again.{is_sound-written, super_of-written, fault_of-sum}
use Rattle.super_block.proofs.page.write_super.Goals as goal

pub returns-clause-sound : goal.returns-clause-sound
returns-clause-sound c =
    ap is_sound c.put_page.ensures.bytes
    ∙ is_sound-written c.args.sup.now c.put_page.ensures.fits c.put_page.ensures.sum

pub returns-clause-again : goal.returns-clause-again
returns-clause-again c =
    ap (λ (page : List ℕ). super_of page c.args.sup.now.device_pages) c.put_page.ensures.bytes
    ∙ super_of-written c.args.sup.now c.put_page.ensures.fits c.put_page.ensures.sum

pub returns-clause-no_fault : goal.returns-clause-no_fault
returns-clause-no_fault c = λ faultless.
    ap (λ (sound : Bool). fault_of sound (super_of c.put_page.new.into c.args.sup.now.device_pages))
    (returns-clause-sound c)
    ∙ ap (fault_of true) (returns-clause-again c)
    ∙ fault_of-sum c.args.sup.now (crc32c_of (super_front c.args.sup.now))
    ∙ faultless
