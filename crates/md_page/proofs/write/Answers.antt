use Rattle.std.proofs.Common.{List, ℕ, IsTrue, subst, sym}
use Rattle.crc32c.specs.Crc.{is_sound}
use Rattle.md_page.specs.Page.{IsMdPage}
use Rattle.md_page.proofs.Again.{is_read, is_read_sound}
use Rattle.md_page.proofs.write.Goals as goal

pub returns-clause-sound : goal.returns-clause-sound
returns-clause-sound c =
    subst (λ (p : List ℕ). IsTrue (is_sound p)) (sym c.put_page.ensures.bytes)
    (is_read_sound c.args.md.now c.put_page.ensures.fits c.put_page.ensures.sum)

pub returns-clause-again : goal.returns-clause-again
returns-clause-again c =
    subst (λ (p : List ℕ). IsMdPage p c.args.md.now) (sym c.put_page.ensures.bytes)
    (is_read c.args.md.now c.put_page.ensures.fits)
