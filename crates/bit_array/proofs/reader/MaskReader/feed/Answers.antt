use Rattle.std.proofs.Common.{arith, ◌≡◌, ◌∙◌, ◌++◌, ◌+◌, ℕ, length, sym, ap, subst}
use Rattle.std.proofs.lemmas.List.{length-append}
use Rattle.bit_array.specs.Mask.{bits_in}
use Rattle.bit_array.proofs.Masks.{length-bits_in}
use Rattle.bit_array.proofs.reader.MaskReader.feed.Goals as goal

pub returns-clause-read : goal.returns-clause-read
returns-clause-read c = λ kind len text read.
    let was = rw (← c.self.view_is) at read in
    let same_len : length c.self.inside.bits ≡ len = ap length was.bits_are ∙ length-bits_in len text in
    let more : length (text ++ c.args.page.now) ≡ length text + length c.args.page.now =
    length-append text c.args.page.now in
    record {
      kind_is = was.kind_is;
      pages = omega (arith, was.pages, c.told-page);
      bits_are =
          subst (λ (n : ℕ). c.read_page.new.bits ≡ bits_in n (text ++ c.args.page.now)) same_len
          (c.read_page.ensures.says text was.pages (was.bits_are ∙ ap (λ (n : ℕ). bits_in n text) (sym same_len)));
    }
