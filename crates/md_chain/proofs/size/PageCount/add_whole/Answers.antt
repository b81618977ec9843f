use Rattle.std.proofs.Common.{◌≡◌, ℕ, ◌+◌, ◌-◌, ◌≤◌, ◌<◌, length, ap, subst, sym, ◌∙◌, arith}
use Rattle.descriptors.specs.Writing.{item_size}
use Rattle.md_chain.specs.declared.size.PageCount.{PageCount}
use Rattle.md_chain.specs.Packing.{parts_from}
use Rattle.md_chain.proofs.Fitting.{length-kept, length-turned, can_size}
use Rattle.md_chain.proofs.size.PageCount.add_whole.Goals as goal
use Rattle.md_chain.proofs.size.PageCount.add_whole.Goals.{then-size-self, else-size-self}

pub returns : goal.returns
returns c = λ rest.
    let x = c.args.item.now in
    let old = c.args.self.now in
    let now = c.if-size-self.self in
    let is : c.size_of-size.result ≡ item_size x = c.size_of-size.ensures.small
    (can_size x c.requires.can c.requires.whole) in
    ap (λ (s : ℕ). now.pages + length (parts_from (now.room - s) rest)) is
    ∙ elim c.if-size-self.branch [
      | then-size-self w ↦
          let lt : old.room < item_size x = subst (λ (s : ℕ). old.room < s) is w.if-size-self.true in
          let longer = length-turned rest old.room x c.requires.can c.requires.whole lt in
          ap (λ (p : PageCount). p.pages + length (parts_from (p.room - item_size x) rest)) w.self-is
          ∙ omega (arith, longer)
      | else-size-self w ↦
          let le : item_size x ≤ old.room = subst (λ (s : ℕ). s ≤ old.room) is w.if-size-self.false in
          ap (λ (p : PageCount). p.pages + length (parts_from (p.room - item_size x) rest)) w.self-is
          ∙ ap (λ (n : ℕ). old.pages + n) (sym (length-kept rest old.room x c.requires.can c.requires.whole le))
    ]
