use Rattle.std.proofs.Common.{◌≡◌, ℕ, ◌+◌, ◌-◌, ◌≤◌, suc, refl, sym, ap, ◌∙◌, arith}
use Rattle.script_lang.specs.Generator.{before_line, after_line}
use Rattle.script_lang.proofs.generator.Generator.skip_line.Goals as goal

after_one : (number line : ℕ) → 4 ≤ line
    → before_line number (line + 1 - 4) ≡ after_line (before_line number (line - 4))
unfolding before_line
after_one number line drawn = let e : line + 1 - 4 ≡ suc (line - 4) = omega arith in rw e refl

pub invariant_of-self-else-line-lt4 : goal.invariant_of-self-else-line-lt4
invariant_of-self-else-line-lt4 c = record {
  in_range = c.after_line-self.ensures.range;
  is_next = c.after_line-self.ensures.state ∙ ap after_line c.args.self.now.is_next
      ∙ sym (after_one c.args.self.now.number c.args.self.now.line (omega arith));
}
