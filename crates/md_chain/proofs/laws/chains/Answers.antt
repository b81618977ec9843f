use Rattle.std.proofs.Common.{[]}
use Rattle.md_chain.proofs.OneChain.{one_chain, one_break, not_both_ways, kept}
use Rattle.md_chain.proofs.laws.chains.Goals as goal

pub returns : goal.returns
returns c = record {
  one = λ look md_len head xs ys ps qs a b. one_chain look md_len head 0 [] head head xs ys ps qs a b;
  fault = λ look md_len head f g a b. one_break look md_len head 0 [] head head f g a b;
  either = λ look md_len head xs ps f a b. not_both_ways look md_len head 0 [] head head xs ps f a b;
  kept = λ look other md_len head items pages same a. kept look md_len head other 0 [] head head items pages same a;
}
