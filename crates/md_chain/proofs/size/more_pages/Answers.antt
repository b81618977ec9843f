use Rattle.std.proofs.Common.{arith}
use Rattle.md_chain.proofs.Fitting.{length-full_runs, length-run_parts}
use Rattle.md_chain.proofs.size.more_pages.Goals as goal
use Rattle.md_chain.proofs.size.more_pages.Goals.{then-room-lt-ONE_RUN, else-room-lt-ONE_RUN}

pub returns-clause-pages : goal.returns-clause-pages
returns-clause-pages c = λ rs len. elim c.if-room-lt-ONE_RUN.branch [
  | then-room-lt-ONE_RUN w ↦
      let fit = w.fit-is in
      let left = c.saturating_sub.ensures in
      let up = c.div_ceil.ensures in
      let long = length-full_runs c.args.room rs w.if-room-lt-ONE_RUN.true in
      omega (arith, fit, left, up, long, len)
  | else-room-lt-ONE_RUN w ↦
      let fit = w.fit-is in
      let left = c.saturating_sub.ensures in
      let up = c.div_ceil.ensures in
      let long = length-run_parts c.args.room rs w.if-room-lt-ONE_RUN.false in
      omega (arith, fit, left, up, long, len)
]
