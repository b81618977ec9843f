use Rattle.std.proofs.Common.{◌≡◌, ◌+◌, ◌*◌, ◌<◌, ℕ, List, [], length, get_or, take, sym, ◌∙◌, ap, subst, arith}
use Rattle.std.proofs.Math.Seq.{take-length}
use Rattle.std.proofs.lemmas.List.{length-take-le, take_more}
use Rattle.file_disk.specs.FileCalls.{FileBytes, HasBytes, with_bytes, with_run}
use Rattle.file_disk.proofs.Runs.{with_run-more}
use Rattle.file_disk.proofs.memory_file.put_run.Goals as goal

-- the run with one page more
module _ (file : FileBytes) (at place i : ℕ) (pages : List (List ℕ)) (lt : i < length pages)
    (is : place ≡ at + i * 4096) where
  one_more : with_bytes (with_run file at (take i pages)) place (get_or pages i [])
      ≡ with_run file at (take (i + 1) pages)
  one_more =
      let long : length (take i pages) ≡ i = length-take-le i pages (omega arith) in
      let here : place ≡ at + length (take i pages) * 4096 = omega arith in
      ap (λ n. with_bytes (with_run file at (take i pages)) n (get_or pages i [])) here
      ∙ sym (with_run-more file at (take i pages) (get_or pages i []))
      ∙ ap (with_run file at) (sym (take_more pages i [] lt))

pub loop-page-preserved : goal.loop-page-preserved
loop-page-preserved c =
    let count = c.loop-page.invariant.counted in
    record {
      counted = omega arith;
      put = λ file has.
          subst (λ (now : FileBytes). HasBytes c.put_at.new.bytes now)
          (one_more file c.args.at c.loop-page.place c.loop-page.page-index c.args.pages.now c.loop-page-test.true count)
          (c.put_at.ensures (with_run file c.args.at (take c.loop-page.page-index c.args.pages.now))
          (c.loop-page.invariant.put file has));
    }

pub returns : goal.returns
returns c file has =
    let past = c.loop-page-test.false in
    let end = c.loop-page.auto.page-index-end in
    let all : c.loop-page.page-index ≡ length c.args.pages.now = omega arith in
    subst (λ (pages : List (List ℕ)). HasBytes c.loop-page.bytes (with_run file c.args.at pages))
    (ap (λ n. take n c.args.pages.now) all ∙ take-length c.args.pages.now)
    (c.loop-page.invariant.put file has)
