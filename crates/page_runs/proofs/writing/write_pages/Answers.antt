use Rattle.std.proofs.Common.{◌≡◌, ◌<◌, ◌+◌, ◌∙◌, ap, refl, arith}
use Rattle.page_disk.specs.Disk.{with_page}
use Rattle.page_disk.specs.declared.disk.WriteKind.TheVariants.{Plain}
use Rattle.page_runs.specs.Writing.{IsBetween}
use Rattle.page_runs.proofs.Filling.{one_more, one_written}
use Rattle.page_runs.proofs.Runs.{none_written}
use Rattle.page_runs.proofs.writing.write_pages.Goals as goal

pub loop-index-init : goal.loop-index-init
loop-index-init g c = record {
  filled = λ told k lt. absurd (omega arith);
  only =
      none_written g.D.PageDisk g.met.D.PageDisk.telling (IsBetween c.args.start (c.args.start + c.args.count))
      c.args.disk.now;
  quiet = refl;
}

pub loop-index-preserved : goal.loop-index-preserved
loop-index-preserved g c =
    let d = g.D.PageDisk in
    let was = c.loop-index.invariant in
    let content = c.args.content.now in
    let start = c.args.start in
    let count = c.args.count in
    let index = c.loop-index.index in
    let old = c.loop-index.disk in
    let new = c.write.new.self in
    let low : index < count = c.loop-index-test.true in
    let place = c.from.result + c.from-in-loop-index.result in
    let at : place ≡ start + index = omega arith in
    let w = c.write.ensures in
    record {
      filled =
          λ told. one_more content start count index low place at (d.now old) (d.now new)
          ((c.in_ok-write.ensures.ok told).now ∙ ap (with_page (d.now old) place) c.put.ensures) (was.filled told);
      only =
          one_written d content start count index low place at c.args.disk.now old new was.only Plain c.put.new.into
          c.write.result w.ok w.err w.since w.later w.pages w.faults w.read_faults w.reads;
      quiet = c.in_ok-write.ensures.no_fault ∙ was.quiet;
    }

pub returns-in_err-write-clause-only : goal.returns-in_err-write-clause-only
returns-in_err-write-clause-only g c =
    let at : c.from.result + c.from-in-loop-index.result ≡ c.args.start + c.loop-index.index = omega arith in
    let w = c.write.ensures in
    one_written g.D.PageDisk c.args.content.now c.args.start c.args.count c.loop-index.index c.loop-index-test.true _ at
    c.args.disk.now c.loop-index.disk c.write.new.self c.loop-index.invariant.only Plain c.put.new.into
    c.write.result w.ok w.err w.since w.later w.pages w.faults w.read_faults w.reads
