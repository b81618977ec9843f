use Rattle.std.proofs.Common.{◌<◌, ◌≤◌, refl, arith}
use Rattle.pools.specs.Pool.{clear_in}
use Rattle.job_begins.specs.Begins.{needed}
use Rattle.job_begins.proofs.Needed.{has_pages, lacks_pages}
use Rattle.job_begins.proofs.preparing.lack_beside_clusters.Goals as goal

pub returns-then-clear_count-pages_needed : goal.returns-then-clear_count-pages_needed
returns-then-clear_count-pages_needed c =
    let needs = c.pages_needed.ensures in
    let clear = c.clear_count.ensures in
    let fewer = c.if-clear_count-pages_needed.true in
    let low : clear_in c.args.pages.now.bits < needed c.args.makes c.in-Ok.items =
    omega (arith, clear, fewer, needs) in
    lacks_pages c.args.new.now c.in-Ok.items c.in-Ok.ensures.are c.args.makes c.args.pages.now.bits low

pub returns : goal.returns
returns c =
    let needs = c.pages_needed.ensures in
    let clear = c.clear_count.ensures in
    let as_many = c.if-clear_count-pages_needed.false in
    let enough : needed c.args.makes c.in-Ok.items ≤ clear_in c.args.pages.now.bits =
    omega (arith, clear, as_many, needs) in
    (refl, has_pages c.args.new.now c.in-Ok.items c.in-Ok.ensures.are c.args.makes c.args.pages.now.bits enough)
