use Rattle.std.proofs.Common.{arith}
use Rattle.running_store.specs.Jobs.{phases_in}
use Rattle.running_store.proofs.ZeroPages.{cluster_more, matched_behind, none_more, page_more, still_zeroed, zeroed_of}
use Rattle.running_store.proofs.job.RunningJob.behind_zeros.Goals as goal

pub overflow_add-next_page : goal.overflow_add-next_page
overflow_add-next_page c =
    let left = (zeroed_of c.args.serves c.args.planned c.args.zeroed c.requires.zeroed).1 in omega (arith, left.pages)

pub overflow_add-next_cluster : goal.overflow_add-next_cluster
overflow_add-next_cluster c =
    let left = (zeroed_of c.args.serves c.args.planned c.args.zeroed c.requires.zeroed).1 in
    let count = c.len-count.ensures in
    omega (arith, left.clusters, count)

pub returns-then-next_page-cluster_pages-clause-seen : goal.returns-then-next_page-cluster_pages-clause-seen
returns-then-next_page-cluster_pages-clause-seen c =
    page_more c.args.serves c.args.planned c.args.old c.args.zeroed (phases_in c.args.later.items)
    (zeroed_of c.args.serves c.args.planned c.args.zeroed c.requires.zeroed).1 c.if-next_page-cluster_pages.true

pub returns-then-next_page-cluster_pages-clause-headed : goal.returns-then-next_page-cluster_pages-clause-headed
returns-then-next_page-cluster_pages-clause-headed c =
    let left = (zeroed_of c.args.serves c.args.planned c.args.zeroed c.requires.zeroed).1 in (
      still_zeroed c.args.serves c.args.planned c.args.zeroed _ c.requires.zeroed
          (record { clusters = left.clusters; pages = c.if-next_page-cluster_pages.true }),
      c.requires.follows,
    )

pub returns-then-next_cluster-count-clause-seen : goal.returns-then-next_cluster-count-clause-seen
returns-then-next_cluster-count-clause-seen c =
    let last = c.if-next_page-cluster_pages.false in
    cluster_more c.args.serves c.args.planned c.args.old c.args.zeroed (phases_in c.args.later.items)
    (zeroed_of c.args.serves c.args.planned c.args.zeroed c.requires.zeroed).1 (omega (arith, last))

pub returns-then-next_cluster-count-clause-headed : goal.returns-then-next_cluster-count-clause-headed
returns-then-next_cluster-count-clause-headed c =
    let some = c.if-next_cluster-count.true in
    let count = c.len-count.ensures in
    let left = (zeroed_of c.args.serves c.args.planned c.args.zeroed c.requires.zeroed).1 in
    let pages = left.pages in (
      still_zeroed c.args.serves c.args.planned c.args.zeroed _ c.requires.zeroed
          (record { clusters = omega (arith, some, count); pages = omega (arith, pages) }),
      c.requires.follows,
    )

pub returns-clause-seen : goal.returns-clause-seen
returns-clause-seen c =
    let last = c.if-next_page-cluster_pages.false in
    let none = c.if-next_cluster-count.false in
    let count = c.len-count.ensures in
    none_more c.args.serves c.args.planned c.args.old c.args.zeroed (phases_in c.args.later.items)
    (zeroed_of c.args.serves c.args.planned c.args.zeroed c.requires.zeroed).1 (omega (arith, last))
    (omega (arith, none, count))

pub returns-clause-headed : goal.returns-clause-headed
returns-clause-headed c =
    (matched_behind c.args.serves c.args.planned c.args.zeroed c.requires.zeroed, c.requires.follows)
