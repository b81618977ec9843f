use Rattle.std.proofs.Common.{sym, ◌∙◌}
use Rattle.std.specs.FinMap as map
use Rattle.std.proofs.lemmas.Bool.{both_ways}
use Rattle.unclean_load.proofs.LoadOutcome.{read_chains}
use Rattle.unclean_load.proofs.MaskClaims.{both_claimed, not_clusters, not_pages}
use Rattle.unclean_load.proofs.Slots.{all_inside}
use Rattle.unclean_load.proofs.claimed.are_claimed.Goals as goal
use Rattle.unclean_load.proofs.claimed.are_claimed.Goals.{then-is_same, else-is_same}

pub used_pages-requires : goal.used_pages-requires
used_pages-requires c =
    read_chains c.args.sup.now (map.get c.args.blobs.now.metas) (map.get c.args.blobs.now.chains) c.requires.read

pub claims_of-requires-clause-inside : goal.claims_of-requires-clause-inside
claims_of-requires-clause-inside c =
    all_inside c.args.sup.now (map.get c.args.blobs.now.metas) c.requires.read.stored

pub returns-clause-claimed : goal.returns-clause-claimed
returns-clause-claimed c is = elim c.if-is_same.branch [
  | then-is_same w ↦
      both_claimed c.args.sup.now (map.get c.args.blobs.now.metas) (map.get c.args.blobs.now.chains) c.requires.read
      c.in_ok-used.used c.in_ok-claims.claims.clusters c.in_ok-claims.claims.twice c.in_ok-used.ensures.used
      c.in_ok-claims.ensures.count c.in_ok-claims.ensures.counted c.args.pages.now c.args.clusters.now
      (c.is_same.ensures.same w.if-is_same.true) (w.is_same-then-is_same.ensures.same (sym w.result-is ∙ is))
  | else-is_same w ↦ absurd (both_ways c.if-is_same.result (w.result-is ∙ w.if-is_same.false) is)
]

pub returns-clause-not_claimed : goal.returns-clause-not_claimed
returns-clause-not_claimed c is pages clusters = elim c.if-is_same.branch [
  | then-is_same w ↦
      not_clusters c.args.sup.now (map.get c.args.blobs.now.metas) (map.get c.args.blobs.now.chains) c.requires.read
      c.in_ok-used.used c.in_ok-claims.claims.clusters c.in_ok-claims.claims.twice c.in_ok-used.ensures.used
      c.in_ok-claims.ensures.count c.in_ok-claims.ensures.counted c.args.pages.now c.args.clusters.now
      (w.is_same-then-is_same.ensures.differs (sym w.result-is ∙ is)) pages clusters
  | else-is_same w ↦
      not_pages c.args.sup.now (map.get c.args.blobs.now.metas) (map.get c.args.blobs.now.chains) c.requires.read
      c.in_ok-used.used c.in_ok-claims.claims.clusters c.in_ok-claims.claims.twice c.in_ok-used.ensures.used
      c.in_ok-claims.ensures.count c.in_ok-claims.ensures.counted c.args.pages.now c.args.clusters.now
      (c.is_same.ensures.differs w.if-is_same.false) pages clusters
]
