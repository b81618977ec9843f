use Rattle.std.proofs.Common.{◌↔◌, true, ◌<◌, length, [], ◌≡◌, ◌⊎◌, ℕ, Bool, List, None, IsSome, sym, subst, ap}
use Rattle.std.proofs.Common.{◌∙◌}
use Rattle.std.specs.FinMap as map
use Rattle.bit_array.specs.Bits.{is_in}
use Rattle.std.proofs.Math.ListN.{get_or-eq_default}
use Rattle.store_model.specs.Places.{held_by, Unclaimed, UsedClusters, UsedPages, claimed_by}
use Rattle.store_model.specs.Rows.{Ended, Row}
use Rattle.running_store.specs.Running.{view_of}
use Rattle.running_store.specs.StoreView.{StoreView, WithOpening, base_of, rows_of, state_of}
use Rattle.running_store.specs.LoadedWhole.{AreMasks, without_first}
use Rattle.running_store.proofs.ClaimsCleared.{all_given_back}
use Rattle.store_core.proofs.Posting.{job_over}
use Rattle.store_core.proofs.plant.Plant.into_parts.Goals as goal

pub returns-clause-masks : goal.returns-clause-masks
returns-clause-masks g c =
    let d = g.D.PageDisk in
    let running = c.self.inside.running in
    let p : StoreView g.row.D.Denot = view_of running in
    let masks = c.into_parts.result.masks in
    let is = c.into_parts.ensures in
    let no_job : (p.job ≡ None) ⊎ IsSome p.stopped = subst (λ (b : WithOpening g.row.D.Denot). (b.at.job ≡ None)
    ⊎ IsSome b.at.stopped) (sym c.self.view_is) c.requires.no_job in
    subst (λ (b : WithOpening g.row.D.Denot). b.at.stopped ≡ None
    → AreMasks b.at.super (base_of b.at.metas b.at.marked) (map.get b.at.chains) masks) c.self.view_is
    (λ runs.
    let well = c.self.invariant.0.facts.well runs in
    let heads = c.self.invariant.1.heads in
    let used : UsedPages p.super.md_len p.pages (map.get p.chains) [] =
    subst (UsedPages p.super.md_len p.pages (map.get p.chains)) (ap held_by (job_over p no_job runs)) well.pages in
    let clear = without_first p.clusters (rows_of p.rows) (length p.rows) in
    let mapped : UsedClusters p.super clear (base_of p.metas p.marked) Unclaimed =
    all_given_back (state_of d p) _ well (ap claimed_by (job_over p no_job runs)) (length p.rows)
    (λ c past. ap (λ (r : Row). r.claim)
    (get_or-eq_default p.rows (record { left = []; stage = Ended; claim = None }) past)) in
    record {
      pages = subst (λ (bits : List Bool). UsedPages p.super.md_len bits (map.get p.chains) []) (sym is.pages) used;
      clusters =
          subst (λ (bits : List Bool). UsedClusters p.super bits (base_of p.metas p.marked) Unclaimed) (sym is.clusters)
          mapped;
      count = ap (λ (bits : List Bool). length bits) is.heads ∙ heads.count;
      blobs = subst (λ (bits : List Bool). (head : ℕ) → head < p.super.md_len
          → (is_in bits head ≡ true) ↔ IsSome (base_of p.metas p.marked head)) (sym is.heads) heads.are;
    })
