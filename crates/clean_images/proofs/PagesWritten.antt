-- Which pages turns write: on a store that is clean those behind the fixed clusters alone, and never the super block
-- but to mark it.
use Rattle.std.proofs.Common.{◌≡◌, ◌≢◌, ℕ, ◌+◌, ◌*◌, ◌/◌, ◌%◌, ◌≤◌, ◌<◌, true, Some, sym, ap, ◌∙◌}
use Rattle.std.proofs.Common.{subst, ◌∷◌, ◌++◌, Option, refl, arith}
use Rattle.std.proofs.Math.Nat.{mul-le-mul_right}
use Rattle.super_block.specs.Numbers.{cluster_pages_of, fixed_clusters_of}
use Rattle.super_block.specs.declared.page.Super.{Super}
use Rattle.md_chain.specs.Chain.{is_among}
use Rattle.md_chain.specs.declared.plan.PlannedPage.{PlannedPage}
use Rattle.shown_volumes.proofs.Inside.{inside_slot}
use Rattle.store_model.specs.Cases.WritePage.{WritesAt}
use Rattle.store_model.specs.Jobs.{CanReplace, gained_by, JobStands, Lays, IsLeftOfInsert}
use Rattle.store_model.specs.Phases.{Committing, Phase, Replaces, Replacing, taken_by, taken_in, Zeros}
use Rattle.store_model.specs.Places.{claimed_by, held_by, UsedPages}
use Rattle.store_model.specs.RunInvariant.{AreStored, RunsWell}
use Rattle.store_model.specs.StoreState.{JobState}
use Rattle.store_model.specs.Turning.{page_of_place, put_by, Runs}
use Rattle.store_model.proofs.JobKept.{claimed_behind, held_is, held_low}
use Rattle.store_model.proofs.Known.{Known}
use Rattle.store_model.proofs.LeftToDo.{put_quiet}
use Rattle.store_model.proofs.Moved.{inserted_none}
use Rattle.store_model.proofs.ReplacedBlob.{low_replaced}
use Rattle.store_model.proofs.Shows.{resolved_faultless}
use Rattle.store_model.proofs.StandsKept.{super_outside}

-- a page of a cluster behind the fixed ones lies behind their pages
in_cluster : (fixed cluster k rest : ℕ) → fixed ≤ cluster → fixed * k ≤ cluster * k + rest
in_cluster fixed cluster k rest le = let m = mul-le-mul_right k le in omega (arith, m)

module _ (known : Known) where
  open known use {s, placed, first, script, p, facts}

  -- a page that lies behind the fixed clusters of the store
  of_store : (page : ℕ) → fixed_clusters_of p.super * cluster_pages_of p.super ≤ page
      → fixed_clusters_of s * cluster_pages_of s ≤ page
  of_store page = subst (λ (x : Super). fixed_clusters_of x * cluster_pages_of x ≤ page) facts.super

  -- a page of the metadata region isn't the super block
  in_region : (place : ℕ) → place < s.md_len → 0 ≢ page_of_place p place
  in_region place low e = super_outside s placed place low (e ∙ ap (λ (x : Super). x.md_start + place) facts.super)

  -- a page of a volume that is written in place lies behind the fixed clusters
  pub volume_behind : (at : WritesAt p) → fixed_clusters_of s * cluster_pages_of s ≤ at.place
  volume_behind at =
      let stored : AreStored p.super p.base =
      subst (λ (x : Super). AreStored x p.base) (sym facts.super) facts.stored in
      let lies = at.lies in
      let inside = inside_slot _ _ lies.meta (at.page / cluster_pages_of p.super) lies.cluster
      (resolved_faultless p.super p.base stored at.head lies.meta lies.there) lies.in_slot in
      of_store at.place (subst (λ n. fixed_clusters_of p.super * cluster_pages_of p.super ≤ n) (sym lies.place_is)
      (in_cluster (fixed_clusters_of p.super) lies.cluster (cluster_pages_of p.super)
      (at.page % cluster_pages_of p.super) inside.behind))

  module _ {phase : Phase} (running : Runs p phase) where
    abbrev j : JobState
    j = running.job

    well : RunsWell first p
    well = facts.well running.runs

    stood : JobStands p j
    stood = well.job j running.is

    lays : Lays p.super p.base p.chains (gained_by p.rows j) j.written (phase ∷ running.rest)
    lays = subst (Lays p.super p.base p.chains (gained_by p.rows j) j.written) running.next stood.lays

    -- nor is what a job writes to the places that it holds
    pub put_outside : (put : PlannedPage) → put_by j phase ≡ Some put → 0 ≢ page_of_place p put.place
    put_outside put is =
        let quiet = put_quiet p.super p.base p.chains (gained_by p.rows j) j phase running.rest running.next stood.lays
        put is in
        in_region put.place (held_low known well (held_by p.job) refl put.place
        (ap (λ o. is_among put.place (held_by o)) running.is ∙ quiet.is_held))

  -- a page that a job overwrites with zeros lies behind the fixed clusters
  pub zeroed_behind : (page : ℕ) → Runs p (Zeros page) → fixed_clusters_of s * cluster_pages_of s ≤ page
  zeroed_behind page running =
      let j = running.job in
      let none = inserted_none p.rows j.serves
      (λ row serves. subst (IsLeftOfInsert p row) running.next ((stood running).inserts row serves).puts) in
      let among : is_among (page / cluster_pages_of p.super) (claimed_by p.job) ≡ true =
      ap (λ o. is_among (page / cluster_pages_of p.super) (claimed_by o)) running.is
      ∙ subst (λ l. is_among (page / cluster_pages_of p.super) (l ++ j.claimed) ≡ true) none (lays running).0 in
      of_store page (claimed_behind known (well running) page among)

  -- a head isn't the super block
  pub head_outside : (r : Replacing) (commit : Option Committing) → Runs p (Replaces r commit)
      → 0 ≢ page_of_place p r.head
  head_outside r commit running =
      let can : CanReplace p.super p.base p.chains (gained_by p.rows running.job) running.job.written r =
      (lays running).0 in
      let used : UsedPages p.super.md_len p.pages p.chains (taken_by r ++ taken_in running.rest) =
      subst (UsedPages p.super.md_len p.pages p.chains)
      (held_is known running.job running.is (Replaces r commit) running.rest running.next) (well running).pages in
      in_region r.head (subst (λ (x : Super). r.head < x.md_len) facts.super
      (low_replaced p.super p.base p.chains (well running).chains p.pages r (taken_in running.rest) can.chain
      can.unerased can.gone used (λ m is. (can.stored m is).low)))
