-- A planned store has a metadata page.
use Rattle.std.proofs.Common.{◌≡◌, ℕ, ◌+◌, ◌*◌, ◌/◌, ◌^◌, ◌<◌, ◌≤◌, [], ◌∷◌, Option, None, Some, refl, sym, ap, subst}
use Rattle.std.proofs.Common.{◌∙◌, inl, inr, arith}
use Rattle.std.specs.Prelude.{nat_lt, IfSome}
use Rattle.std.proofs.lemmas.Bool.{and_parts, cases_lt, ltb-true}
use Rattle.std.proofs.lemmas.Grind.{div_ceil_times}
use Rattle.super_block.specs.Faults.{clusters_fault, pages_fault}
use Rattle.super_block.specs.Layout.{cluster_pages_fault, layout_of, md_pages_of, plan_fault, room_fault, IsPlanned}
use Rattle.super_block.specs.Placed.{IsLaidOut}
use Rattle.super_block.specs.declared.layout.Layout.{Layout}
use Rattle.super_block.proofs.Passed.{all_pass, holds, AllPass}

md_pages_planned : (pages cluster_pages md_pages : ℕ) → (layout_of pages cluster_pages md_pages).md_pages ≡ md_pages
unfolding layout_of
md_pages_planned pages cluster_pages md_pages = refl

clusters_planned : (pages cluster_pages md_pages : ℕ)
    → (layout_of pages cluster_pages md_pages).clusters ≡ pages / cluster_pages
unfolding layout_of
clusters_planned pages cluster_pages md_pages = refl

-- a cluster has a page
some_cluster_page : (plan : Layout) → IsPlanned plan → 0 < plan.cluster_pages
unfolding plan_fault cluster_pages_fault AllPass
some_cluster_page plan is =
    let faults = cluster_pages_fault plan.cluster_pages ∷ pages_fault plan.md_pages
    ∷ clusters_fault (plan.device_pages / plan.cluster_pages)
    ∷ room_fault (layout_of plan.device_pages plan.cluster_pages plan.md_pages) ∷ [] in
    let pass : AllPass faults = all_pass faults is.no_fault in
    ltb-true 0 plan.cluster_pages
    (and_parts (nat_lt 0 plan.cluster_pages) (nat_lt plan.cluster_pages (2 ^ 20)) (holds _ _ pass.0)).0

cluster_pages_planned : (pages cluster_pages md_pages : ℕ)
    → (layout_of pages cluster_pages md_pages).cluster_pages ≡ cluster_pages
unfolding layout_of
cluster_pages_planned pages cluster_pages md_pages = refl

-- the fixed clusters have room for their pages
room : (pages cluster_pages md_pages : ℕ) → 0 < cluster_pages → let plan = layout_of pages cluster_pages md_pages in
    plan.md_start + plan.md_pages ≤ plan.fixed_clusters * cluster_pages
unfolding layout_of
room pages cluster_pages md_pages some =
    let plan = layout_of pages cluster_pages md_pages in
    (div_ceil_times (plan.md_start + plan.md_pages) cluster_pages some).0

-- as many as are asked for, or as many as there are clusters, of which one at least is fixed
pub some_md_page : (pages cluster_pages : ℕ) (asked : Option ℕ) (plan : Layout)
    → plan ≡ layout_of pages cluster_pages (md_pages_of pages cluster_pages asked) → IsPlanned plan
    → IsLaidOut plan → IfSome asked (λ n. 0 < n) → 0 < plan.md_pages
some_md_page pages cluster_pages (Some n) plan is planned laid asks =
    let pages_are : plan.md_pages ≡ n = ap (λ (l : Layout). l.md_pages) is ∙ md_pages_planned pages cluster_pages n in
    omega (arith, pages_are, asks)
some_md_page pages cluster_pages None plan is planned laid asks = elim (cases_lt 0 plan.md_pages) [
  | inl lt ↦ lt
  | inr none ↦ absurd (
      let count = pages / cluster_pages in
      let pages_are : plan.md_pages ≡ count =
      ap (λ (l : Layout). l.md_pages) is ∙ md_pages_planned pages cluster_pages count in
      let clusters_are : plan.clusters ≡ count =
      ap (λ (l : Layout). l.clusters) is ∙ clusters_planned pages cluster_pages count in
      let some : 0 < cluster_pages = subst (λ n. 0 < n)
      (ap (λ (l : Layout). l.cluster_pages) is ∙ cluster_pages_planned pages cluster_pages count)
      (some_cluster_page plan planned) in
      let ends : plan.md_start + plan.md_pages ≤ plan.fixed_clusters * cluster_pages =
      subst (λ (l : Layout). l.md_start + l.md_pages ≤ l.fixed_clusters * cluster_pages) (sym is)
      (room pages cluster_pages count some) in
      let fixed : plan.fixed_clusters ≡ 0 = omega (arith, laid.fixed_clusters, none, pages_are, clusters_are) in
      let past : plan.md_start + plan.md_pages ≤ 0 * cluster_pages =
      subst (λ n. plan.md_start + plan.md_pages ≤ n * cluster_pages) fixed ends in
      omega (arith, past, laid))
]
