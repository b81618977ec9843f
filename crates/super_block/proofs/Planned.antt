-- The super block of a planned store has no fault.
use Rattle.std.proofs.Common.{◌≡◌, ℕ, ◌+◌, ◌*◌, ◌/◌, ◌%◌, ◌^◌, ◌<◌, ◌≤◌, Bool, true, false, List, [], ◌∷◌, Option, Some}
use Rattle.std.proofs.Common.{None, refl, sym, ap, ◌∙◌, subst, arith, eq-eqb}
use Rattle.std.specs.Prelude.{cond, find, option_map, nat_lt, ◌==◌, ◌&&◌}
use Rattle.std.proofs.lemmas.Bool.{lt-ltb, le-leb, leb-true, ltb-true, and_parts}
use Rattle.std.proofs.lemmas.Bool.Decides.{nat_tests}
use Rattle.std.proofs.lemmas.Grind.{div_ceil_times}
use Rattle.std.proofs.Math.Nat.{mul-div-mul_right, mul-div_cancel, mul-le-mul, mul-le-mul_right, lt-div-mul-add}
use Rattle.std.proofs.Math.Nat.{div-mul-le_self}
use Rattle.super_block.specs.declared.fault.SuperFault.{SuperFault}
use Rattle.super_block.specs.declared.fault.SuperFault.TheVariants.{PastEnd, Overlap}
use Rattle.super_block.specs.declared.layout.Layout.{Layout}
use Rattle.super_block.specs.declared.span.Span.{Span}
use Rattle.super_block.specs.Span.{end_of, shares}
use Rattle.super_block.specs.Numbers.{cluster_pages_of, clusters_of, super_page, page_mask, cluster_mask, blob_mask}
use Rattle.super_block.specs.Numbers.{md_region, placed}
use Rattle.super_block.specs.Faults.{first_fault, tests, fault_of, unless, past, short, overlap, overlap_with}
use Rattle.super_block.specs.Faults.{signature_fault, version_fault, page_size_fault, cluster_size_fault, pages_fault}
use Rattle.super_block.specs.Faults.{clusters_fault, size_fault, past_fault, mask_fault, overlap_fault}
use Rattle.super_block.specs.Layout.{layout_of, cluster_pages_fault, room_fault, plan_fault, IsPlanned, new_super}
use Rattle.super_block.specs.Placed.{IsLaidOut}
use Rattle.super_block.proofs.Passed.{AllPass, all_pass, holds, few_clusters}

passes : (test : Bool) (fault : SuperFault) → test ≡ true → unless test fault ≡ None
passes test fault e = ap (λ (b : Bool). unless b fault) e

none_all : (faults : List (Option SuperFault)) → AllPass faults → first_fault faults ≡ None
unfolding AllPass
none_all [] pass = refl
none_all (fault ∷ rest) pass = ap (λ (f : Option SuperFault). first_fault (f ∷ rest)) pass.0 ∙ none_all rest pass.1

not_past : (limit : ℕ) (a : Span) (rest : List Span) → end_of a ≤ limit → past limit rest ≡ None
    → past limit (a ∷ rest) ≡ None
not_past limit a rest le none =
    let e : nat_lt limit (end_of a) ≡ false = grind (arith, nat_tests) in
    ap (λ (b : Bool). option_map (λ (x : Span). PastEnd x.region)
    (cond b (Some a) (find (λ (x : Span). nat_lt limit (end_of x)) rest))) e ∙ none

-- regions that begin at or behind a page
AllFrom : ℕ → List Span → Type 0
AllFrom page [] = Unit {0}
AllFrom page (a ∷ rest) = (page ≤ a.start) × AllFrom page rest

apart_behind : (a : Span) (rest : List Span) → AllFrom (end_of a) rest → overlap_with a rest ≡ None
unfolding AllFrom
apart_behind a [] behind = refl
apart_behind a (b ∷ rest) behind =
    let le : end_of a ≤ b.start = behind.0 in
    let e : shares a b ≡ false = grind (arith, nat_tests) in
    ap (λ (test : Bool). option_map (λ (x : Span). Overlap a.region x.region)
    (cond test (Some b) (find (shares a) rest))) e ∙ apart_behind a rest behind.1

apart_first : (a : Span) (rest : List Span) → AllFrom (end_of a) rest → overlap rest ≡ None → overlap (a ∷ rest) ≡ None
unfolding AllPass
apart_first a rest behind none =
    none_all (overlap_with a rest ∷ overlap rest ∷ []) (apart_behind a rest behind, (none, tt))

-- what a plan without fault says of its numbers
record Plans (device_pages cluster_pages md_pages : ℕ) : Type 0 where
  some_pages : 0 < cluster_pages
  few_pages : cluster_pages < 2 ^ 20
  md : pages_fault md_pages ≡ None
  clusters : clusters_fault (device_pages / cluster_pages) ≡ None
  room : (layout_of device_pages cluster_pages md_pages).fixed_clusters ≤
      (layout_of device_pages cluster_pages md_pages).clusters

plans : (d k md : ℕ) → plan_fault d k md ≡ None → Plans d k md
unfolding plan_fault cluster_pages_fault room_fault AllPass
plans d k md none =
    let all =
    all_pass (cluster_pages_fault k ∷ pages_fault md ∷ clusters_fault (d / k) ∷ room_fault
    (layout_of d k md) ∷ []) none in
    let pages = and_parts _ _ (holds _ _ all.0) in
    record {
      some_pages = ltb-true _ _ pages.0;
      few_pages = ltb-true _ _ pages.1;
      md = all.1.0;
      clusters = all.1.1.0;
      room = leb-true _ _ (holds _ _ all.1.1.1.0);
    }

same_either : (b : Bool) (n : ℕ) → cond b n n ≡ n
same_either true n = refl
same_either false n = refl

clusters-new : (d k md blob : ℕ) (bstype : List ℕ) → clusters_of (new_super (layout_of d k md) blob bstype) ≡ d / k
unfolding clusters_of new_super layout_of
clusters-new d k md blob bstype =
    ap (λ (n : ℕ). n / (k * 4096)) (same_either (d * 4096 == 0) (d * 4096))
    ∙ mul-div-mul_right {m = 4096} d k (omega arith)

pages-new : (d k md blob : ℕ) (bstype : List ℕ) → cluster_pages_of (new_super (layout_of d k md) blob bstype) ≡ k
unfolding cluster_pages_of new_super layout_of
pages-new d k md blob bstype = mul-div_cancel k (omega arith)

-- the metadata region ends in the last cluster, or before
room-new : (d k md : ℕ) → Plans d k md → (layout_of d k md).md_start + md ≤ d / k * k
unfolding layout_of
room-new d k md p =
    let fixed = (div_ceil_times ((layout_of d k md).md_start + md) k p.some_pages).0 in
    let times = mul-le-mul_right k p.room in
    omega (arith, fixed, times)

size-new : (d k md blob : ℕ) (bstype : List ℕ) → Plans d k md
    → cluster_size_fault (new_super (layout_of d k md) blob bstype) ≡ None
unfolding cluster_size_fault new_super layout_of
size-new d k md blob bstype p =
    let some : nat_lt 0 (k * 4096) ≡ true = let lt = p.some_pages in lt-ltb _ _ (omega arith) in
    let whole : (k * 4096 % 4096 == 0) ≡ true = eq-eqb _ _ (omega arith) in
    passes _ _ (ap (λ (b : Bool). b && (k * 4096 % 4096 == 0)) some ∙ whole)

bytes-new : (d k md blob : ℕ) (bstype : List ℕ) → size_fault (new_super (layout_of d k md) blob bstype) ≡ None
unfolding size_fault new_super layout_of
bytes-new d k md blob bstype = passes _ _ (le-leb _ _ (omega arith))

ends-new : (d k md blob : ℕ) (bstype : List ℕ) (limit : ℕ) → (layout_of d k md).md_start + md ≤ limit
    → past limit (placed (new_super (layout_of d k md) blob bstype)) ≡ None
unfolding placed new_super layout_of
ends-new d k md blob bstype limit le =
    let s = new_super (layout_of d k md) blob bstype in
    not_past limit (page_mask s) (cluster_mask s ∷ blob_mask s ∷ md_region s ∷ []) (omega arith)
    (not_past limit (cluster_mask s) (blob_mask s ∷ md_region s ∷ []) (omega arith)
    (not_past limit (blob_mask s) (md_region s ∷ []) (omega arith) (not_past limit (md_region s) [] le refl)))

masks-new : (d k md blob : ℕ) (bstype : List ℕ) → mask_fault (new_super (layout_of d k md) blob bstype) ≡ None
unfolding mask_fault new_super layout_of AllPass
masks-new d k md blob bstype =
    let s = new_super (layout_of d k md) blob bstype in
    let clusters : short (cluster_mask s) (clusters_of s) ≡ None =
    ap (short (cluster_mask s)) (clusters-new d k md blob bstype) ∙ passes _ _ (le-leb _ _ (omega arith)) in
    none_all (short (page_mask s) md ∷ short (cluster_mask s) (clusters_of s) ∷ short (blob_mask s) md ∷ [])
    (passes _ _ (le-leb _ _ (omega arith)), (clusters, (passes _ _ (le-leb _ _ (omega arith)), tt)))

overlaps-new : (d k md blob : ℕ) (bstype : List ℕ) → overlap_fault (new_super (layout_of d k md) blob bstype) ≡ None
unfolding overlap_fault placed new_super layout_of AllFrom
overlaps-new d k md blob bstype =
    let s = new_super (layout_of d k md) blob bstype in
    let from_blob =
    apart_first (blob_mask s) (md_region s ∷ []) (omega arith, tt) (apart_first (md_region s) [] tt refl) in
    let from_cluster =
    apart_first (cluster_mask s) (blob_mask s ∷ md_region s ∷ []) (omega arith, (omega arith, tt)) from_blob in
    let from_page =
    apart_first (page_mask s) (cluster_mask s ∷ blob_mask s ∷ md_region s ∷ [])
    (omega arith, (omega arith, (omega arith, tt))) from_cluster in
    apart_first super_page (page_mask s ∷ cluster_mask s ∷ blob_mask s ∷ md_region s ∷ [])
    (omega arith, (omega arith, (omega arith, (omega arith, tt)))) from_page

-- a planned store's numbers make a super block without fault
pub faultless-new : (d k md blob : ℕ) (bstype : List ℕ) → plan_fault d k md ≡ None
    → fault_of true (new_super (layout_of d k md) blob bstype) ≡ None
unfolding fault_of tests past_fault signature_fault version_fault page_size_fault new_super layout_of AllPass
faultless-new d k md blob bstype none =
    let p = plans d k md none in
    let s = new_super (layout_of d k md) blob bstype in
    let clusters = clusters-new d k md blob bstype in
    let limit : (layout_of d k md).md_start + md ≤ clusters_of s * cluster_pages_of s =
    subst (λ (n : ℕ). (layout_of d k md).md_start + md ≤ n * cluster_pages_of s) (sym clusters)
    (subst (λ (n : ℕ). (layout_of d k md).md_start + md ≤ d / k * n) (sym (pages-new d k md blob bstype))
    (room-new d k md p)) in
    let regions : AllPass (past_fault s ∷ mask_fault s ∷ overlap_fault s ∷ []) =
    (ends-new d k md blob bstype _ limit, (masks-new d k md blob bstype, (overlaps-new d k md blob bstype, tt))) in
    let numbers : (clusters_fault (clusters_of s) ≡ None) × (size_fault s ≡ None) =
    (ap clusters_fault clusters ∙ p.clusters, bytes-new d k md blob bstype) in
    none_all (tests true s)
    (refl, (refl, (refl, (refl, (size-new d k md blob bstype p, (p.md, (numbers.0, (numbers.1, regions))))))))

-- a plan without fault is planned
pub planned : (d k md : ℕ) (plan : Layout) → plan ≡ layout_of d k md → plan_fault d k md ≡ None → IsPlanned plan
unfolding layout_of
planned d k md plan value none = subst IsPlanned (sym value) (record { value = refl; no_fault = none })

-- a planned store's super block has no fault
pub faultless_planned : (plan : Layout) (blob : ℕ) (bstype : List ℕ) → IsPlanned plan
    → fault_of true (new_super plan blob bstype) ≡ None
faultless_planned plan blob bstype is =
    subst (λ (l : Layout). fault_of true (new_super l blob bstype) ≡ None) (sym is.value)
    (faultless-new plan.device_pages plan.cluster_pages plan.md_pages blob bstype is.no_fault)

-- so the bytes of a cluster and of the device are numbers of 32 and of 64 bits
pub few_bytes : (plan : Layout) → IsPlanned plan → (plan.cluster_pages < 2 ^ 20) × (plan.device_pages < 2 ^ 45)
few_bytes plan is =
    let p = plans plan.device_pages plan.cluster_pages plan.md_pages is.no_fault in
    let few = few_clusters (plan.device_pages / plan.cluster_pages) p.clusters in
    let k : plan.cluster_pages ≤ 2 ^ 20 = let lt = p.few_pages in omega arith in
    let whole : plan.device_pages < plan.device_pages / plan.cluster_pages * plan.cluster_pages + plan.cluster_pages =
    lt-div-mul-add p.some_pages in
    (p.few_pages, omega (arith, whole, mul-le-mul few k))

laid_out-new : (d k md : ℕ) → plan_fault d k md ≡ None → IsLaidOut (layout_of d k md)
unfolding layout_of
laid_out-new d k md none =
    let p = plans d k md none in
    let room = room-new d k md p in
    let device = div-mul-le_self d k in
    record {
      page_mask_start = refl;
      page_mask_len = refl;
      cluster_mask_start = refl;
      cluster_mask_len = refl;
      blob_mask_start = refl;
      blob_mask_len = refl;
      md_start = refl;
      inside = omega (arith, room, device);
      fixed_clusters = p.room;
    }

-- a planned store's regions stand one behind the other
pub laid_out : (plan : Layout) → IsPlanned plan → IsLaidOut plan
laid_out plan is =
    subst IsLaidOut (sym is.value) (laid_out-new plan.device_pages plan.cluster_pages plan.md_pages is.no_fault)
