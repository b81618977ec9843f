-- A job that overwrites the pages of claimed clusters with zeros first.
use Rattle.std.proofs.Common.{◌≡◌, ℕ, ◌+◌, ◌-◌, ◌*◌, ◌/◌, ◌%◌, ◌<◌, ◌++◌, true, List, [], ◌∷◌, length, map, None}
use Rattle.std.proofs.Common.{refl, sym, ap, ◌∙◌, subst, inl, inr, arith, Option}
use Rattle.std.proofs.lemmas.Bool.{both_ways, cases_Bool}
use Rattle.std.proofs.lemmas.Nat.{div-add-mod', div-mul-add}
use Rattle.std.proofs.Math.Nat.{mod-lt}
use Rattle.std.specs.List.{range_with_len}
use Rattle.bit_array.specs.Bits.{is_in}
use Rattle.page_disk.specs.Disk.{Image}
use Rattle.super_block.specs.declared.page.Super.{Super}
use Rattle.super_block.specs.Numbers.{cluster_pages_of}
use Rattle.volume_model.specs.Xattrs.{Xattrs}
use Rattle.volume_model.specs.declared.command.Command.{Command}
use Rattle.md_chain.specs.Chain.{is_among}
use Rattle.store_model.specs.Maps.{Chains, Map, Metas}
use Rattle.store_model.specs.Phases.{behind, Phase, has_commit, held_in, Zeros}
use Rattle.store_model.specs.Jobs.{pages_in, zeros_in, Does, Lays}
use Rattle.store_model.specs.Places.{
  all_set,
  claimed_by,
  AreLeastClear,
  ClaimsDiffer,
  HasClaim,
  IsClaimed,
  UsedClusters,
}
use Rattle.store_model.specs.Rows.{Rows}
use Rattle.store_model.specs.RunInvariant.{RunsWell}
use Rattle.store_model.specs.StoreState.{JobState}
use Rattle.store_model.proofs.ClaimedZeros.{claimed_far, claimed_free}
use Rattle.store_model.proofs.Claims.{claimed_still}
use Rattle.store_model.proofs.InARow.{among_range, range_among}
use Rattle.store_model.proofs.Known.{Known}
use Rattle.store_model.proofs.LeftToDo.{among_left, among_right, among_split, no_place}
use Rattle.store_model.proofs.Sets.{all_set_in, all_set_out, among_either, among_first, among_later, length_all_set}
use Rattle.store_model.proofs.Sets.{were_clear, AllBelow}

-- ---- what is behind these phases

pub commit_zeros : (pages : List ℕ) (rest : List Phase) → has_commit (map Zeros pages ++ rest) ≡ has_commit rest
commit_zeros [] rest = refl
commit_zeros (x ∷ xs) rest = commit_zeros xs rest

pub held_zeros : (pages : List ℕ) (rest : List Phase) → held_in (map Zeros pages ++ rest) ≡ held_in rest
held_zeros [] rest = refl
held_zeros (x ∷ xs) rest = held_zeros xs rest

pub zeros_are : (pages : List ℕ) (rest : List Phase) → zeros_in (map Zeros pages ++ rest) ≡ pages ++ zeros_in rest
zeros_are [] rest = refl
zeros_are (x ∷ xs) rest = ap (λ l. x ∷ l) (zeros_are xs rest)

pub leads_zeros : (base : Metas) (pages : List ℕ) (rest : List Phase)
    → behind base (map Zeros pages ++ rest) ≡ behind base rest
leads_zeros base [] rest = refl
leads_zeros base (x ∷ xs) rest = leads_zeros base xs rest

pub does_zeros : (Holds : Image → Type 0) (s : Super) (base : Metas) (live : Map Xattrs) (command : Command)
    (pages : List ℕ) (rest : List Phase) → Does Holds s base live command rest
    → Does Holds s base live command (map Zeros pages ++ rest)
does_zeros Holds s base live command [] rest does = does
does_zeros Holds s base live command (x ∷ xs) rest does = does_zeros Holds s base live command xs rest does

pub lays_zeros : (s : Super) (base : Metas) (chains : Chains) (claimed written pages : List ℕ) (rest : List Phase)
    → ((page : ℕ) → is_among page pages ≡ true → is_among (page / cluster_pages_of s) claimed ≡ true)
    → Lays s base chains claimed written rest → Lays s base chains claimed written (map Zeros pages ++ rest)
lays_zeros s base chains claimed written [] rest all lays = lays
lays_zeros s base chains claimed written (x ∷ xs) rest all lays = (
  all x (among_first x xs),
  lays_zeros s base chains claimed written xs rest (λ page among. all page (among_later page x xs among)) lays,
)

-- ---- the pages of clusters

module _ (s : Super) (some : 0 < cluster_pages_of s) where
  abbrev k : ℕ
  k = cluster_pages_of s

  pub of_cluster : (clusters : List ℕ) (page : ℕ) → is_among page (pages_in s clusters) ≡ true
      → is_among (page / k) clusters ≡ true
  of_cluster [] page among = absurd (cc among)
  of_cluster (c ∷ cs) page among =
      elim (among_split page (range_with_len (c * k) k) (pages_in s cs) among) [
        | inl here ↦
            let x = among_range (c * k) k page here in
            let le = x.0 in
            let lt = x.1 in
            let row : page / k ≡ c =
            ap (λ n. n / k) (let split : page ≡ c * k + (page - c * k) = omega (arith, le) in split)
            ∙ div-mul-add c k (page - c * k) (omega (arith, le, lt)) in
            subst (λ n. is_among n (c ∷ cs) ≡ true) (sym row) (among_first c cs)
        | inr later ↦ among_later (page / k) c cs (of_cluster cs page later)
      ]

  pub all_pages : (clusters : List ℕ) (page : ℕ) → is_among (page / k) clusters ≡ true
      → is_among page (pages_in s clusters) ≡ true
  all_pages [] page among = absurd (cc among)
  all_pages (c ∷ cs) page among = elim (among_either (page / k) c cs among) [
    | inl e ↦
        let whole : c * k + page % k ≡ page = ap (λ n. n * k + page % k) (sym e) ∙ div-add-mod' page k in
        let low = mod-lt page some in
        among_left page (range_with_len (c * k) k) (pages_in s cs)
        (range_among (c * k) k page (omega (arith, whole)) (omega (arith, whole, low)))
    | inr later ↦ among_right page (range_with_len (c * k) k) (pages_in s cs) (all_pages cs page later)
  ]

-- ---- the clusters are taken

module _ (known : Known) where
  open known use {s, placed, first, script, p, facts}

  module _ (runs : p.stopped ≡ None) (no_job : p.job ≡ None) (claimed : List ℕ)
      (least : AreLeastClear p.clusters claimed) (rows : Rows)
      (same : (c : ℕ) → (rows c).claim ≡ (p.rows c).claim) (job : Option JobState) (job_is : claimed_by job ≡ claimed)
    where
      well : RunsWell first p
      well = facts.well runs

      low : AllBelow (length p.clusters) claimed
      low x is = (were_clear p.clusters claimed least x is).below

      keeps : (x : ℕ) → is_in p.clusters x ≡ true → is_in (all_set p.clusters claimed true) x ≡ true
      keeps x is = elim (cases_Bool (is_among x claimed)) [
        | inl among ↦ all_set_in p.clusters claimed true x low among
        | inr out ↦ all_set_out p.clusters claimed true x out ∙ is
      ]

      here : (c : ℕ) → is_among c (claimed_by job) ≡ true → is_among c claimed ≡ true
      here c among = sym (ap (is_among c) job_is) ∙ among

      back : (c : ℕ) → IsClaimed rows c → IsClaimed p.rows c
      back = claimed_still rows p.rows (λ c. sym (same c))

      pub clusters_claimed : UsedClusters p.super (all_set p.clusters claimed true) p.base (HasClaim rows job)
      clusters_claimed = record {
        count = length_all_set p.clusters claimed true ∙ well.clusters.count;
        fixed = λ c fixed below. keeps c (well.clusters.fixed c fixed below);
        mapped = λ c is. keeps c (well.clusters.mapped c is);
        claimed_too = λ c x. elim x [
          | inl row ↦ keeps c (well.clusters.claimed_too c (inl (back c row)))
          | inr among ↦ all_set_in p.clusters claimed true c low (here c among)
        ];
        no_other = λ c is. elim (cases_Bool (is_among c claimed)) [
          | inl among ↦ inr (inr (inr (ap (is_among c) job_is ∙ among)))
          | inr out ↦ elim (well.clusters.no_other c (sym (all_set_out p.clusters claimed true c out) ∙ is)) [
            | inl fixed ↦ inl fixed
            | inr rest ↦ elim rest [
              | inl mapped ↦ inr (inl mapped)
              | inr claim ↦ elim claim [
                | inl row ↦ inr (inr (inl (claimed_still p.rows rows same c row)))
                | inr among ↦ absurd (no_place (claimed_by p.job) c among (ap claimed_by no_job))
              ]
            ]
          ]
        ];
        apart = λ c x. elim x [
          | inl row ↦ well.clusters.apart c (inl (back c row))
          | inr among ↦ (
            (claimed_far known runs claimed least c (here c among)).0,
            claimed_free known runs claimed least c (here c among),
          )
        ];
      }

      pub claims_differ : ClaimsDiffer rows job
      claims_differ = record {
        rows = λ c n x y held held_too e. well.claims.rows c n x y (sym (same c) ∙ held) (sym (same n) ∙ held_too) e;
        job = λ c x held. ap (is_among x.cluster) job_is ∙ elim (cases_Bool (is_among x.cluster claimed)) [
          | inl among ↦ absurd (both_ways (is_in p.clusters x.cluster)
              (were_clear p.clusters claimed least x.cluster among).clear
              (well.clusters.claimed_too x.cluster (inl (record {
                channel = c;
                claim = x;
                held = sym (same c) ∙ held;
                is = refl;
              }))))
          | inr out ↦ out
        ];
      }
