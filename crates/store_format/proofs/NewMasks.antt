-- The masks of a new store are what its metadata claims.
use Rattle.std.proofs.Common.{◌≡◌, ◌≢◌, ℕ, zero, suc, ◌+◌, ◌-◌, ◌*◌, ◌/◌, ◌<◌, ◌≤◌, Bool, true, false, List, [], ◌∷◌}
use Rattle.std.proofs.Common.{length, replicate, Option, Some, None, IsSome, refl, sym, ap, subst, ◌∙◌, inl}
use Rattle.std.proofs.Common.{inr, length-append, arith}
use Rattle.std.specs.Prelude.{◌==◌, ◌↔◌, cond, slice_set}
use Rattle.std.specs.Int.{div_ceil}
use Rattle.std.proofs.Math.Nat.{mul-div-mul_right, mul-div_cancel}
use Rattle.std.proofs.lemmas.Bool.{both_ways, cases_eq, cases_lt, eqb-true, or_cases}
use Rattle.std.proofs.lemmas.List.{get_or-replicate, get_or-set_other, get_or-set_same, get_or_past, length-replicate}
use Rattle.std.proofs.lemmas.List.{get_or_append_left, get_or-append_right, length-set}
use Rattle.bit_array.specs.Bits.{first_of, is_in}
use Rattle.md_chain.specs.Chain.{is_among}
use Rattle.running_store.specs.LoadedWhole.{AreMasks}
use Rattle.super_block.specs.Layout.{IsPlanned, layout_of, new_super}
use Rattle.super_block.specs.Numbers.{cluster_pages_of, clusters_of, fixed_clusters_of, placed, super_page}
use Rattle.super_block.specs.Placed.{IsLaidOut}
use Rattle.super_block.specs.Span.{greatest_end}
use Rattle.super_block.specs.declared.layout.Layout.{Layout}
use Rattle.super_block.specs.declared.page.Super.{Super}
use Rattle.store_model.specs.Maps.{Metas}
use Rattle.store_model.specs.Places.{IsMapped, Unclaimed, UsedClusters, UsedPages}
use Rattle.store_format.specs.NewStore.{first_masks, first_super}
use Rattle.store_format.specs.SuperBlob.{new_chains, new_metas, super_blob_page_of}
use Rattle.store_format.specs.declared.super_blob.StoreName.{StoreName}

-- ---- the numbers of the super block

-- a super block of a layout, with the sum of its page
abbrev laid : ℕ → ℕ → ℕ → ℕ → List ℕ → ℕ → Super
laid d k md blob bstype sum = record (new_super (layout_of d k md) blob bstype) { crc = sum }

same_either : (b : Bool) (n : ℕ) → cond b n n ≡ n
same_either true n = refl
same_either false n = refl

clusters_laid : (d k md blob : ℕ) (bstype : List ℕ) (sum : ℕ)
    → clusters_of (laid d k md blob bstype sum) ≡ (layout_of d k md).clusters
unfolding clusters_of new_super layout_of
clusters_laid d k md blob bstype sum =
    ap (λ (n : ℕ). n / (k * 4096)) (same_either (d * 4096 == 0) (d * 4096))
    ∙ mul-div-mul_right {m = 4096} d k (omega arith)

greatest_laid : (d k md blob : ℕ) (bstype : List ℕ) (sum : ℕ)
    → greatest_end (super_page ∷ placed (laid d k md blob bstype sum)) ≡ (layout_of d k md).md_start + md
unfolding placed new_super layout_of
greatest_laid d k md blob bstype sum = omega arith

pages_laid : (d k md blob : ℕ) (bstype : List ℕ) (sum : ℕ) → cluster_pages_of (laid d k md blob bstype sum) ≡ k
unfolding cluster_pages_of new_super layout_of
pages_laid d k md blob bstype sum = mul-div_cancel k (omega arith)

ceil_laid : (d k md : ℕ) → (layout_of d k md).fixed_clusters ≡ div_ceil ((layout_of d k md).md_start + md) k
unfolding layout_of
ceil_laid d k md = refl

fixed_laid : (d k md blob : ℕ) (bstype : List ℕ) (sum : ℕ)
    → fixed_clusters_of (laid d k md blob bstype sum) ≡ (layout_of d k md).fixed_clusters
unfolding fixed_clusters_of
fixed_laid d k md blob bstype sum =
    ap (λ (n : ℕ). div_ceil n (cluster_pages_of (laid d k md blob bstype sum))) (greatest_laid d k md blob bstype sum)
    ∙ ap (div_ceil ((layout_of d k md).md_start + md)) (pages_laid d k md blob bstype sum)
    ∙ sym (ceil_laid d k md)

-- a planned super block has the clusters of its layout
record HasClusters (plan : Layout) (s : Super) : Type 0 where
  all : clusters_of s ≡ plan.clusters
  fixed : fixed_clusters_of s ≡ plan.fixed_clusters

has_clusters : (plan : Layout) → IsPlanned plan → (blob : ℕ) (bstype : List ℕ) (sum : ℕ)
    → HasClusters plan (record (new_super plan blob bstype) { crc = sum })
has_clusters plan is blob bstype sum =
    subst (λ (p : Layout). HasClusters p (record (new_super p blob bstype) { crc = sum })) (sym is.value) (record {
      all = clusters_laid plan.device_pages plan.cluster_pages plan.md_pages blob bstype sum;
      fixed = fixed_laid plan.device_pages plan.cluster_pages plan.md_pages blob bstype sum;
    })

first_clusters : (plan : Layout) → IsPlanned plan → (blob : Option (List ℕ)) (sum : ℕ)
    → HasClusters plan (record (first_super plan blob) { crc = sum })
first_clusters plan is None sum = has_clusters plan is _ _ sum
first_clusters plan is (Some page) sum = has_clusters plan is _ _ sum

-- ---- sets of places

-- no place is in an empty set
none_in : (n p : ℕ) → is_in (replicate n false) p ≡ false
none_in n p = elim (cases_lt p n) [
  | inl lt ↦ get_or-replicate n p false false lt
  | inr le ↦ get_or_past (replicate n false) p false (rw length-replicate le)
]

-- the first place alone
first_in : (n : ℕ) → 0 < n → is_in (slice_set (replicate n false) 0 true) 0 ≡ true
first_in n some = get_or-set_same (replicate n false) 0 true false (rw length-replicate some)

others_out : (n p : ℕ) → p ≢ 0 → is_in (slice_set (replicate n false) 0 true) p ≡ false
others_out n p ne = get_or-set_other (replicate n false) 0 p true false ne ∙ none_in n p

-- so many first places
below_in : (count len p : ℕ) → p < count → is_in (first_of count len) p ≡ true
below_in count len p lt =
    get_or_append_left (replicate count true) (replicate (len - count) false) false p (rw length-replicate lt)
    ∙ get_or-replicate count p true false lt

behind_out : (count len p : ℕ) → count ≤ p → is_in (first_of count len) p ≡ false
behind_out count len p le =
    get_or-append_right (replicate count true) (replicate (len - count) false) count p false
    (length-replicate count true) le
    ∙ none_in (len - count) (p - count)

long_first : (count len : ℕ) → count ≤ len → length (first_of count len) ≡ len
long_first count len le =
    length-append (replicate count true) (replicate (len - count) false)
    ∙ (let a = length-replicate count true in let b = length-replicate (len - count) false in omega (arith, a, b, le))

-- ---- what is claimed

used_pages : (plan : Layout) (some : 0 < plan.md_pages) (named : Option StoreName)
    → UsedPages plan.md_pages (first_masks plan (super_blob_page_of named)).pages (new_chains named) []
used_pages plan some None = record {
  count = length-replicate plan.md_pages false;
  linked = λ place x. absurd (let bad = x.chain in cc bad);
  held_too = λ place held. absurd (let bad : false ≡ true = held in cc bad);
  no_other = λ place is. absurd (both_ways _ (none_in plan.md_pages place) is);
  apart = λ place held. absurd (let bad : false ≡ true = held in cc bad);
}
used_pages plan some (Some named) = record {
  count = length-set (replicate plan.md_pages false) 0 true ∙ length-replicate plan.md_pages false;
  linked = λ place x. of_first place x.head x.pages x.chain x.among;
  held_too = λ place held. absurd (let bad : false ≡ true = held in cc bad);
  no_other = λ place is. elim (cases_eq place 0) [
    | inl e ↦ inl (record { head = 0; pages = 0 ∷ []; chain = refl; among = rw e refl })
    | inr ne ↦ absurd (both_ways _ (others_out plan.md_pages place ne) is)
  ];
  apart = λ place held. absurd (let bad : false ≡ true = held in cc bad);
}
  where
    is_first : (place : ℕ) → is_among place (0 ∷ []) ≡ true → place ≡ 0
    is_first place is = elim (or_cases (0 == place) false is) [
      | inl e ↦ sym (eqb-true 0 place e)
      | inr never ↦ absurd (cc never)
    ]

    of_first : (place head : ℕ) (pages : List ℕ) → new_chains (Some named) head ≡ Some pages
        → is_among place pages ≡ true → is_in (slice_set (replicate plan.md_pages false) 0 true) place ≡ true
    of_first place zero pages chain among =
        let one : 0 ∷ [] ≡ pages = cc chain in
        let e = is_first place (subst (λ (l : List ℕ). is_among place l ≡ true) (sym one) among) in
        ap (is_in (slice_set (replicate plan.md_pages false) 0 true)) e ∙ first_in plan.md_pages some
    of_first place (suc head) pages chain among = absurd (cc chain)

used_clusters : (plan : Layout) → IsLaidOut plan → (s : Super) → HasClusters plan s → (blob : Option (List ℕ))
    → (metas : Metas) → ((c : ℕ) → IsMapped metas c → ⊥)
    → UsedClusters s (first_masks plan blob).clusters metas Unclaimed
used_clusters plan laid s has blob metas none =
    subst (λ (bits : List Bool). UsedClusters s bits metas Unclaimed) (same_set blob) (record {
      count = long_first plan.fixed_clusters plan.clusters laid.fixed_clusters ∙ sym has.all;
      fixed = λ c lt below. below_in plan.fixed_clusters plan.clusters c (let e = has.fixed in omega (arith, lt, e));
      mapped = λ c mapped. absurd (none c mapped);
      claimed_too = λ c bad. absurd bad;
      no_other = λ c is. elim (cases_lt c plan.fixed_clusters) [
        | inl lt ↦ inl (let e = has.fixed in omega (arith, lt, e))
        | inr le ↦ absurd (both_ways _ (behind_out plan.fixed_clusters plan.clusters c le) is)
      ];
      apart = λ c bad. absurd bad;
    })
  where
    same_set : (blob : Option (List ℕ)) → first_of plan.fixed_clusters plan.clusters ≡ (first_masks plan blob).clusters
    same_set None = refl
    same_set (Some page) = refl

heads_in : (plan : Layout) (some : 0 < plan.md_pages) (named : Option StoreName) (head : ℕ)
    → (is_in (first_masks plan (super_blob_page_of named)).blobs head ≡ true) ↔ IsSome (new_metas named head)
heads_in plan some None head = (
  λ is. absurd (both_ways _ (none_in plan.md_pages head) is),
  λ there. absurd (let bad : false ≡ true = there in cc bad),
)
heads_in plan some (Some named) zero = (λ _. refl, λ _. first_in plan.md_pages some)
heads_in plan some (Some named) (suc head) = (
  λ is. absurd (both_ways _ (others_out plan.md_pages (suc head) (λ e. absurd (omega (arith, e)))) is),
  λ there. absurd (let bad : false ≡ true = there in cc bad),
)

heads_long : (plan : Layout) (blob : Option (List ℕ)) → length (first_masks plan blob).blobs ≡ plan.md_pages
heads_long plan None = length-replicate plan.md_pages false
heads_long plan (Some page) =
    length-set (replicate plan.md_pages false) 0 true ∙ length-replicate plan.md_pages false

pub clusters_long : (plan : Layout) → IsLaidOut plan → (blob : Option (List ℕ))
    → length (first_masks plan blob).clusters ≡ plan.clusters
clusters_long plan laid None = long_first plan.fixed_clusters plan.clusters laid.fixed_clusters
clusters_long plan laid (Some page) = long_first plan.fixed_clusters plan.clusters laid.fixed_clusters

-- the masks of a new store are what its metadata claims
pub are_masks : (plan : Layout) → IsPlanned plan → IsLaidOut plan → 0 < plan.md_pages → (named : Option StoreName)
    → (sum : ℕ) (s : Super) → s ≡ record (first_super plan (super_blob_page_of named)) { crc = sum } → s.md_len
    ≡ plan.md_pages
    → ((c : ℕ) → IsMapped (new_metas named) c → ⊥)
    → AreMasks s (new_metas named) (new_chains named) (first_masks plan (super_blob_page_of named))
are_masks plan planned laid some named sum s is long none =
    let has : HasClusters plan s =
    subst (HasClusters plan) (sym is) (first_clusters plan planned (super_blob_page_of named) sum) in
    record {
      pages =
          subst (λ (n : ℕ). UsedPages n (first_masks plan (super_blob_page_of named)).pages (new_chains named) [])
          (sym long)
          (used_pages plan some named);
      clusters = used_clusters plan laid s has (super_blob_page_of named) (new_metas named) none;
      count = heads_long plan (super_blob_page_of named) ∙ sym long;
      blobs = λ head _. heads_in plan some named head;
    }
