-- The clusters in use once a replacement is made.
use Rattle.std.proofs.Common.{refl, ◌≡◌, ℕ, Bool, true, false, List, [], Option, inl, inr, sym, subst, ◌∙◌, length}
use Rattle.std.proofs.Common.{arith}
use Rattle.store_model.specs.Rows.{Rows}
use Rattle.super_block.specs.declared.page.Super.{Super}
use Rattle.store_model.specs.StoreState.{JobState}
use Rattle.store_model.specs.Maps.{Metas}
use Rattle.store_model.specs.Places.{claimed_by, ClaimsDiffer, UsedClusters, HasClaim, all_set, IsMapped, IsClaimed}
use Rattle.store_model.specs.Jobs.{MovesClusters}
use Rattle.md_chain.specs.Chain.{is_among}
use Rattle.store_model.proofs.Sets.{AllBelow, all_set_out, length_all_set, all_set_in}
use Rattle.bit_array.specs.Bits.{is_in}
use Rattle.std.proofs.lemmas.Bool.{cases_Bool, both_ways}
use Rattle.store_model.proofs.Used.{within}
use Rattle.store_model.specs.Places.{IsMapped}
use Rattle.store_model.proofs.LeftToDo.{no_place}
use Rattle.store_model.proofs.Claims.{claimed_still}

-- The clusters that are let go are clear, those that the job had claimed are in maps, and no row's claim is touched.
pub clusters_moved : (s : Super) (bits : List Bool) (base later : Metas) (freed : List ℕ) (rows others : Rows)
    (job next : Option JobState)
    → ((c : ℕ) → (others c).claim ≡ (rows c).claim) → claimed_by next ≡ []
    → MovesClusters s base later freed (claimed_by job)
    → ClaimsDiffer rows job → UsedClusters s bits base (HasClaim rows job)
    → UsedClusters s (all_set bits freed false) later (HasClaim others next)
clusters_moved s bits base later freed rows others job next same none moves differ u = record {
  count = length_all_set bits freed false ∙ u.count;
  fixed =
      λ c low below. stays c (λ among. let x = (moves.let_go c among).0 in omega (arith, low, x)) ∙ u.fixed c low below;
  mapped = λ c is. stays c (λ among. (moves.let_go c among).2 is) ∙ in_use c is;
  claimed_too = λ c x. elim x [
    | inl row ↦
        let was = claimed_before c row in
        stays c (λ among. (u.apart c (inl was)).1 (moves.let_go c among).1) ∙ u.claimed_too c (inl was)
    | inr among ↦ absurd (no_place (claimed_by next) c among none)
  ];
  no_other = λ c is. elim (cases_Bool (is_among c freed)) [
    | inl among ↦
        absurd (both_ways (is_in (all_set bits freed false) c) (all_set_in bits freed false c low_freed among) is)
    | inr out ↦ elim (u.no_other c (sym (all_set_out bits freed false c out) ∙ is)) [
      | inl low ↦ inl low
      | inr rest ↦ elim rest [
        | inl mapped ↦ elim (moves.kept c mapped) [
          | inl still ↦ inr (inl still)
          | inr gone ↦ absurd (both_ways (is_among c freed) out gone)
        ]
        | inr claimed ↦ elim claimed [
          | inl row ↦ inr (inr (inl (claimed_still rows others same c row)))
          | inr among ↦ inr (inl (moves.filled c among))
        ]
      ]
    ]
  ];
  apart = λ c x. elim x [
    | inl row ↦
        let was = claimed_before c row in
        let old = u.apart c (inl was) in (
          old.0,
          λ is. elim (moves.gained c is) [
            | inl mapped ↦ old.1 mapped
            | inr among ↦
                both_ways (is_among row.claim.cluster (claimed_by job))
                (differ.job row.channel row.claim (sym (same row.channel) ∙ row.held))
                (subst (λ n. is_among n (claimed_by job) ≡ true) (sym row.is) among)
          ],
        )
    | inr among ↦ absurd (no_place (claimed_by next) c among none)
  ];
}
  where
    claimed_before : (c : ℕ) → IsClaimed others c → IsClaimed rows c
    claimed_before = claimed_still others rows (λ c. sym (same c))

    low_freed : AllBelow (length bits) freed
    low_freed x is = within bits x (u.mapped x (moves.let_go x is).1)

    stays : (c : ℕ) → (is_among c freed ≡ true → ⊥) → is_in (all_set bits freed false) c ≡ is_in bits c
    stays c free = elim (cases_Bool (is_among c freed)) [
      | inl among ↦ absurd (free among)
      | inr out ↦ all_set_out bits freed false c out
    ]

    in_use : (c : ℕ) → IsMapped later c → is_in bits c ≡ true
    in_use c is = elim (moves.gained c is) [ inl mapped ↦ u.mapped c mapped | inr among ↦ u.claimed_too c (inr among) ]

-- a job whose claims have ended, and rows with the claims that they had
pub differ_committed : (rows others : Rows) (job next : Option JobState) → ((c : ℕ) → (others c).claim ≡ (rows c).claim)
    → claimed_by next ≡ []
    → ClaimsDiffer rows job → ClaimsDiffer others next
differ_committed rows others job next same none differ = record {
  rows = λ c k x y held held_too e. differ.rows c k x y (sym (same c) ∙ held) (sym (same k) ∙ held_too) e;
  job = λ c x held. subst (λ l. is_among x.cluster l ≡ false) (sym none) refl;
}
