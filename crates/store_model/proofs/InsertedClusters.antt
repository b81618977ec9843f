-- The clusters in use once the cluster of a row's claim stands in its slot, and the claim has ended.
use Rattle.std.proofs.Common.{
  ◌≡◌,
  ◌≢◌,
  ◌⊎◌,
  ℕ,
  [],
  Option,
  Some,
  None,
  true,
  false,
  refl,
  sym,
  ap,
  ◌∙◌,
  inl,
  inr,
  subst,
}
use Rattle.bit_array.specs.Bits.{is_in}
use Rattle.md_chain.specs.Chain.{is_among}
use Rattle.store_model.specs.Maps.{Metas}
use Rattle.store_model.specs.Guarding.{AreClaimsDrawn}
use Rattle.store_model.specs.Places.{claimed_by, ClaimsDiffer, HasClaim, IsMapped, UsedClusters}
use Rattle.store_model.specs.Rows.{OpenClaim, Row, Rows, with_row}
use Rattle.store_model.specs.StoreState.{JobState, StoreState}
use Rattle.store_model.proofs.LeftToDo.{no_place}
use Rattle.store_model.proofs.RowsKept.{row_here, row_other}
use Rattle.std.proofs.lemmas.Bool.{cases_eq}

module _ (p : StoreState) (row : ℕ) (next : Row) (claim : OpenClaim) (held : (p.rows row).claim ≡ Some claim)
    (ended : next.claim ≡ None) (job : Option JobState) (none : claimed_by p.job ≡ []) (none_then : claimed_by job ≡ [])
    (used : UsedClusters p.super p.clusters p.base (HasClaim p.rows p.job)) (differ : ClaimsDiffer p.rows p.job)
    (later : Metas) (then_was : (c : ℕ) → IsMapped later c → IsMapped p.base c ⊎ (c ≡ claim.cluster))
    (still : (c : ℕ) → IsMapped p.base c → IsMapped later c) (filled : IsMapped later claim.cluster) where
  abbrev rows : Rows
  rows = with_row p.rows row next

  other : (c : ℕ) (x : OpenClaim) → (rows c).claim ≡ Some x → c ≢ row
  other c x is e =
      let bad = sym is ∙ ap (λ (r : Row). r.claim) (row_here p.rows row next c e) ∙ ended in cc bad

  theirs : (c : ℕ) (x : OpenClaim) → (rows c).claim ≡ Some x → (p.rows c).claim ≡ Some x
  theirs c x is = sym (ap (λ (r : Row). r.claim) (row_other p.rows row next c (other c x is))) ∙ is

  before : (c : ℕ) → HasClaim rows job c → HasClaim p.rows p.job c
  before c (inl x) =
      inl (record { channel = x.channel; claim = x.claim; held = theirs x.channel x.claim x.held; is = x.is })
  before c (inr among) = absurd (no_place (claimed_by job) c among none_then)

  ours : HasClaim p.rows p.job claim.cluster
  ours = inl (record { channel = row; claim = claim; held = held; is = refl })

  not_ours : (c : ℕ) → HasClaim rows job c → c ≢ claim.cluster
  not_ours c (inl x) e =
      other x.channel x.claim x.held
      (differ.rows x.channel row x.claim claim (theirs x.channel x.claim x.held) held (x.is ∙ e))
  not_ours c (inr among) e = no_place (claimed_by job) c among none_then

  pub used_inserted : UsedClusters p.super p.clusters later (HasClaim rows job)
  used_inserted = record {
    count = used.count;
    fixed = used.fixed;
    mapped = λ c m. elim (then_was c m) [
      | inl was ↦ used.mapped c was
      | inr e ↦ subst (λ n. is_in p.clusters n ≡ true) (sym e) (used.claimed_too claim.cluster ours)
    ];
    claimed_too = λ c x. used.claimed_too c (before c x);
    no_other = λ c in_use. elim (used.no_other c in_use) [
      | inl few ↦ inl few
      | inr rest ↦ elim rest [
        | inl m ↦ inr (inl (still c m))
        | inr x ↦ inr (claimed_then c x)
      ]
    ];
    apart = λ c x. (
      (used.apart c (before c x)).0,
      λ m. elim (then_was c m) [ inl was ↦ (used.apart c (before c x)).1 was | inr e ↦ not_ours c x e ],
    );
  }
    where
      claimed_then : (c : ℕ) → HasClaim p.rows p.job c → IsMapped later c ⊎ HasClaim rows job c
      claimed_then c (inl x) = elim (cases_eq x.channel row) [
        | inl e ↦
            let one : claim ≡ x.claim = let both = sym held ∙ ap (λ n. (p.rows n).claim) (sym e) ∙ x.held in cc both in
            inl (subst (IsMapped later) (ap (λ (o : OpenClaim). o.cluster) one ∙ x.is) filled)
        | inr ne ↦ inr (inl (record {
          channel = x.channel;
          claim = x.claim;
          held = ap (λ (r : Row). r.claim) (row_other p.rows row next x.channel ne) ∙ x.held;
          is = x.is;
        }))
      ]
      claimed_then c (inr among) = absurd (no_place (claimed_by p.job) c among none)

  pub differ_inserted : ClaimsDiffer rows job
  differ_inserted = record {
    rows = λ c k x y is too e. differ.rows c k x y (theirs c x is) (theirs k y too) e;
    job = λ c x is. subst (λ l. is_among x.cluster l ≡ false) (sym none_then) refl;
  }

  pub drawn_inserted : AreClaimsDrawn p.rows p.drawn → AreClaimsDrawn rows p.drawn
  drawn_inserted drawn c x is = drawn c x (theirs c x is)
