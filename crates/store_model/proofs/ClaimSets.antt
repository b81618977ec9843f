-- The clusters in use as a row claims one, or gives its claim back.
use Rattle.std.proofs.Common.{
  ◌≡◌,
  ◌≢◌,
  ℕ,
  ◌<◌,
  ◌≤◌,
  Bool,
  true,
  false,
  List,
  Option,
  None,
  Some,
  inl,
  inr,
  refl,
  sym,
  ◌∙◌,
  ◌⊎◌,
}
use Rattle.std.proofs.Common.{ap, subst, arith, length}
use Rattle.std.specs.Prelude.{slice_set}
use Rattle.std.proofs.lemmas.Bool.{both_ways, cases_Bool, cases_eq, cases_lt}
use Rattle.std.proofs.lemmas.List.{get_or-set_same, get_or-set_other, length-set}
use Rattle.bit_array.specs.Bits.{is_in}
use Rattle.super_block.specs.Numbers.{cluster_pages_of, clusters_of, fixed_clusters_of}
use Rattle.store_model.specs.Copying.{AreCopied, HasCopied}
use Rattle.store_model.proofs.Copies.{copied_same, HaveNoMore, row_no_more, row_unclaimed}
use Rattle.md_chain.specs.Chain.{is_among}
use Rattle.store_model.specs.Rows.{OpenClaim, Row, Rows, with_row}
use Rattle.store_model.specs.Guarding.{AreClaimsDrawn}
use Rattle.store_model.specs.Places.{claimed_by, ClaimsDiffer, HasClaim, IsMapped, UsedClusters, without_claim}
use Rattle.store_model.specs.StoreState.{StoreState}
use Rattle.store_model.proofs.Claims.{differ_still, used_still, with_row_claims, with_row_same}
use Rattle.store_model.proofs.Guarding.{claims_drawn_still}
use Rattle.store_model.proofs.RowsKept.{row_here, row_other}
use Rattle.store_model.proofs.Used.{within}

-- what is known of open claims, with these rows and these clusters in use
pub record AreHeld (p : StoreState) (rows : Rows) (bits : List Bool) : Type 0 where
  pub used : UsedClusters p.super bits p.base (HasClaim rows p.job)
  pub differ : ClaimsDiffer rows p.job
  pub drawn : AreClaimsDrawn rows p.drawn
  pub copied : AreCopied (record p { rows = rows })

-- each row has the claim that it had
pub held_with : (p : StoreState) (rows : Rows) → AreHeld p p.rows p.clusters
    → ((c : ℕ) → (rows c).claim ≡ (p.rows c).claim) → AreCopied (record p { rows = rows }) → AreHeld p rows p.clusters
held_with p rows h same copied = record {
  used = used_still p.rows rows p.job p.job same refl p.super p.clusters p.base h.used;
  differ = differ_still p.rows rows p.job p.job same refl h.differ;
  drawn = claims_drawn_still p.rows rows p.drawn p.drawn same (omega arith) h.drawn;
  copied = copied;
}

-- what no more is copied of
no_more_copied : (p : StoreState) (rows : Rows) (bits : List Bool) → AreHeld p p.rows bits
    → HaveNoMore (cluster_pages_of p.super) p.rows rows → AreCopied (record p { rows = rows })
no_more_copied p rows bits h no_more =
    copied_same p (record p { rows = rows }) h.copied refl refl refl no_more refl

pub held_still : (p : StoreState) (rows : Rows) → AreHeld p p.rows p.clusters
    → ((c : ℕ) → (rows c).claim ≡ (p.rows c).claim) → HaveNoMore (cluster_pages_of p.super) p.rows rows
    → AreHeld p rows p.clusters
held_still p rows h same no_more = held_with p rows h same (no_more_copied p rows p.clusters h no_more)

-- a row goes on with its claim, of which no more is copied
pub held_on : (p : StoreState) (channel : ℕ) (row : Row) → AreHeld p p.rows p.clusters
    → (p.rows channel).claim ≡ row.claim
    → ((page : ℕ) → HasCopied (cluster_pages_of p.super) row.stage page
    → HasCopied (cluster_pages_of p.super) (p.rows channel).stage page)
    → AreHeld p (with_row p.rows channel row) p.clusters
held_on p channel row h same no_more =
    held_still p (with_row p.rows channel row) h (with_row_same p.rows channel row (sym same))
    (row_no_more (cluster_pages_of p.super) p.rows channel row
    (λ claim page held has. record { held = same ∙ held; copied = no_more page has }))

module _ (p : StoreState) (channel : ℕ) (row : Row) (h : AreHeld p p.rows p.clusters) where
  abbrev rows : Rows
  rows = with_row p.rows channel row

  here : (c : ℕ) → c ≡ channel → (rows c).claim ≡ row.claim
  here c e = ap (λ (r : Row). r.claim) (row_here p.rows channel row c e)

  other : (c : ℕ) → c ≢ channel → (rows c).claim ≡ (p.rows c).claim
  other c ne = ap (λ (r : Row). r.claim) (row_other p.rows channel row c ne)

  -- the claim of another row
  theirs : (c : ℕ) (x : OpenClaim) → c ≢ channel → (rows c).claim ≡ Some x → (p.rows c).claim ≡ Some x
  theirs c x ne held = sym (other c ne) ∙ held

  -- a cluster that was clear is claimed
  module _ (claim : OpenClaim) (is : row.claim ≡ Some claim) (none : (p.rows channel).claim ≡ None)
      (fresh : (page : ℕ) → HasCopied (cluster_pages_of p.super) row.stage page → ⊥)
      (below : claim.cluster < length p.clusters) (clear : is_in p.clusters claim.cluster ≡ false)
      (low : claim.generation ≤ p.drawn) where
    abbrev bits : List Bool
    bits = slice_set p.clusters claim.cluster true

    ours : (c : ℕ) (x : OpenClaim) → c ≡ channel → (rows c).claim ≡ Some x → x ≡ claim
    ours c x e held = let both = sym held ∙ here c e ∙ is in cc both

    set_here : is_in bits claim.cluster ≡ true
    set_here = get_or-set_same p.clusters claim.cluster true false below

    set_other : (c : ℕ) → c ≢ claim.cluster → is_in bits c ≡ is_in p.clusters c
    set_other c ne = get_or-set_other p.clusters claim.cluster c true false ne

    set_more : (c : ℕ) → is_in p.clusters c ≡ true → is_in bits c ≡ true
    set_more c in_use = elim (cases_eq c claim.cluster) [
      | inl e ↦ ap (is_in bits) e ∙ set_here
      | inr ne ↦ set_other c ne ∙ in_use
    ]

    in_use_before : (c : ℕ) → HasClaim p.rows p.job c → c ≢ claim.cluster
    in_use_before c x e =
        both_ways (is_in p.clusters c) (ap (is_in p.clusters) e ∙ clear) (h.used.claimed_too c x)

    still : (c : ℕ) → HasClaim p.rows p.job c → HasClaim rows p.job c
    still c (inl x) = inl (record {
      channel = x.channel;
      claim = x.claim;
      held = other x.channel (λ e. let bad = sym none ∙ ap (λ k. (p.rows k).claim) (sym e) ∙ x.held in cc bad) ∙ x.held;
      is = x.is;
    })
    still c (inr among) = inr among

    -- one claimed now, or one from before
    either : (c : ℕ) → HasClaim rows p.job c → (c ≡ claim.cluster) ⊎ HasClaim p.rows p.job c
    either c (inl x) = elim (cases_eq x.channel channel) [
      | inl e ↦ inl (sym x.is ∙ ap (λ (o : OpenClaim). o.cluster) (ours x.channel x.claim e x.held))
      | inr ne ↦ inr (inl (record {
        channel = x.channel;
        claim = x.claim;
        held = theirs x.channel x.claim ne x.held;
        is = x.is;
      }))
    ]
    either c (inr among) = inr (inr among)

    pub held_made : AreHeld p rows bits
    held_made = record {
      copied = no_more_copied p rows p.clusters h (row_no_more (cluster_pages_of p.super) p.rows channel row
          (λ other page held has. absurd (fresh page has)));
      used = record {
        count = length-set p.clusters claim.cluster true ∙ h.used.count;
        fixed = λ c few under. set_more c (h.used.fixed c few under);
        mapped = λ c m. set_more c (h.used.mapped c m);
        claimed_too = λ c x. elim (either c x) [
          | inl e ↦ ap (is_in bits) e ∙ set_here
          | inr old ↦ set_more c (h.used.claimed_too c old)
        ];
        no_other = λ c in_use. elim (cases_eq c claim.cluster) [
          | inl e ↦ inr (inr (inl (record {
            channel = channel;
            claim = claim;
            held = here channel refl ∙ is;
            is = sym e;
          })))
          | inr ne ↦ elim (h.used.no_other c (sym (set_other c ne) ∙ in_use)) [
            | inl few ↦ inl few
            | inr rest ↦ elim rest [ inl m ↦ inr (inl m) | inr old ↦ inr (inr (still c old)) ]
          ]
        ];
        apart = λ c x. elim (either c x) [
          | inl e ↦ (
            elim (cases_lt c (fixed_clusters_of p.super)) [
              | inl few ↦ absurd (both_ways (is_in p.clusters c) (ap (is_in p.clusters) e ∙ clear)
                  (h.used.fixed c few (subst (λ n. n < clusters_of p.super) (sym e)
                  (subst (λ n. claim.cluster < n) h.used.count below))))
              | inr ge ↦ ge
            ],
            λ m. both_ways (is_in p.clusters c) (ap (is_in p.clusters) e ∙ clear) (h.used.mapped c m),
          )
          | inr old ↦ h.used.apart c old
        ];
      };
      differ = record {
        rows = λ c k x y held held_too e. elim (cases_eq c channel) [
          | inl ec ↦ elim (cases_eq k channel) [
            | inl ek ↦ ec ∙ sym ek
            | inr nk ↦ absurd (in_use_before y.cluster
                (inl (record { channel = k; claim = y; held = theirs k y nk held_too; is = refl }))
                (sym e ∙ ap (λ (o : OpenClaim). o.cluster) (ours c x ec held)))
          ]
          | inr nc ↦ elim (cases_eq k channel) [
            | inl ek ↦ absurd (in_use_before x.cluster
                (inl (record { channel = c; claim = x; held = theirs c x nc held; is = refl }))
                (e ∙ ap (λ (o : OpenClaim). o.cluster) (ours k y ek held_too)))
            | inr nk ↦ h.differ.rows c k x y (theirs c x nc held) (theirs k y nk held_too) e
          ]
        ];
        job = λ c x held. elim (cases_eq c channel) [
          | inl e ↦ elim (cases_Bool (is_among x.cluster (claimed_by p.job))) [
            | inl among ↦ absurd (in_use_before x.cluster (inr among)
                (ap (λ (o : OpenClaim). o.cluster) (ours c x e held)))
            | inr apart ↦ apart
          ]
          | inr ne ↦ h.differ.job c x (theirs c x ne held)
        ];
      };
      drawn = λ c x held. elim (cases_eq c channel) [
        | inl e ↦ subst (λ (o : OpenClaim). o.generation ≤ p.drawn) (sym (ours c x e held)) low
        | inr ne ↦ h.drawn c x (theirs c x ne held)
      ];
    }

  -- a claim is given back, and its cluster is clear
  module _ (claim : OpenClaim) (was : (p.rows channel).claim ≡ Some claim) (none : row.claim ≡ None) where
    abbrev fewer : List Bool
    fewer = slice_set p.clusters claim.cluster false

    no_other_row : (c : ℕ) (x : OpenClaim) → (rows c).claim ≡ Some x → c ≢ channel
    no_other_row c x held e = let bad = sym held ∙ here c e ∙ none in cc bad

    before : (c : ℕ) → HasClaim rows p.job c → HasClaim p.rows p.job c
    before c (inl x) = inl (record {
      channel = x.channel;
      claim = x.claim;
      held = theirs x.channel x.claim (no_other_row x.channel x.claim x.held) x.held;
      is = x.is;
    })
    before c (inr among) = inr among

    not_this : (c : ℕ) → HasClaim rows p.job c → c ≢ claim.cluster
    not_this c (inl x) e =
        let ne = no_other_row x.channel x.claim x.held in
        ne (h.differ.rows x.channel channel x.claim claim (theirs x.channel x.claim ne x.held) was (x.is ∙ e))
    not_this c (inr among) e =
        both_ways (is_among claim.cluster (claimed_by p.job)) (h.differ.job channel claim was)
        (subst (λ n. is_among n (claimed_by p.job) ≡ true) e among)

    mine : HasClaim p.rows p.job claim.cluster
    mine = inl (record { channel = channel; claim = claim; held = was; is = refl })

    stays : (c : ℕ) → c ≢ claim.cluster → is_in fewer c ≡ is_in p.clusters c
    stays c ne = get_or-set_other p.clusters claim.cluster c false false ne

    gone : (c : ℕ) → is_in fewer c ≡ true → c ≢ claim.cluster
    gone c in_use e =
        both_ways (is_in fewer claim.cluster)
        (get_or-set_same p.clusters claim.cluster false false
        (within p.clusters claim.cluster (h.used.claimed_too claim.cluster mine)))
        (ap (is_in fewer) (sym e) ∙ in_use)

    held_cleared : AreHeld p rows fewer
    held_cleared = record {
      copied = no_more_copied p rows p.clusters h (row_unclaimed (cluster_pages_of p.super) p.rows channel row none);
      used = record {
        count = length-set p.clusters claim.cluster false ∙ h.used.count;
        fixed = λ c few under. stays c (λ e. let x = (h.used.apart claim.cluster mine).0 in omega (arith, e, x, few))
            ∙ h.used.fixed c few under;
        mapped = λ c m. stays c (λ e. (h.used.apart claim.cluster mine).1 (subst (IsMapped p.base) e m))
            ∙ h.used.mapped c m;
        claimed_too = λ c x. stays c (not_this c x) ∙ h.used.claimed_too c (before c x);
        no_other = λ c in_use.
            let ne = gone c in_use in
            elim (h.used.no_other c (sym (stays c ne) ∙ in_use)) [
              | inl few ↦ inl few
              | inr rest ↦ elim rest [ inl m ↦ inr (inl m) | inr old ↦ inr (inr (still_there c ne old)) ]
            ];
        apart = λ c x. h.used.apart c (before c x);
      };
      differ = record {
        rows = λ c k x y held held_too e.
            h.differ.rows c k x y (theirs c x (no_other_row c x held) held)
            (theirs k y (no_other_row k y held_too) held_too) e;
        job = λ c x held. h.differ.job c x (theirs c x (no_other_row c x held) held);
      };
      drawn = λ c x held. h.drawn c x (theirs c x (no_other_row c x held) held);
    }
      where
        still_there : (c : ℕ) → c ≢ claim.cluster → HasClaim p.rows p.job c → HasClaim rows p.job c
        still_there c ne (inl x) = inl (record {
          channel = x.channel;
          claim = x.claim;
          held = other x.channel (λ e.
              let both = sym (ap (λ k. (p.rows k).claim) e ∙ was) ∙ x.held in
              let same : claim ≡ x.claim = cc both in
              ne (sym x.is ∙ ap (λ (o : OpenClaim). o.cluster) (sym same))) ∙ x.held;
          is = x.is;
        })
        still_there c ne (inr among) = inr among

  -- the row has no claim any more, whether it had one or not
  pub held_without : row.claim ≡ None → AreHeld p rows (without_claim p.clusters (p.rows channel).claim)
  held_without none = by (p.rows channel).claim refl
    where
      by : (o : Option OpenClaim) → (p.rows channel).claim ≡ o → AreHeld p rows (without_claim p.clusters o)
      by None was = held_still p rows h (with_row_claims p.rows channel row was none)
          (row_unclaimed (cluster_pages_of p.super) p.rows channel row none)
      by (Some claim) was = held_cleared claim was none
