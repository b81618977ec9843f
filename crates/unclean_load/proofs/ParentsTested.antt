-- The blobs whose parents were tested, heads upwards.
use Rattle.std.proofs.Common.{◌≡◌, ℕ, ◌+◌, ◌<◌, List, length, Option, Some, None, IsSome, refl, sym, ap, subst, ◌∙◌}
use Rattle.std.proofs.Common.{inl, inr, arith}
use Rattle.std.proofs.lemmas.Bool.{cases_eq}
use Rattle.blob_meta.specs.declared.meta.Meta.{Meta}
use Rattle.blob_meta.specs.Repairs.{HasHeadsBelow}
use Rattle.store_model.specs.Maps.{Metas}
use Rattle.unclean_load.specs.declared.fault.LoadFault.{LoadFault}
use Rattle.unclean_load.specs.Parents.{HasRightParent, HaveRightParents, ShowsParent, ShowsParentFirst}
use Rattle.unclean_load.specs.Walks.{AreWalked, ParentsEnd}
use Rattle.unclean_load.proofs.Ancestors.{ends_never_back, right_parents}

-- each blob below a head has a right parent, and following parents from it ends
pub record Tested (metas : Metas) (begun : List (Option ℕ)) (head count : ℕ) : Type 0 where
  pub length_is : length begun ≡ count
  pub walked : AreWalked metas begun head
  pub right : (k : ℕ) (m : Meta) → k < head → metas k ≡ Some m → HasRightParent metas m
  pub ends : (k : ℕ) (m : Meta) → k < head → metas k ≡ Some m → ParentsEnd metas k

module _ (metas : Metas) (begun : List (Option ℕ)) (head count : ℕ) (t : Tested metas begun head count) where
  -- there is no blob at the head
  pub none_to_test : metas head ≡ None → Tested metas begun (head + 1) count
  none_to_test none = record {
    length_is = t.length_is;
    walked = record {
      low = λ place first is. let lt = t.walked.low place first is in omega (arith, lt);
      ends = t.walked.ends;
    };
    right = λ k m lt there. elim (cases_eq k head) [
      | inl e ↦ let no = ap metas e ∙ none in absurd (cc (no, there))
      | inr ne ↦ t.right k m (omega (arith, lt, ne)) there
    ];
    ends = λ k m lt there. elim (cases_eq k head) [
      | inl e ↦ let no = ap metas e ∙ none in absurd (cc (no, there))
      | inr ne ↦ t.ends k m (omega (arith, lt, ne)) there
    ];
  }

  -- the blob at the head is right, and following parents from it ends
  pub one_tested : (new : List (Option ℕ)) (meta : Meta) → metas head ≡ Some meta → length new ≡ length begun
      → HasRightParent metas meta → ParentsEnd metas head → AreWalked metas new (head + 1)
      → Tested metas new (head + 1) count
  one_tested new meta is same right ends walked = record {
    length_is = same ∙ t.length_is;
    walked = walked;
    right = λ k m lt there. elim (cases_eq k head) [
      | inl e ↦
          let one : meta ≡ m = let x = sym is ∙ sym (ap metas e) ∙ there in cc x in
          subst (HasRightParent metas) one right
      | inr ne ↦ t.right k m (omega (arith, lt, ne)) there
    ];
    ends = λ k m lt there. elim (cases_eq k head) [
      | inl e ↦ subst (ParentsEnd metas) (sym e) ends
      | inr ne ↦ t.ends k m (omega (arith, lt, ne)) there
    ];
  }

  -- what the blob at the head shows is the first fault of parents
  pub shows_first : (meta : Meta) → metas head ≡ Some meta → (why : LoadFault) → ShowsParent metas head meta why
      → ShowsParentFirst metas why
  shows_first meta is why shows = record {
    head = head;
    meta = meta;
    is = is;
    before = t.right;
    ends = λ k m lt there. ends_never_back metas k (t.ends k m lt there);
    shows = shows;
  }

-- all blobs were tested
pub all_tested : (metas : Metas) (begun : List (Option ℕ)) (count : ℕ) → HasHeadsBelow count metas
    → Tested metas begun count count → HaveRightParents metas
all_tested metas begun count below t =
    right_parents metas (λ k m there. t.right k m (lower k m there) there)
    (λ k m there. t.ends k m (lower k m there) there)
  where
    lower : (k : ℕ) (m : Meta) → metas k ≡ Some m → k < count
    lower k m there = below k (subst IsSome (sym there) refl)
