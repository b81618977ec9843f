-- A blob that was read from a chain is one that the store can hold; its chain is one of the region.
use Rattle.std.proofs.Common.{◌≡◌, ℕ, suc, true, false, List, [], ◌∷◌, None, refl, sym, subst, inl, inr, arith}
use Rattle.std.specs.Prelude.{◌==◌}
use Rattle.std.proofs.lemmas.Bool.{cases_Bool, or_left, or_right, both_ways, eq-eqb}
use Rattle.super_block.specs.declared.page.Super.{Super}
use Rattle.descriptors.specs.declared.item.Item.{Item}
use Rattle.blob_meta.specs.declared.meta.Meta.{Meta}
use Rattle.blob_meta.specs.Says.{without_bit_1, meta_of}
use Rattle.blob_meta.specs.Faults.{meta_fault}
use Rattle.md_chain.specs.Chain.{Look, Links, last, more, is_among}
use Rattle.md_chain.proofs.Links.{passes, first, linked}
use Rattle.store_model.specs.Regions.{region_of}
use Rattle.store_model.specs.Scans.{MetaAt}
use Rattle.store_model.specs.Places.{AreDistinct}
use Rattle.store_model.specs.Steady.{IsStored}
use Rattle.unclean_load.specs.Reading.{IsChainOf}
use Rattle.unclean_load.proofs.Attributes.{xattrs_written, internal_written}

clear_twice : (n : ℕ) → without_bit_1 (without_bit_1 n) ≡ without_bit_1 n
clear_twice n = omega arith

-- ---- the places of a chain

unseen : (look : Look) (md_len h n : ℕ) (seen : List ℕ) (before p : ℕ) (items : List Item) (pages : List ℕ)
    → Links look md_len h n seen before p items pages → (q : ℕ) → is_among q seen ≡ true → is_among q pages ≡ false
unseen look md_len h n seen before p items pages (last _ _ _ _ _ lf s e) q a =
    let new = (passes (look p) md_len h n seen before p lf).new in
    elim (cases_Bool (p == q)) [
      | inl same ↦
          absurd (both_ways _ new
          (subst (λ (k : ℕ). is_among k seen ≡ true) (sym (Rattle.std.proofs.lemmas.Bool.eqb-true p q same)) a))
      | inr other ↦ rw other refl
    ]
unseen look md_len h n seen before p items pages (more _ _ _ _ is rest ps lf s ne l) q a =
    let new = (passes (look p) md_len h n seen before p lf).new in
    let later = unseen look md_len h (suc n) (p ∷ seen) p _ rest ps l q (or_right (p == q) (is_among q seen) a) in
    elim (cases_Bool (p == q)) [
      | inl same ↦
          absurd (both_ways _ new
          (subst (λ (k : ℕ). is_among k seen ≡ true) (sym (Rattle.std.proofs.lemmas.Bool.eqb-true p q same)) a))
      | inr other ↦ rw other later
    ]

distinct : (look : Look) (md_len h n : ℕ) (seen : List ℕ) (before p : ℕ) (items : List Item) (pages : List ℕ)
    → Links look md_len h n seen before p items pages → AreDistinct pages
distinct look md_len h n seen before p items pages (last _ _ _ _ _ lf s e) = (refl, tt)
distinct look md_len h n seen before p items pages (more _ _ _ _ is rest ps lf s ne l) = (
  unseen look md_len h (suc n) (p ∷ seen) p _ rest ps l p (or_left (p == p) (is_among p seen) (eq-eqb p p refl)),
  distinct look md_len h (suc n) (p ∷ seen) p _ rest ps l,
)

from_first : (look : Look) (md_len h n : ℕ) (seen : List ℕ) (before p : ℕ) (items : List Item) (pages : List ℕ)
    → Links look md_len h n seen before p items pages → (rest : List ℕ) × (pages ≡ p ∷ rest)
from_first look md_len h n seen before p items pages (last _ _ _ _ _ lf s e) = ([], refl)
from_first look md_len h n seen before p items pages (more _ _ _ _ is rest ps lf s ne l) = (ps, refl)

-- ---- a blob

module _ (look : Look) (s : Super) (head : ℕ) (m : Meta) (pages : List ℕ)
    (says : MetaAt look (region_of s) head m pages) where
  -- the chain that was read is one of the region, and begins with its head
  pub chain_of_region : IsChainOf s.md_len head pages
  chain_of_region = record {
    rest = (from_first look s.md_len head 0 [] head head says.items pages says.chain).0;
    first = (from_first look s.md_len head 0 [] head head says.items pages says.chain).1;
    low = λ place a. (linked look s.md_len head 0 [] head head says.items pages says.chain place a).low;
    differ = distinct look s.md_len head 0 [] head head says.items pages says.chain;
  }

  said_stored : IsStored s head (meta_of head says.items)
  said_stored = record {
    low = (first look s.md_len head 0 [] head head says.items pages says.chain).low;
    id = refl;
    clear = clear_twice _;
    xattrs = xattrs_written look s.md_len head 0 [] head head says.items pages says.chain;
    internal = internal_written look s.md_len head 0 [] head head says.items pages says.chain;
    faultless =
        subst (λ (n : Meta). meta_fault (region_of s).fixed
        (region_of s).clusters n ≡ None) says.meta_is says.faultless;
  }

  -- the store can hold a blob that was read
  pub stored : IsStored s head m
  stored = subst (λ (n : Meta). IsStored s head n) (sym says.meta_is) said_stored
