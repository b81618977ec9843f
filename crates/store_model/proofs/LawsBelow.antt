-- The laws of the crates below that laws of turns stand on.
use Rattle.std.proofs.Common.{◌≡◌, ℕ, Option, Some, None}
use Rattle.std.specs.Prelude.{codes, take}
use Rattle.std.specs.List.{All}
use Rattle.volume_model.specs.Xattrs.{value_of}
use Rattle.blob_meta.specs.declared.meta.Meta.{Meta}
use Rattle.blob_meta.specs.Repairs.{after, HasHeadsBelow, repairs}
use Rattle.blob_meta.specs.Resolving.{resolved}
use Rattle.store_model.proofs.Refusals.{RefusalsChangeNothing}

-- what repairs make of metadata
pub record RepairLaws : Type 0 where
  pub cut_off : (md_len : ℕ) (metas : ℕ → Option Meta) → HasHeadsBelow md_len metas → (count h : ℕ)
      → resolved (after metas (take count (repairs md_len metas))) h ≡ resolved metas h
  pub give : (md_len : ℕ) (metas : ℕ → Option Meta)
      → All (λ x. x.new ≡ resolved metas x.head) (repairs md_len metas)
  pub unremoved : (metas : ℕ → Option Meta) (h : ℕ) (m : Meta) → resolved metas h ≡ Some m
      → value_of m.internal (codes "SNAPRM") ≡ None
  pub made : (metas : ℕ → Option Meta) (h : ℕ) (m : Meta) → resolved metas h ≡ Some m
      → value_of m.internal (codes "SNAPTMP") ≡ None

pub record LawsBelow : Type 0 where
  pub refusals : RefusalsChangeNothing
  pub repairs : RepairLaws
