-- What is recovered of the blobs that were read.
use Rattle.std.proofs.Common.{◌≡◌, ℕ, ◌^◌, ◌<◌, ◌≤◌, List, Option, Some, None, IsSome, refl, sym, ap, subst, ◌∙◌, arith}
use Rattle.std.specs.Option.{option_or}
use Rattle.std.specs.Ordering.{nat_cmp}
use Rattle.std.specs.FinMap as map
use Rattle.std.proofs.Math.Path.{fun_ext}
use Rattle.super_block.specs.declared.page.Super.{Super}
use Rattle.super_block.specs.declared.masks.Masks.{Masks}
use Rattle.blob_meta.specs.declared.meta.Meta.{Meta}
use Rattle.blob_meta.specs.declared.job.Replacement.{Replacement}
use Rattle.blob_meta.specs.Repairs.{HasHeadsBelow}
use Rattle.blob_meta.specs.Resolving.{IsLawful, slots_together}
use Rattle.blob_meta.specs.SlotCounts.{HeadsFit}
use Rattle.store_model.specs.Maps.{Metas, Chains}
use Rattle.running_store.specs.Recovered.{IsRecovered, base_of, marked_blobs}
use Rattle.unclean_load.specs.Parents.{HaveRightParents}
use Rattle.unclean_load.specs.Sharing.{copies}
use Rattle.unclean_load.proofs.OfResolved.{base_again}
use Rattle.unclean_load.proofs.Slots.{one_slot}

-- heads below a number of 32 bits are such numbers
pub heads_fit : (m : map.FinMap nat_cmp Meta) (md_len : ℕ) → md_len < 2 ^ 32 → HasHeadsBelow md_len (map.get m)
    → HeadsFit m
heads_fit m md_len few below h le = by (map.get m h) refl
  where
    by : (o : Option Meta) → map.get m h ≡ o → map.get m h ≡ None
    by None is = is
    by (Some x) is = absurd (let lt = below h (subst IsSome (sym is) refl) in omega (arith, few, le, lt))

-- right parents, few slots and no cluster in two of them make metadata lawful
pub lawful : (md_len : ℕ) (metas : Metas) → ((head : ℕ) (m : Meta) → metas head ≡ Some m → head < md_len)
    → HaveRightParents metas → slots_together md_len metas ≤ 2 ^ 24
    → ((cluster : ℕ) → copies md_len metas cluster ≤ 1) → IsLawful md_len metas
lawful md_len metas low right few most = record {
  alone = λ h k i j cluster m n a b x y. one_slot metas cluster md_len low (most cluster) h k i j m n a b x y;
  parents = λ h p m there is. (right.right h m there).there p is;
  rank = right.rank;
  falls = right.falls;
  few = few;
}

-- the marked blobs over what is resolved are the metadata that was read
pub base_read : (s : Super) (read : Metas) (links : Chains) (metas gone marked_too : map.FinMap nat_cmp Meta)
    (list : List Replacement) (used : Masks) → IsRecovered s read links metas gone marked_too list used
    → base_of metas marked_too ≡ read
base_read s read links metas gone marked_too list used x = fun_ext (λ h.
    ap (λ f. option_or (f h) (map.get metas h)) (sym x.marks)
    ∙ ap (λ f. option_or (marked_blobs read h) (f h)) (sym x.resolves) ∙ base_again read h)
