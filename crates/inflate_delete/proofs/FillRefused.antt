-- Why a blob isn't inflated or decoupled, in all volumes that show metadata.
use Rattle.std.proofs.Common.{◌≡◌, ℕ, Bool, false, ◌&&◌, Option, Some, None, length, refl, sym, ap, ◌∙◌}
use Rattle.std.specs.Prelude.{nat_lt, is_none}
use Rattle.std.specs.Option.{option_and_then, option_map_or}
use Rattle.std.specs.Ordering.{nat_cmp}
use Rattle.std.specs.FinMap as map
use Rattle.super_block.specs.declared.page.Super.{Super}
use Rattle.volume_model.specs.Volumes.{Volume, Volumes, Fixed, is_given_head, is_super}
use Rattle.volume_model.specs.Refusals.{is_short_between}
use Rattle.volume_model.specs.declared.reply.Reply.{Reply}
use Rattle.blob_meta.specs.declared.meta.Meta.{Meta}
use Rattle.blob_meta.specs.Asked.{first_cause}
use Rattle.blob_meta.specs.Parents.{head_of_id, parent_of}
use Rattle.blob_meta.specs.ShownBy.{ShowsMeta, ShowsMetas}
use Rattle.blob_meta.specs.SlotCounts.{HeadsFit, has_longer_parent}
use Rattle.blob_meta.proofs.Refused.{at_volume}
use Rattle.blob_meta.proofs.Shown.{heads_fit, volume_shown}
use Rattle.snapshots.specs.RefusedAt.{IsFirstAt}
use Rattle.inflate_delete.specs.FillCauses.{decouple_causes, fill_causes, inflate_causes, is_short_under}
use Rattle.inflate_delete.specs.Fills.{command_of}
use Rattle.inflate_delete.specs.declared.filling.FillKind.{FillKind}
use Rattle.inflate_delete.specs.declared.filling.FillKind.TheVariants.{Inflate, Decouple}
use Rattle.inflate_delete.proofs.DeleteRefused.{short_same, test_same}

-- the parent has fewer slots than its own parent and than the volume
abbrev pub is_short_in : Fixed → Volumes → Volume → Bool
is_short_in f v x = option_map_or (λ p. option_map_or (λ y. is_short_between f v y x) (v p) false) x.parent false

module _ (f : Fixed) (sup : Super) (metas : map.FinMap nat_cmp Meta) (v : Volumes) (s : ShowsMetas f sup metas v) where
  short_at : (x : Volume) (m : Meta) → ShowsMeta f x m → (o : Option ℕ)
      → option_map_or (λ p. option_map_or (λ y. is_short_between f v y x) (v p) false) o false
      ≡ option_map_or (λ (n : Meta). has_longer_parent metas n && nat_lt (length n.map) (length m.map))
      (option_and_then (map.get metas) o) false
  short_at x m e None = refl
  short_at x m e (Some p) = test_same f sup metas v s (λ y. is_short_between f v y x)
      (λ n. has_longer_parent metas n && nat_lt (length n.map) (length m.map))
      (λ y n d. short_same f sup metas v s y n d x m e) (v p) (map.get metas p) (s.shown p)

  short_under_same : (x : Volume) (m : Meta) → ShowsMeta f x m → is_short_in f v x ≡ is_short_under metas m
  short_under_same x m e =
      ap (λ o. option_map_or (λ p. option_map_or (λ y. is_short_between f v y x) (v p) false) o false) e.parent_is
      ∙ short_at x m e (parent_of m)

same_causes : {a b d e a' b' d' e' : Bool} → a ≡ a' → b ≡ b' → d ≡ d' → e ≡ e'
    → decouple_causes a b d e ≡ decouple_causes a' b' d' e'
same_causes {a} {b} {d} {e} {a'} {b'} {d'} {e'} i j k l =
    ap (λ t. decouple_causes t b d e) i ∙ ap (λ t. decouple_causes a' t d e) j
    ∙ ap (λ t. decouple_causes a' b' t e) k ∙ ap (λ t. decouple_causes a' b' d' t) l

-- nothing refuses a fill of the blob at a head, or the first of its causes
pub fill_refused : (metas : map.FinMap nat_cmp Meta) (sup : Super) (h : ℕ) (m : Meta) (kind : FillKind)
    (reserved : Bool) (first : Option Reply) → map.get metas h ≡ Some m
    → reserved ≡ is_given_head h (head_of_id sup.super_blob)
    → (HeadsFit metas → first ≡ first_cause (fill_causes metas kind reserved m))
    → IsFirstAt metas sup h (command_of kind) first
fill_refused metas sup h m Inflate reserved first there reserved_is first_is meant is f v s =
    let shown = volume_shown f sup metas v s h m there in
    let x = shown.0 in
    ap first_cause (at_volume f v meant (λ k y. inflate_causes (is_super f k) y.read_only) h x (is f v s) shown.1
    ∙ ap (λ b. inflate_causes b x.read_only) (ap (is_given_head h) s.super_is ∙ sym reserved_is)
    ∙ ap (inflate_causes reserved) shown.2.read_only_is)
    ∙ sym (first_is (heads_fit f sup metas v s))
fill_refused metas sup h m Decouple reserved first there reserved_is first_is meant is f v s =
    let shown = volume_shown f sup metas v s h m there in
    let x = shown.0 in
    ap first_cause (at_volume f v meant
    (λ k y. decouple_causes (is_super f k) y.read_only (is_none y.parent) (is_short_in f v y)) h x (is f v s) shown.1
    ∙ same_causes (ap (is_given_head h) s.super_is ∙ sym reserved_is) shown.2.read_only_is
    (ap is_none shown.2.parent_is) (short_under_same f sup metas v s x m shown.2))
    ∙ sym (first_is (heads_fit f sup metas v s))
