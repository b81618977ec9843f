-- Why a blob isn't deleted, in all volumes that show metadata.
use Rattle.std.proofs.Common.{◌≡◌, ℕ, Bool, false, ◌&&◌, ◌||◌, Option, Some, None, List, [], ◌∷◌, length}
use Rattle.std.proofs.Common.{refl, sym, ap, ◌∙◌}
use Rattle.std.specs.Prelude.{nat_lt}
use Rattle.std.specs.List.{filter}
use Rattle.std.specs.Option.{option_map_or}
use Rattle.std.specs.Ordering.{nat_cmp}
use Rattle.std.specs.FinMap as map
use Rattle.std.proofs.Math.Path.{fun_ext}
use Rattle.super_block.specs.declared.page.Super.{Super}
use Rattle.volume_model.specs.Volumes.{Volume, Volumes, Fixed, clones, heads, is_given_head, is_super, slots_of}
use Rattle.volume_model.specs.Refusals.{Causes, is_short_between, only_clone}
use Rattle.volume_model.specs.declared.command.Command.TheVariants as c
use Rattle.volume_model.specs.declared.reply.Reply.{Reply}
use Rattle.blob_meta.specs.declared.meta.Meta.{Meta}
use Rattle.blob_meta.specs.Asked.{first_cause}
use Rattle.blob_meta.specs.Parents.{head_of_id, is_locked, parent_of}
use Rattle.blob_meta.specs.ShownBy.{ShowsAt, ShowsMeta, ShowsMetas}
use Rattle.blob_meta.specs.SlotCounts.{HeadsFit, has_longer_parent}
use Rattle.blob_meta.proofs.Refused.{at_volume}
use Rattle.blob_meta.proofs.Shown.{heads_fit, longer_same, volume_shown}
use Rattle.snapshots.specs.RefusedAt.{IsFirstAt}
use Rattle.inflate_delete.specs.Clones.{AreClones, is_clone, only_blob}
use Rattle.inflate_delete.specs.DeleteCauses.{delete_causes, locked_by}
use Rattle.inflate_delete.specs.DeleteCauses.{is_short_between as is_short}

same_causes : {a b d a' b' d' : Bool} (n : ℕ) → a ≡ a' → b ≡ b' → d ≡ d'
    → delete_causes a b n d ≡ delete_causes a' b' n d'
same_causes {a} {b} {d} {a'} {b'} {d'} n e i j =
    ap (λ t. delete_causes t b n d) e ∙ ap (λ t. delete_causes a' t n d) i ∙ ap (λ t. delete_causes a' b' n t) j

-- the causes at a volume, by its clones
abbrev pub volume_causes : Fixed → Volumes → ℕ → Volume → List ℕ → Causes
volume_causes f v h x ks = delete_causes (is_super f h) (x.locked || only_clone f v (λ y. y.locked) ks) (length ks)
    (only_clone f v (is_short_between f v x) ks)

module _ (f : Fixed) (sup : Super) (metas : map.FinMap nat_cmp Meta) (v : Volumes) (s : ShowsMetas f sup metas v) where
  -- a test of a volume and one of metadata, at what is shown
  pub test_same : (p : Volume → Bool) (q : Meta → Bool) → ((x : Volume) (m : Meta) → ShowsMeta f x m → p x ≡ q m)
      → (x : Option Volume) (m : Option Meta) → ShowsAt f x m → option_map_or p x false ≡ option_map_or q m false
  test_same p q same None None e = refl
  test_same p q same (Some x) (Some m) e = same x m e
  test_same p q same None (Some m) e = absurd e
  test_same p q same (Some x) None e = absurd e

  only_same : (p : Volume → Bool) (q : Meta → Bool) → ((x : Volume) (m : Meta) → ShowsMeta f x m → p x ≡ q m)
      → (ks : List ℕ) → only_clone f v p ks ≡ option_map_or q (only_blob metas ks) false
  only_same p q same [] = refl
  only_same p q same (k ∷ []) = test_same p q same (v k) (map.get metas k) (s.shown k)
  only_same p q same (k ∷ l ∷ ks) = refl

  clone_same : (h k : ℕ) → option_map_or (λ (x : Volume). is_given_head h x.parent) (v k) false
      ≡ is_clone (map.get metas) h k
  clone_same h k = test_same (λ x. is_given_head h x.parent) (λ m. is_given_head h (parent_of m))
      (λ x m e. ap (is_given_head h) e.parent_is) (v k) (map.get metas k) (s.shown k)

  clones_shown : (h : ℕ) (ks : List ℕ) → AreClones metas h ks → clones f v h ≡ ks
  clones_shown h ks are = ap (λ (p : ℕ → Bool). filter p (heads f)) (fun_ext (clone_same h))
      ∙ are f.md_len s.few_heads s.heads_below

  -- short between, by the slots of metadata
  pub short_same : (x : Volume) (m : Meta) → ShowsMeta f x m → (y : Volume) (n : Meta) → ShowsMeta f y n
      → is_short_between f v x y ≡ (has_longer_parent metas m && nat_lt (length m.map) (length n.map))
  short_same x m e y n d =
      ap (λ b. b && nat_lt (slots_of f x) (slots_of f y)) (longer_same f sup metas v s x m e)
      ∙ ap (λ k. has_longer_parent metas m && nat_lt k (slots_of f y)) e.slots_are
      ∙ ap (λ k. has_longer_parent metas m && nat_lt (length m.map) k) d.slots_are

  causes_same : (h : ℕ) (x : Volume) (m : Meta) → ShowsMeta f x m → (ks : List ℕ) → volume_causes f v h x ks
      ≡ delete_causes (is_given_head h (head_of_id sup.super_blob)) (locked_by metas m ks) (length ks)
      (is_short metas m ks)
  causes_same h x m e ks = same_causes (length ks) (ap (is_given_head h) s.super_is)
      (ap (λ b. b || only_clone f v (λ y. y.locked) ks) e.locked_is
      ∙ ap (λ b. is_locked m.flags || b)
      (only_same (λ y. y.locked) (λ n. is_locked n.flags) (λ y n d. d.locked_is) ks))
      (only_same (is_short_between f v x) (λ n. has_longer_parent metas m && nat_lt (length m.map) (length n.map))
      (short_same x m e) ks)

-- nothing refuses a delete of the blob at a head, of which these are the clones, or the first of its causes
pub delete_refused : (metas : map.FinMap nat_cmp Meta) (sup : Super) (h : ℕ) (m : Meta) (ks : List ℕ)
    (reserved locked : Bool) (count : ℕ) (short : Bool) (first : Option Reply) → map.get metas h ≡ Some m
    → AreClones metas h ks → reserved ≡ is_given_head h (head_of_id sup.super_blob) → locked ≡ locked_by metas m ks
    → count ≡ length ks → (HeadsFit metas → short ≡ is_short metas m ks)
    → first ≡ first_cause (delete_causes reserved locked count short)
    → IsFirstAt metas sup h (λ meant. c.Delete meant) first
delete_refused metas sup h m ks reserved locked count short first there are reserved_is locked_is count_is short_is
    first_is meant is f v s =
    let shown = volume_shown f sup metas v s h m there in
    let x = shown.0 in
    ap first_cause (at_volume f v meant (λ k y. volume_causes f v k y (clones f v k)) h x (is f v s) shown.1
    ∙ ap (volume_causes f v h x) (clones_shown f sup metas v s h ks are)
    ∙ causes_same f sup metas v s h x m shown.2 ks
    ∙ same_causes (length ks) (sym reserved_is) (sym locked_is) (sym (short_is (heads_fit f sup metas v s)))
    ∙ ap (λ n. delete_causes reserved locked n short) (sym count_is))
    ∙ sym first_is
