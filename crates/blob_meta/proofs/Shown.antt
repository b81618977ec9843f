-- What volumes that show metadata have in common.
use Rattle.std.proofs.Common.{◌≡◌, ℕ, ◌+◌, ◌^◌, ◌==◌, ◌<◌, ◌&&◌, Bool, true, false, not, Option, Some, None}
use Rattle.std.proofs.Common.{IfNone, IfSome, IsSome, is_some, List, length, refl, sym, ap, ◌∙◌, subst, inl, inr, arith}
use Rattle.std.specs.Prelude.{nat_lt}
use Rattle.std.specs.List.{sum_by}
use Rattle.std.specs.Option.{option_map_or}
use Rattle.std.specs.Ordering.{nat_cmp}
use Rattle.std.specs.FinMap as map
use Rattle.std.specs.Str.{bytes_eq}
use Rattle.std.proofs.Math.Path.{fun_ext}
use Rattle.std.proofs.lemmas.Bool.{and_parts, cases_Bool, cases_lt, eq-eqb, eqb-true, false≢true}
use Rattle.std.proofs.lemmas.Bool.Decides.{nat_tests}
use Rattle.super_block.specs.declared.page.Super.{Super}
use Rattle.volume_model.specs.Xattrs.{told, name_key}
use Rattle.volume_model.specs.Volumes.{Volume, Volumes, Fixed, all_slots, has_name, head_of, heads, is_given_head}
use Rattle.volume_model.specs.Volumes.{is_super, slots_at, slots_of}
use Rattle.volume_model.specs.Refusals.{has_longer_parent}
use Rattle.volume_model.specs.declared.command.VolumeRef.{VolumeRef}
use Rattle.volume_model.specs.declared.command.VolumeRef.TheVariants.{Head, Named}
use Rattle.blob_meta.specs.declared.meta.Meta.{Meta}
use Rattle.blob_meta.specs.Find.{is_called, is_meant, IsLeast}
use Rattle.blob_meta.specs.Parents.{head_of_id, parent_of}
use Rattle.blob_meta.specs.Resolving.{slots_together}
use Rattle.blob_meta.specs.ShownBy.{IsHeadMeant, ShowsMeta, ShowsAt, ShowsMetas}
use Rattle.blob_meta.specs.SlotCounts.{HasSlots, HeadsFit}
use Rattle.blob_meta.specs.SlotCounts.{has_longer_parent as longer_by_metadata}
use Rattle.blob_meta.proofs.HeadsInRange.{find_first, find_none, none_of}

-- the super blob's head, by its id
pub super_by_id : (id h : ℕ) → is_given_head h (head_of_id id) ≡ (id == 2 ^ 32 + h)
super_by_id id h = elim (cases_lt id (2 ^ 32)) [
  | inl lt ↦ grind (arith, nat_tests)
  | inr le ↦ grind (arith, nat_tests)
]

passing_some : (p : Meta → Bool) (o : Option Meta) → option_map_or p o false ≡ true → IsSome o
passing_some p None e = absurd (false≢true e)
passing_some p (Some m) e = refl

-- a head that is meant is that of a blob
pub meant_there : (super_blob : ℕ) (metas : map.FinMap nat_cmp Meta) (volume : VolumeRef) (h : ℕ)
    → is_meant super_blob metas volume h ≡ true → IsSome (map.get metas h)
meant_there super_blob metas (Head k) h e = (and_parts (h == k) (is_some (map.get metas h)) e).1
meant_there super_blob metas (Named name) h e = passing_some (is_called name) (map.get metas h)
    (and_parts (not (super_blob == 2 ^ 32 + h)) (option_map_or (is_called name) (map.get metas h) false) e).1

module _ (f : Fixed) (sup : Super) (metas : map.FinMap nat_cmp Meta) (v : Volumes) (s : ShowsMetas f sup metas v) where
  own : (k : ℕ) → is_some (map.get metas k) ≡ true → is_meant sup.super_blob metas (Head k) k ≡ true
  own k there = rw (eq-eqb k k refl, there) refl

  super_same : (h : ℕ) → is_super f h ≡ (sup.super_blob == 2 ^ 32 + h)
  super_same h = ap (is_given_head h) s.super_is ∙ super_by_id sup.super_blob h

  called_same : (name : List ℕ) (x : Option Volume) (m : Option Meta) → ShowsAt f x m
      → option_map_or (λ y. bytes_eq (told y.live name_key) name) x false ≡ option_map_or (is_called name) m false
  called_same name None None e = refl
  called_same name (Some x) (Some m) e = ap (λ t. bytes_eq t name) e.name_told
  called_same name None (Some m) e = absurd e
  called_same name (Some x) None e = absurd e

  -- a volume has a name exactly where its blob is meant by it
  named_same : (name : List ℕ) (h : ℕ) → has_name f v name h ≡ is_meant sup.super_blob metas (Named name) h
  named_same name h = ap (λ b. not b && option_map_or (λ y. bytes_eq (told y.live name_key) name) (v h) false)
      (super_same h)
      ∙ ap (λ b. not (sup.super_blob == 2 ^ 32 + h) && b) (called_same name (v h) (map.get metas h) (s.shown h))

  there_same_at : (x : Option Volume) (m : Option Meta) → ShowsAt f x m → is_some x ≡ is_some m
  there_same_at None None e = refl
  there_same_at (Some x) (Some m) e = refl
  there_same_at None (Some m) e = absurd e
  there_same_at (Some x) None e = absurd e

  -- a volume is live exactly where its blob is there
  pub there_same : (h : ℕ) → is_some (v h) ≡ is_some (map.get metas h)
  there_same h = there_same_at (v h) (map.get metas h) (s.shown h)

  -- the volume at the head of a blob shows it
  pub volume_shown : (h : ℕ) (m : Meta) → map.get metas h ≡ Some m → (x : Volume) × (v h ≡ Some x) × ShowsMeta f x m
  volume_shown h m there = at (v h) refl (subst (ShowsAt f (v h)) there (s.shown h))
    where
      at : (o : Option Volume) → v h ≡ o → ShowsAt f o (Some m) → (x : Volume) × (v h ≡ Some x) × ShowsMeta f x m
      at None is e = absurd e
      at (Some x) is e = (x, is, e)

  -- the least head that passes is the one that is meant
  pub head_of_least : (volume : VolumeRef) (h : ℕ) → IsLeast (is_meant sup.super_blob metas volume) h
      → head_of f v volume ≡ Some h
  head_of_least (Head k) h least =
      let parts = and_parts (h == k) (is_some (map.get metas h)) least.passes in
      let same : h ≡ k = omega (arith, eqb-true h k parts.0) in
      let there : is_some (v k) ≡ true = there_same k ∙ ap (λ i. is_some (map.get metas i)) (sym same) ∙ parts.1 in
      rw there (ap Some (sym same))
  head_of_least (Named name) h least = find_first (has_name f v name) 0 f.md_len h (omega arith)
      (let below = s.heads_below h (meant_there sup.super_blob metas (Named name) h least.passes) in omega arith)
      (named_same name h ∙ least.passes) (λ k low lt. named_same name k ∙ least.none_below k lt)

  -- where no head passes, none is meant
  pub head_of_none : (volume : VolumeRef) → ((h : ℕ) → h < 2 ^ 32 → is_meant sup.super_blob metas volume h ≡ false)
      → head_of f v volume ≡ None
  head_of_none (Head k) fails = elim (cases_Bool (is_some (map.get metas k))) [
    | inl there ↦
        let few = s.few_heads in
        let below = s.heads_below k there in
        absurd (false≢true (sym (fails k (omega arith)) ∙ own k there))
    | inr gone ↦ rw (there_same k ∙ gone) refl
  ]
  head_of_none (Named name) fails = find_none (has_name f v name) 0 f.md_len
      (λ k low lt. named_same name k ∙ fails k (let few = s.few_heads in omega arith))

  slots_same_at : (x : Option Volume) (m : Option Meta) → ShowsAt f x m
      → option_map_or (slots_of f) x 0 ≡ option_map_or (λ n. length n.map) m 0
  slots_same_at None None e = refl
  slots_same_at (Some x) (Some m) e = e.slots_are
  slots_same_at None (Some m) e = absurd e
  slots_same_at (Some x) None e = absurd e

  -- the slots of the volume at a head
  pub slots_same : (h : ℕ) → slots_at f v h ≡ option_map_or (λ n. length n.map) (map.get metas h) 0
  slots_same h = slots_same_at (v h) (map.get metas h) (s.shown h)

  -- the slots of all volumes
  pub all_same : all_slots f v ≡ slots_together f.md_len (map.get metas)
  all_same = ap (λ (g : ℕ → ℕ). sum_by g (heads f)) (fun_ext slots_same)

  -- what adds up over all heads
  pub all_are : (slots : ℕ) → HasSlots metas slots → all_slots f v ≡ slots
  all_are slots has = all_same ∙ has f.md_len s.few_heads s.heads_below

  -- heads are below the number of metadata pages
  pub heads_fit : HeadsFit metas
  heads_fit h past = none_of (map.get metas h)
      (λ there. let few = s.few_heads in let below = s.heads_below h there in omega arith)

  -- the parent of a volume, by its blob's
  pub longer_same : (x : Volume) (m : Meta) → ShowsMeta f x m
      → has_longer_parent f v x (slots_of f x) ≡ longer_by_metadata metas m
  longer_same x m e =
      ap (λ n. has_longer_parent f v x n) e.slots_are
      ∙ ap (λ o. option_map_or (λ p. nat_lt (length m.map) (slots_at f v p)) o false) e.parent_is
      ∙ ap (λ (g : ℕ → ℕ). option_map_or (λ p. nat_lt (length m.map) (g p)) (parent_of m) false) (fun_ext slots_same)

-- what was found in metadata is what is meant
pub found_is_meant : (metas : map.FinMap nat_cmp Meta) (sup : Super) (volume : VolumeRef) (o : Option ℕ)
    → IfSome o (λ h. IsLeast (is_meant sup.super_blob metas volume) h)
    → IfNone o ((h : ℕ) → h < 2 ^ 32 → is_meant sup.super_blob metas volume h ≡ false) → IsHeadMeant metas sup volume o
found_is_meant metas sup volume None some none = λ f v s. head_of_none f sup metas v s volume none
found_is_meant metas sup volume (Some h) some none = λ f v s. head_of_least f sup metas v s volume h some
