-- A cluster that holds what a slot shows is put into the slot: every volume is shown as it was.
use Rattle.std.proofs.Common.{
  ◌≡◌,
  ◌≢◌,
  ℕ,
  zero,
  suc,
  ◌+◌,
  ◌*◌,
  ◌/◌,
  ◌%◌,
  ◌<◌,
  List,
  length,
  map,
  Option,
  Some,
  None,
  refl,
  sym,
}
use Rattle.std.proofs.Common.{ap, ◌∙◌, inl, inr, subst, arith}
use Rattle.std.specs.Prelude.{nat_lt, if◌then◌else◌}
use Rattle.std.specs.List.{range_with_len}
use Rattle.std.specs.Option.{option_map, option_map_or}
use Rattle.std.proofs.lemmas.Bool.{cases_eq}
use Rattle.std.proofs.lemmas.List.{length-set}
use Rattle.std.proofs.lemmas.Nat.{div-add-mod'}
use Rattle.std.proofs.Math.Nat.{mod-lt}
use Rattle.std.proofs.Math.Path.{fun_ext}
use Rattle.page_disk.specs.Disk.{Image}
use Rattle.super_block.specs.declared.page.Super.{Super}
use Rattle.super_block.specs.Numbers.{cluster_pages_of}
use Rattle.volume_model.specs.Volumes.{Page, Volume, zero_page}
use Rattle.volume_model.specs.Xattrs.{Xattrs}
use Rattle.blob_meta.specs.declared.meta.Meta.{Meta}
use Rattle.blob_meta.specs.Parents.{parent_of, slot}
use Rattle.store_model.specs.Copying.{LeavesSlotsEmpty}
use Rattle.store_model.specs.Inserting.{with_slot}
use Rattle.store_model.specs.Maps.{Map, Metas, with_entry}
use Rattle.store_model.specs.Shown.{content, content_by, fixed_of, shown_by, volume_of}
use Rattle.shown_volumes.proofs.Fuel.{enough}
use Rattle.store_model.proofs.InsertedBlob.{slot_beside, slot_filled}
use Rattle.shown_volumes.proofs.Ranks.{Levels}
use Rattle.store_model.proofs.Shows.{or_empty}
use Rattle.shown_volumes.proofs.WithEntry.{given_here, given_elsewhere}

module _ (s : Super) (some : 0 < cluster_pages_of s) (metas : Metas) (head : ℕ) (old : Meta)
    (there : metas head ≡ Some old) (levels : Levels s.md_len metas) (i cluster : ℕ) (within : i < length old.map)
    (empty : slot old i ≡ None) where
  abbrev k : ℕ
  k = cluster_pages_of s

  abbrev next : Meta
  next = with_slot old i cluster

  abbrev nexts : Metas
  nexts = with_entry metas head next

  -- the cluster holds what the slot shows
  abbrev pub Holds : Image → Type 0
  Holds image = (n : ℕ) → n < k
      → image (cluster * k + n) ≡ content k image metas (suc s.md_len) head (i * k + n)

  -- a parent is as long as it was
  same_long : (show : ℕ → Page) (p : ℕ)
      → option_map_or (λ (x : Meta). show (length x.map)) (nexts p) zero_page
      ≡ option_map_or (λ (x : Meta). show (length x.map)) (metas p) zero_page
  same_long show p = elim (cases_eq p head) [
    | inl e ↦
        ap (λ o. option_map_or (λ (x : Meta). show (length x.map)) o zero_page) (given_here metas head next p e)
        ∙ ap show (length-set old.map i (Some cluster))
        ∙ sym (ap (λ o. option_map_or (λ (x : Meta). show (length x.map)) o zero_page) (ap metas e ∙ there))
    | inr ne ↦
        ap (λ o. option_map_or (λ (x : Meta). show (length x.map)) o zero_page) (given_elsewhere metas head next p ne)
  ]

  module _ (image : Image) (holds : Holds image) where
    -- a page, with parents followed so many times at most
    abbrev now : ℕ → ℕ → ℕ → Page
    now times h q = content k image nexts times h q

    abbrev was : ℕ → ℕ → ℕ → Page
    was times h q = content k image metas times h q

    abbrev IsSameAfter : ℕ → ℕ → Type 0
    IsSameAfter times q = (h : ℕ) → levels.level h < times → now times h q ≡ was times h q

    through : (times h q : ℕ) (m : Meta) → IsSameAfter times q → levels.level h < suc times → metas h ≡ Some m
        → (o : Option ℕ) → parent_of m ≡ o
        → option_map_or (λ p. option_map_or (λ (parent : Meta). if nat_lt q (k * length parent.map)
        then now times p q else zero_page) (nexts p) zero_page) o zero_page
        ≡ option_map_or (λ p. option_map_or (λ (parent : Meta). if nat_lt q (k * length parent.map)
        then was times p q else zero_page) (metas p) zero_page) o zero_page
    through times h q m same lt is None of = refl
    through times h q m same lt is (Some p) of =
        let falls = levels.falls h p m is of in
        same_long (λ n. if nat_lt q (k * n) then now times p q else zero_page) p
        ∙ ap (λ (x : Page). option_map_or (λ (parent : Meta). if nat_lt q (k * length parent.map) then x else zero_page)
        (metas p) zero_page) (same p (omega (arith, lt, falls)))

    -- in a slot that is as it was
    by_slot : (times h q : ℕ) (m n : Meta) → IsSameAfter times q → levels.level h < suc times → metas h ≡ Some m
        → parent_of n ≡ parent_of m → (o : Option ℕ) → slot m (q / k) ≡ o → slot n (q / k) ≡ o
        → content_by k image nexts (λ p r. now times p r) q n ≡ content_by k image metas (λ p r. was times p r) q m
    by_slot times h q m n same lt is parent None e f =
        rw (e, f, parent) (through times h q m same lt is (parent_of m) refl)
    by_slot times h q m n same lt is parent (Some c) e f = rw (e, f) refl

    -- in the one with the cluster
    in_cluster : (times q : ℕ) → levels.level head < suc times → q / k ≡ i
        → content_by k image nexts (λ p r. now times p r) q next ≡ was (suc times) head q
    in_cluster times q lt e =
        let filled : slot next (q / k) ≡ Some cluster =
        ap (slot next) e ∙ slot_filled old i cluster within empty in
        let at : i * k + q % k ≡ q = ap (λ n. n * k + q % k) (sym e) ∙ div-add-mod' q k in
        let most = levels.most head in
        rw filled (holds (q % k) (mod-lt q some) ∙ ap (was (suc s.md_len) head) at)
        ∙ enough k image s.md_len metas levels q (suc s.md_len) (suc times) head (omega (arith, most)) lt

    opened : (times h q : ℕ) (m : Meta) → metas h ≡ Some m
        → was (suc times) h q ≡ content_by k image metas (λ p r. was times p r) q m
    opened times h q m is =
        ap (λ o. option_map_or (content_by k image metas (λ p r. was times p r) q) o zero_page) is

    here : (times q : ℕ) → IsSameAfter times q → levels.level head < suc times
        → now (suc times) head q ≡ was (suc times) head q
    here times q same lt =
        ap (λ o. option_map_or (content_by k image nexts (λ p r. now times p r) q) o zero_page)
        (given_here metas head next head refl)
        ∙ elim (cases_eq (q / k) i) [
          | inl e ↦ in_cluster times q lt e
          | inr ne ↦
              by_slot times head q old next same lt there refl (slot old (q / k)) refl
              (slot_beside old i cluster within empty (q / k) ne) ∙ sym (opened times head q old there)
        ]

    beside : (times h q : ℕ) → IsSameAfter times q → levels.level h < suc times → (o : Option Meta) → metas h ≡ o
        → option_map_or (content_by k image nexts (λ p r. now times p r) q) o zero_page
        ≡ option_map_or (content_by k image metas (λ p r. was times p r) q) o zero_page
    beside times h q same lt None is = refl
    beside times h q same lt (Some m) is = by_slot times h q m m same lt is refl (slot m (q / k)) refl refl

    same_after : (times q : ℕ) → IsSameAfter times q
    same_after zero q h lt = absurd (omega (arith, lt))
    same_after (suc times) q h lt = elim (cases_eq h head) [
      | inl e ↦
          ap (λ n. now (suc times) n q) e
          ∙ here times q (same_after times q) (subst (λ n. levels.level n < suc times) e lt)
          ∙ sym (ap (λ n. was (suc times) n q) e)
      | inr ne ↦
          ap (λ o. option_map_or (content_by k image nexts (λ p r. now times p r) q) o zero_page)
          (given_elsewhere metas head next h ne)
          ∙ beside times h q (same_after times q) lt (metas h) refl
    ]

    -- each blob shows what it showed, one with this parent too
    pub same_inserted : (h q : ℕ)
        → content k image nexts (suc s.md_len) h q ≡ content k image metas (suc s.md_len) h q
    same_inserted h q = let most = levels.most h in same_after (suc s.md_len) q h (omega (arith, most))

    abbrev volume : Metas → Xattrs → ℕ → Meta → Volume
    volume all live h m = volume_of k image all s.md_len live h m

    -- so does its volume
    same_volume : (live : Xattrs) (h : ℕ) (m : Meta) → volume nexts live h m ≡ volume metas live h m
    same_volume live h m =
        ap (λ (g : ℕ → List ℕ). record (volume metas live h m) { pages = map g (range_with_len 0 (k * length m.map)) })
        (fun_ext (λ q. same_inserted h q))

    longer : (live : Xattrs) (h : ℕ) → volume metas live h next ≡ volume metas live h old
    longer live h = ap (λ n. record (volume metas live h old) {
      pages = map (content k image metas (suc s.md_len) h) (range_with_len 0 (k * n));
    }) (length-set old.map i (Some cluster))

    pub shown_same : (live : Map Xattrs)
        → shown_by (fixed_of s) image nexts live ≡ shown_by (fixed_of s) image metas live
    shown_same live = fun_ext (λ h. elim (cases_eq h head) [
      | inl e ↦
          ap (λ o. option_map (volume nexts (or_empty (live h)) h) o) (given_here metas head next h e)
          ∙ ap (λ x. Some x) (same_volume (or_empty (live h)) h next ∙ longer (or_empty (live h)) h)
          ∙ sym (ap (λ o. option_map (volume metas (or_empty (live h)) h) o) (ap metas e ∙ there))
      | inr ne ↦
          ap (λ o. option_map (volume nexts (or_empty (live h)) h) o) (given_elsewhere metas head next h ne)
          ∙ others (or_empty (live h)) h (metas h)
    ])
      where
        others : (xs : Xattrs) (h : ℕ) (o : Option Meta)
            → option_map (volume nexts xs h) o ≡ option_map (volume metas xs h) o
        others xs h None = refl
        others xs h (Some m) = ap (λ x. Some x) (same_volume xs h m)

  -- a slot that is empty then was empty, and shows what it showed
  pub leaves_inserted : (h : ℕ) → LeavesSlotsEmpty s metas nexts Holds h
  leaves_inserted h page m is none = elim (cases_eq h head) [
    | inl e ↦
        let one : next ≡ m = let both = sym (given_here metas head next h e) ∙ is in cc both in
        let at : slot next (page / k) ≡ None = ap (λ (x : Meta). slot x (page / k)) one ∙ none in
        let ne : page / k ≢ i = λ same.
        let bad = sym at ∙ ap (slot next) same ∙ slot_filled old i cluster within empty in cc bad in
        record {
          old = old;
          there = ap metas e ∙ there;
          empty = sym (slot_beside old i cluster within empty (page / k) ne) ∙ at;
          same = λ image holds. same_inserted image holds h page;
        }
    | inr ne ↦ record {
      old = m;
      there = sym (given_elsewhere metas head next h ne) ∙ is;
      empty = none;
      same = λ image holds. same_inserted image holds h page;
    }
  ]
