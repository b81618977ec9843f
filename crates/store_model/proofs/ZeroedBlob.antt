-- A blob with claimed clusters in slots that were empty: it is steady, all metadata is lawful with it, and it shows
-- what it showed where the clusters read as zeros and so did the slots.
use Rattle.std.proofs.Common.{◌≡◌, ◌≢◌, ◌⊎◌, ℕ, suc, ◌+◌, ◌*◌, ◌/◌, ◌%◌, ◌<◌, ◌≤◌, ◌^◌, Bool, true, false}
use Rattle.std.proofs.Common.{List}
use Rattle.std.proofs.Common.{length, map, Option, Some, None, refl, sym, ap, ◌∙◌, subst, inl, inr, arith}
use Rattle.std.specs.List.{range_with_len}
use Rattle.std.specs.Option.{option_map_or}
use Rattle.std.proofs.lemmas.Bool.{cases_eq}
use Rattle.std.proofs.Math.Path.{fun_ext}
use Rattle.page_disk.specs.Disk.{Image}
use Rattle.volume_model.specs.Volumes.{Page, zero_page}
use Rattle.volume_model.specs.Xattrs.{Xattrs}
use Rattle.blob_meta.specs.declared.meta.Meta.{Meta}
use Rattle.super_block.specs.declared.page.Super.{Super}
use Rattle.blob_meta.specs.Faults.{bad_mark, hole_in_thick, is_outside, map_fault, unknown_flag}
use Rattle.blob_meta.specs.Says.{without_bit_1}
use Rattle.md_chain.specs.Chain.{blob_id}
use Rattle.store_model.specs.Regions.{region_of}
use Rattle.store_model.specs.Steady.{CanBeWritten, IsSteady, IsUnmarked, NamesHead}
use Rattle.shown_volumes.proofs.EmptyMaps.{empty_slot}
use Rattle.blob_meta.specs.Jobs.{new_meta}
use Rattle.std.proofs.lemmas.List.{length-replicate}
use Rattle.blob_meta.specs.Parents.{is_read_only, parent_of, slot}
use Rattle.blob_meta.specs.Resolving.{IsLawful, slots_together}
use Rattle.md_chain.specs.Chain.{is_among}
use Rattle.store_model.specs.Maps.{Metas, with_entry}
use Rattle.store_model.specs.Places.{IsMapped}
use Rattle.store_model.specs.Shown.{content, content_by, volume_of}
use Rattle.store_model.proofs.Elsewhere.{IsChildless, same_elsewhere, through}
use Rattle.shown_volumes.proofs.WithEntry.{given_here, given_elsewhere}
use Rattle.store_model.proofs.ZeroSlots.{IsZeroedAt}
pub use Rattle.shown_volumes.proofs.MapTests.{
  all_filled,
  all_inside,
  all_pass,
  clear_flags,
  few_pass,
  known_flags,
  slot_filled,
  slot_in,
}

-- What is known of it: but for the map it is the same, each slot is as it was or has a claimed cluster, and no cluster
-- is in two of them.
pub record IsZeroed (m later : Meta) (claimed : List ℕ) : Type 0 where
  pub rest : later ≡ record m { map = later.map }
  pub long : length later.map ≡ length m.map
  pub each : (i : ℕ) → (slot later i ≡ slot m i) ⊎ IsZeroedAt m later claimed i
  pub once : (i j c : ℕ) → is_among c claimed ≡ true → slot later i ≡ Some c → slot later j ≡ Some c → i ≡ j

-- ---- what it shows

module _ (k : ℕ) (image : Image) (md_len : ℕ) (m later : Meta) (claimed : List ℕ) (is : IsZeroed m later claimed)
    (zeros : (page cluster : ℕ) → is_among cluster claimed ≡ true → image (cluster * k + page % k) ≡ zero_page)
    (metas others : Metas) (head : ℕ) (there : metas head ≡ Some m) (now : others head ≡ Some later)
    (elsewhere : (h : ℕ) → h ≢ head → others h ≡ metas h) (childless : IsChildless metas head)
    (were_zeros : (q : ℕ) → IsZeroedAt m later claimed (q / k) → content k image metas (suc md_len) head q ≡ zero_page)
  where
    parent_same : parent_of later ≡ parent_of m
    parent_same = ap (λ (n : Meta). parent_of n) is.rest

    -- a page of a slot that stays
    by_slot : (q : ℕ) (o : Option ℕ) → slot m (q / k) ≡ o → slot later (q / k) ≡ o
        → content_by k image others (λ p r. content k image others md_len p r) q later
        ≡ content_by k image metas (λ p r. content k image metas md_len p r) q m
    by_slot q None e f = rw (e, f, parent_same)
        (through k metas others head elsewhere childless image image (λ _ _ _ _ _ _ _. refl) md_len head q m
        (same_elsewhere k metas others head elsewhere childless image image (λ _ _ _ _ _ _ _. refl) md_len q) there
        (parent_of m) refl)
    by_slot q (Some cluster) e f = rw (e, f) refl

    -- a page of a slot that gets a cluster
    by_cluster : (q cluster : ℕ) → slot later (q / k) ≡ Some cluster
        → content_by k image others (λ p r. content k image others md_len p r) q later ≡ image (cluster * k + q % k)
    by_cluster q cluster at = rw at refl

    same_page : (q : ℕ) → content k image others (suc md_len) head q ≡ content k image metas (suc md_len) head q
    same_page q =
        ap (λ o. option_map_or (content_by k image others (λ p r. content k image others md_len p r) q) o zero_page) now
        ∙ elim (is.each (q / k)) [
          | inl same ↦ by_slot q (slot m (q / k)) refl same
              ∙ sym (ap
              (λ o. option_map_or (content_by k image metas (λ p r. content k image metas md_len p r) q) o zero_page)
              there)
          | inr x ↦ by_cluster q x.cluster x.at ∙ zeros q x.cluster x.among ∙ sym (were_zeros q x)
        ]

    pub volume_zeroed : (live : Xattrs)
        → volume_of k image others md_len live head later ≡ volume_of k image metas md_len live head m
    volume_zeroed live =
        ap (λ (n : Meta). record (volume_of k image others md_len live head n) {
          pages = map (content k image others (suc md_len) head) (range_with_len 0 (k * length later.map));
        }) is.rest
        ∙ ap (λ (pages : List Page). record (volume_of k image metas md_len live head m) { pages = pages })
        (ap (λ n. map (content k image others (suc md_len) head) (range_with_len 0 (k * n))) is.long
        ∙ ap (λ (g : ℕ → Page). map g (range_with_len 0 (k * length m.map))) (fun_ext same_page))

-- ---- with it all metadata is lawful

module _ (md_len : ℕ) (metas : Metas) (head : ℕ) (m later : Meta) (claimed : List ℕ) (is : IsZeroed m later claimed)
    (fresh : (c : ℕ) → is_among c claimed ≡ true → ¬ IsMapped (with_entry metas head m) c) where
  abbrev before : Metas
  before = with_entry metas head m

  abbrev after : Metas
  after = with_entry metas head later

  -- a blob as it was before
  record Had (h : ℕ) (n : Meta) : Type 0 where
    old : Meta
    was : before h ≡ Some old
    rest : n ≡ record old { map = n.map }
    each : (i c : ℕ) → slot n i ≡ Some c → (slot old i ≡ Some c) ⊎ ((is_among c claimed ≡ true) × (h ≡ head))

  had : (h : ℕ) (n : Meta) → after h ≡ Some n → Had h n
  had h n now = elim (cases_eq h head) [
    | inl e ↦
        let one : later ≡ n = let both = sym (given_here metas head later h e) ∙ now in cc both in
        record {
          old = m;
          was = given_here metas head m h e;
          rest = subst (λ (y : Meta). y ≡ record m { map = y.map }) one is.rest;
          each = λ i c at.
              let mine : slot later i ≡ Some c = subst (λ (y : Meta). slot y i ≡ Some c) (sym one) at in
              elim (is.each i) [
                | inl same ↦ inl (sym same ∙ mine)
                | inr x ↦
                    let e2 : x.cluster ≡ c = let both = sym x.at ∙ mine in cc both in
                    inr (subst (λ y. is_among y claimed ≡ true) e2 x.among, e)
              ];
        }
    | inr ne ↦ record {
      old = n;
      was = given_elsewhere metas head m h ne ∙ sym (given_elsewhere metas head later h ne) ∙ now;
      rest = refl;
      each = λ i c at. inl at;
    }
  ]

  not_mapped : (h i c : ℕ) (n : Meta) → before h ≡ Some n → slot n i ≡ Some c → is_among c claimed ≡ true → ⊥
  not_mapped h i c n there at among =
      fresh c among (record { head = h; meta = n; there = there; place = i; in_slot = at })

  at_head : (h i c : ℕ) (n : Meta) → after h ≡ Some n → h ≡ head → slot n i ≡ Some c → slot later i ≡ Some c
  at_head h i c n now e at =
      let one : later ≡ n = let both = sym (given_here metas head later h e) ∙ now in cc both in
      subst (λ (y : Meta). slot y i ≡ Some c) (sym one) at

  still_read_only : (p : ℕ) (n : Meta) → before p ≡ Some n → is_read_only n.flags ≡ true
      → (parent : Meta) × (after p ≡ Some parent) × (is_read_only parent.flags ≡ true)
  still_read_only p n there on = elim (cases_eq p head) [
    | inl e ↦
        let one : m ≡ n = let both = sym (given_here metas head m p e) ∙ there in cc both in (
          later,
          given_here metas head later p e,
          ap (λ (y : Meta). is_read_only y.flags) is.rest ∙ ap (λ (y : Meta). is_read_only y.flags) one ∙ on,
        )
    | inr ne ↦ (
      n,
      given_elsewhere metas head later p ne ∙ sym (given_elsewhere metas head m p ne) ∙ there,
      on,
    )
  ]

  pub lawful_zeroed : IsLawful md_len before → slots_together md_len after ≤ 2 ^ 24 → IsLawful md_len after
  lawful_zeroed law few = record {
    alone = λ h k i j c x y hx ky xi yj.
        let a = had h x hx in
        let b = had k y ky in
        elim (a.each i c xi) [
          | inl old ↦ elim (b.each j c yj) [
            | inl other ↦ law.alone h k i j c a.old b.old a.was b.was old other
            | inr claimed_there ↦ absurd (not_mapped h i c a.old a.was old claimed_there.0)
          ]
          | inr here ↦ elim (b.each j c yj) [
            | inl other ↦ absurd (not_mapped k j c b.old b.was other here.0)
            | inr there ↦ (
              here.1 ∙ sym there.1,
              is.once i j c here.0 (at_head h i c x hx here.1 xi) (at_head k j c y ky there.1 yj),
            )
          ]
        ];
    parents = λ h p x hx of.
        let a = had h x hx in
        let up = law.parents h p a.old a.was (sym (ap (λ (y : Meta). parent_of y) a.rest) ∙ of) in
        still_read_only p up.0 up.1 up.2;
    rank = law.rank;
    falls = λ h p x hx of.
        let a = had h x hx in law.falls h p a.old a.was (sym (ap (λ (y : Meta). parent_of y) a.rest) ∙ of);
    few = few;
  }

-- ---- it is steady

-- all that is asked of it, but that no slot of a thick blob is empty
pub record IsSteadyBut (s : Super) (head : ℕ) (m : Meta) : Type 0 where
  pub low : head < s.md_len
  pub id : m.id ≡ blob_id head
  pub clear : without_bit_1 m.flags.invalid ≡ m.flags.invalid
  pub xattrs : CanBeWritten m.xattrs
  pub internal : CanBeWritten m.internal
  pub flags : unknown_flag m.flags ≡ None
  pub few : length m.map ≤ 2 ^ 20
  pub inside : (i c : ℕ) → slot m i ≡ Some c → is_outside (region_of s).fixed (region_of s).clusters c ≡ false
  pub marks : bad_mark m.internal ≡ None
  pub named : NamesHead m
  pub unmarked : IsUnmarked m

pub zeroed_steady : (s : Super) (head : ℕ) (m later : Meta) (claimed : List ℕ) → IsZeroed m later claimed
    → IsSteadyBut s head m
    → ((c : ℕ) → is_among c claimed ≡ true → is_outside (region_of s).fixed (region_of s).clusters c ≡ false)
    → hole_in_thick m.flags later.map ≡ None → IsSteady s head later
zeroed_steady s head m later claimed is but inside full =
    subst (IsSteady s head) (sym is.rest) (record {
      stored = record {
        low = but.low;
        id = but.id;
        clear = but.clear;
        xattrs = but.xattrs;
        internal = but.internal;
        faultless = all_pass _ _ _ _ but.flags map_passes full but.marks;
      };
      named = but.named;
      unmarked = but.unmarked;
    })
  where
    slot_inside : (i c : ℕ) → slot_in later.map i ≡ Some c
        → is_outside (region_of s).fixed (region_of s).clusters c ≡ false
    slot_inside i c at = elim (is.each i) [
      | inl same ↦ but.inside i c (sym same ∙ at)
      | inr x ↦
          let e : x.cluster ≡ c = let both = sym x.at ∙ at in cc both in
          inside c (subst (λ n. is_among n claimed ≡ true) e x.among)
    ]

    map_passes : map_fault (region_of s).fixed (region_of s).clusters later.map ≡ None
    map_passes =
        rw (
          few_pass (length m.map) later.map is.long but.few,
          all_inside (region_of s).fixed (region_of s).clusters
              later.map slot_inside,
        )
        refl

-- a new blob's, before its slots get clusters
pub new_but : (s : Super) (head : ℕ) (xattrs : Xattrs) (thick : Bool) (slots : ℕ) → head < s.md_len
    → CanBeWritten xattrs → slots ≤ 2 ^ 20 → IsSteadyBut s head (new_meta head xattrs thick slots)
new_but s head xattrs thick slots low can few = record {
  low = low;
  id = refl;
  clear = clear_flags thick;
  xattrs = can;
  internal = record { names = tt; short = tt };
  flags = known_flags thick;
  few = omega (arith, few, length-replicate {A = Option ℕ} slots None);
  inside = λ i c at. absurd (let bad = sym (empty_slot slots i) ∙ at in cc bad);
  marks = refl;
  named = refl;
  unmarked = refl;
}
