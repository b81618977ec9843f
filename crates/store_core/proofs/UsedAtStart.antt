-- What is in use at a start: what the blobs that stay claim, and what those that recovery removes have.
use Rattle.std.proofs.Common.{◌≡◌, ◌↔◌, ◌∙◌, ℕ, ◌<◌, ◌≤◌, true, List, [], length, Option, Some, None, IsSome}
use Rattle.std.proofs.Common.{refl, sym, ap, subst, inl, inr, arith}
use Rattle.std.specs.Option.{option_and_then}
use Rattle.std.specs.Ordering.{nat_cmp}
use Rattle.std.specs.FinMap as map
use Rattle.std.proofs.Math.Path.{fun_ext}
use Rattle.std.proofs.lemmas.Bool.{cases_lt}
use Rattle.bit_array.specs.Bits.{is_in}
use Rattle.super_block.specs.declared.page.Super.{Super}
use Rattle.super_block.specs.declared.masks.Masks.{Masks}
use Rattle.blob_meta.specs.declared.job.Replacement.{Replacement}
use Rattle.blob_meta.specs.declared.meta.Meta.{Meta}
use Rattle.blob_meta.specs.Resolving.{resolved}
use Rattle.store_model.specs.Maps.{Metas, Chains}
use Rattle.store_model.specs.Places.{IsLinked, IsMapped, Unclaimed, UsedClusters, UsedPages}
use Rattle.store_model.specs.Regions.{region_of}
use Rattle.store_model.proofs.Inside.{inside_slot}
use Rattle.store_model.proofs.Resolved.{resolved_mapped, resolved_of, slot_of}
use Rattle.running_store.specs.Recovered.{chains_of, IsRecovered}
use Rattle.job_begins.proofs.CutClusters.{in_slot}
use Rattle.store_core.specs.Removing.{those_below, AreWith, FitMasks}
use Rattle.store_core.proofs.ReadBlobs.{removed_read, stays_or_goes}
use Rattle.store_core.proofs.Starts.{below_in, below_past}

-- a chain of some of the blobs is one of them all
chain_was : (blobs : Metas) (links : Chains) (h : ℕ) (pages : List ℕ) → chains_of blobs links h ≡ Some pages
    → IsSome (blobs h) × (links h ≡ Some pages)
chain_was blobs links h pages = by (blobs h)
  where
    by : (o : Option Meta) → option_and_then (λ (m : Meta). links h) o ≡ Some pages → IsSome o × (links h ≡ Some pages)
    by None is = absurd (cc is)
    by (Some m) is = (refl, is)

-- the chain of one of the blobs
pub chain_is : (blobs : Metas) (links : Chains) (h : ℕ) (m : Meta) (pages : List ℕ) → blobs h ≡ Some m
    → links h ≡ Some pages → chains_of blobs links h ≡ Some pages
chain_is blobs links h m pages there is = ap (option_and_then (λ (x : Meta). links h)) there ∙ is

-- what is there is something
pub some_of : {X : Type 0} (o : Option X) → IsSome o → (x : X) × (o ≡ Some x)
some_of None bad = absurd (cc bad)
some_of (Some x) is = (x, refl)

module _ (s : Super) (read : Metas) (links : Chains) (metas gone marked : map.FinMap nat_cmp Meta)
    (list : List Replacement) (used : Masks)
    (from : IsRecovered s read links metas gone marked list used) where
  gone_was : (h : ℕ) (m : Meta) → map.get gone h ≡ Some m → read h ≡ Some m
  gone_was h m is = removed_read read h m (ap (λ (f : Metas). f h) from.removes ∙ is)

  gone_low : (h : ℕ) → IsSome (map.get gone h) → h < s.md_len
  gone_low h some = let x = some_of (map.get gone h) some in (from.stored h x.0 (gone_was h x.0 x.1)).low

  -- each blob that is removed has its places among those of the masks
  pub removed_fit : FitMasks (map.get gone) links used
  removed_fit = record {
    chain = λ h some.
        let x = some_of (map.get gone h) some in
        let chain = from.chains.chain h x.0 (gone_was h x.0 x.1) in
        subst (λ (o : Option (List ℕ)). IsSome o) (sym chain.1) refl;
    head = λ h some. subst (λ n. h < n) (sym from.masks.count) (gone_low h some);
    pages = λ place x.
        let chain = chain_was (map.get gone) links x.head x.pages x.chain in
        subst (λ n. place < n) (sym from.masks.pages.count) (from.chains.low x.head place x.pages chain.1 x.among);
    clusters = λ h m c there among.
        let at = in_slot m.map c among in
        let stored = from.stored h m (gone_was h m there) in
        subst (λ n. c < n) (sym from.masks.clusters.count)
        (inside_slot (region_of s).fixed (region_of s).clusters m at.i c stored.faultless at.at).below;
  }

  -- all of them have their heads below the number of metadata pages
  below_all : those_below (map.get gone) s.md_len ≡ map.get gone
  below_all = fun_ext (λ h. elim (cases_lt h s.md_len) [
    | inl lt ↦ below_in (map.get gone) s.md_len h lt
    | inr ge ↦ below_past (map.get gone) s.md_len h ge ∙ sym (none_by (map.get gone h) ge refl)
  ])
    where
      none_by : {h : ℕ} (o : Option Meta) → s.md_len ≤ h → map.get gone h ≡ o → map.get gone h ≡ None
      none_by None ge is = is
      none_by {h} (Some m) ge is = absurd (let low = gone_low h (subst (λ (o : Option Meta). IsSome o) (sym is) refl) in
          omega (arith, low, ge))

  module _ (now : Masks) (with : AreWith (those_below (map.get gone) s.md_len) links used now) where
    adds : AreWith (map.get gone) links used now
    adds = subst (λ (blobs : Metas). AreWith blobs links used now) below_all with

    -- a chain's place is that of a blob that stays, or of one that is removed
    linked : (place : ℕ) → IsLinked links place → is_in now.pages place ≡ true
    linked place x = by (read x.head) refl
      where
        by : (o : Option Meta) → read x.head ≡ o → is_in now.pages place ≡ true
        by None none = absurd (let bad = sym (from.chains.none x.head none) ∙ x.chain in cc bad)
        by (Some m) there = elim (stays_or_goes read x.head m there) [
          | inl stays ↦ (adds.pages place).1 (inl (from.masks.pages.linked place (record {
            head = x.head;
            pages = x.pages;
            chain = chain_is (resolved read) links x.head stays.new x.pages stays.there x.chain;
            among = x.among;
          })))
          | inr goes ↦ (adds.pages place).1 (inr (record {
            head = x.head;
            pages = x.pages;
            chain = chain_is (map.get gone) links x.head m x.pages
                (ap (λ (f : Metas). f x.head) (sym from.removes) ∙ goes) x.chain;
            among = x.among;
          }))
        ]

    unlinked : (blobs : Metas) (place : ℕ) → IsLinked (chains_of blobs links) place → IsLinked links place
    unlinked blobs place x = record {
      head = x.head;
      pages = x.pages;
      chain = (chain_was blobs links x.head x.pages x.chain).1;
      among = x.among;
    }

    pub pages_used : UsedPages s.md_len now.pages links []
    pages_used = record {
      count = adds.page_count ∙ from.masks.pages.count;
      linked = linked;
      held_too = λ place bad. absurd (cc bad);
      no_other = λ place set. inl (elim ((adds.pages place).0 set) [
        | inl was ↦ elim (from.masks.pages.no_other place was) [
          | inl x ↦ unlinked (resolved read) place x
          | inr bad ↦ absurd (cc bad)
        ]
        | inr x ↦ unlinked (map.get gone) place x
      ]);
      apart = λ place bad x. cc bad;
    }

    mapped : (cluster : ℕ) → IsMapped read cluster → is_in now.clusters cluster ≡ true
    mapped cluster x = elim (stays_or_goes read x.head x.meta x.there) [
      | inl stays ↦ (adds.clusters cluster).1 (inl (from.masks.clusters.mapped cluster (record {
        head = x.head;
        meta = stays.new;
        there = stays.there;
        place = x.place;
        in_slot = slot_of x.meta stays.new x.place cluster (sym stays.same_map) x.in_slot;
      })))
      | inr goes ↦ (adds.clusters cluster).1 (inr (record {
        head = x.head;
        meta = x.meta;
        there = ap (λ (f : Metas). f x.head) (sym from.removes) ∙ goes;
        place = x.place;
        in_slot = x.in_slot;
      }))
    ]

    pub clusters_used : UsedClusters s now.clusters read Unclaimed
    clusters_used = record {
      count = adds.cluster_count ∙ from.masks.clusters.count;
      fixed = λ cluster low below. (adds.clusters cluster).1 (inl (from.masks.clusters.fixed cluster low below));
      mapped = mapped;
      claimed_too = λ cluster bad. absurd bad;
      no_other = λ cluster set. elim ((adds.clusters cluster).0 set) [
        | inl was ↦ elim (from.masks.clusters.no_other cluster was) [
          | inl fixed ↦ inl fixed
          | inr other ↦ elim other [
            | inl x ↦ inr (inl (resolved_mapped read cluster x))
            | inr bad ↦ absurd bad
          ]
        ]
        | inr x ↦ inr (inl (record {
          head = x.head;
          meta = x.meta;
          there = gone_was x.head x.meta x.there;
          place = x.place;
          in_slot = x.in_slot;
        }))
      ];
      apart = λ cluster bad. absurd bad;
    }

    pub heads_count : length now.blobs ≡ s.md_len
    heads_count = adds.head_count ∙ from.masks.count

    -- the heads are those of all blobs that were read
    pub heads_are : (head : ℕ) → head < s.md_len → (is_in now.blobs head ≡ true) ↔ IsSome (read head)
    heads_are head low = (
      λ set. elim ((adds.heads head).0 set) [
        | inl was ↦
            let x = some_of (resolved read head) ((from.masks.blobs head low).0 was) in
            let old = resolved_of read head x.0 x.1 in
            subst (λ (o : Option Meta). IsSome o) (sym old.there) refl
        | inr some ↦
            let x = some_of (map.get gone head) some in
            subst (λ (o : Option Meta). IsSome o) (sym (gone_was head x.0 x.1)) refl
      ],
      λ some.
          let x = some_of (read head) some in
          elim (stays_or_goes read head x.0 x.1) [
            | inl stays ↦ (adds.heads head).1 (inl ((from.masks.blobs head low).1
                (subst (λ (o : Option Meta). IsSome o) (sym stays.there) refl)))
            | inr goes ↦ (adds.heads head).1 (inr (subst (λ (o : Option Meta). IsSome o)
                (sym (ap (λ (f : Metas). f head) (sym from.removes) ∙ goes)) refl))
          ],
    )
