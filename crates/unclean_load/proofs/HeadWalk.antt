-- What is known while the heads of a region are read.
use Rattle.std.proofs.Common.{◌≡◌, ℕ, ◌+◌, ◌^◌, ◌<◌, ◌≤◌, List, length, Option, Some, None, refl, sym, ap}
use Rattle.std.proofs.Common.{subst, ◌∙◌, inl, inr, arith, below_more}
use Rattle.std.specs.Prelude.{IsTrue}
use Rattle.std.specs.Option.{option_map_or}
use Rattle.std.specs.Ordering.{nat_cmp}
use Rattle.std.specs.FinMap as map
use Rattle.std.proofs.lemmas.Bool.{cases_eq}
use Rattle.page_disk.specs.Disk.{Image}
use Rattle.page_disk.specs.declared.disk.PageDisk.{Ghosts}
use Rattle.super_block.specs.declared.page.Super.{Super}
use Rattle.blob_meta.specs.declared.meta.Meta.{Meta}
use Rattle.blob_meta.specs.Resolving.{slots_together}
use Rattle.md_chain.specs.Chain.{Look}
use Rattle.md_chain.specs.Reading.{OnlyRead, region_look}
use Rattle.md_chain.proofs.DeviceWalk.{no_read, read_on}
use Rattle.store_model.specs.Maps.{Metas, Chains, with_entry}
use Rattle.store_model.specs.Regions.{MdRegion, region_of}
use Rattle.store_model.specs.Scans.{MetaAt}
use Rattle.store_model.specs.Steady.{IsStored}
use Rattle.store_model.proofs.WithEntry.{given_here, given_elsewhere}
use Rattle.unclean_load.specs.declared.heads.Blob.{Blob}
use Rattle.unclean_load.specs.declared.heads.Heads.{Heads}
use Rattle.unclean_load.specs.Heads.{AreWholeBelow, PlaceSays}
use Rattle.unclean_load.specs.Reading.{SaysAt, AreRead, HasNoneFrom, IsChainOf}
use Rattle.unclean_load.specs.Reading.{meta_in, chain_in}
use Rattle.unclean_load.specs.Reads.{pages_together, reads_to_test}
use Rattle.running_store.proofs.Maps.{insert_given}
use Rattle.unclean_load.proofs.Taken.{stored, chain_of_region}
use Rattle.unclean_load.proofs.FewPages.{pages_at, pages_more, pages_same, tests_more}
use Rattle.unclean_load.proofs.Sums.{sum_more, sum_same}

-- what is known of the blobs read so far, at the heads below a place
pub record Walked {D : Type 0} (d : Ghosts D) (s : Super) (heads : Heads) (first disk : D) (metas : Metas)
    (chains : Chains) (slots place : ℕ) : Type 0 where
  pub same : OnlyRead d first disk
  pub quiet : d.read_faults disk ≡ d.read_faults first
  pub reads : d.reads disk ≤ d.reads first + reads_to_test heads place + pages_together place chains
  pub told : IsTrue d.tells → AreWholeBelow (region_look s (d.now first)) (region_of s) heads place metas chains
  pub read : AreRead s metas chains
  pub none : HasNoneFrom metas place
  pub count : slots ≡ slots_together place metas
  pub few : slots ≤ 2 ^ 24

-- the slots of one head
abbrev slots_at : Metas → ℕ → ℕ
slots_at metas = λ head. option_map_or (λ (m : Meta). length m.map) (metas head) 0

-- the slots of the maps at one place more
pub slots_more : (metas : Metas) (place : ℕ)
    → slots_together (place + 1) metas ≡ slots_together place metas + slots_at metas place
slots_more metas place = sum_more (slots_at metas) place

-- maps that are the same below a place have as many slots there
pub slots_same : (metas other : Metas) (place : ℕ) → ((k : ℕ) → k < place → metas k ≡ other k)
    → slots_together place metas ≡ slots_together place other
slots_same metas other place same =
    sum_same (slots_at metas) (slots_at other) place
    (λ k lt. ap (λ (o : Option Meta). option_map_or (λ (m : Meta). length m.map) o 0) (same k lt))

-- what the maps say of a head that a place has
pub the_one : (look : Look) (r : MdRegion) (heads : Heads) (place : ℕ) (blob : Blob)
    → PlaceSays look r heads place (Some blob.meta) (Some blob.pages)
    → MetaAt look r place blob.meta blob.pages
the_one look r heads place blob (inl x) =
    let w = x.blob in
    let m : w.meta ≡ blob.meta = let e = w.meta_is in cc e in
    let p : w.pages ≡ blob.pages = let e = w.pages_are in cc e in
    subst (λ (n : Meta). MetaAt look r place n blob.pages) m
    (subst (λ (q : List ℕ). MetaAt look r place w.meta q) p w.says)
the_one look r heads place blob (inr w) = let e = w.no_meta in absurd (cc e)

module _ {D : Type 0} (d : Ghosts D) (s : Super) (heads : Heads) (first : D) where
  -- no place was read yet
  pub begun : (metas : Metas) (chains : Chains) → ((k : ℕ) → metas k ≡ None) → ((k : ℕ) → chains k ≡ None)
      → Walked d s heads first first metas chains 0 0
  begun metas chains none no_chain = record {
    same = no_read d first;
    quiet = refl;
    reads = omega arith;
    told =
        λ _. record {
          blobs = λ k lt. absurd (omega (arith, lt));
          few = omega arith;
        };
    read = record {
      stored = λ k m there. let no = none k in absurd (cc (no, there));
      chain = λ k m there. let no = none k in absurd (cc (no, there));
      none = λ k _. no_chain k;
    };
    none = λ k _. none k;
    count = refl;
    few = omega arith;
  }

  module _ (disk : D) (metas : Metas) (chains : Chains) (slots place : ℕ)
      (w : Walked d s heads first disk metas chains slots place) where
    -- the pages of the region are what they were at first
    pub look_first : IsTrue d.tells → region_look s (d.now disk) ≡ region_look s (d.now first)
    look_first told = ap (λ (image : Image). region_look s image) (w.same.now told)

    -- and so is what they say of the place
    pub blob_first : (blob : Option Blob) → SaysAt d s disk heads place blob → IsTrue d.tells
        → PlaceSays (region_look s (d.now first)) (region_of s) heads place (meta_in blob) (chain_in blob)
    blob_first blob x told =
        subst (λ (look : Look). PlaceSays look (region_of s) heads place (meta_in blob) (chain_in blob))
        (x.seen told ∙ look_first told) x.says

    -- ---- the place has no head

    module _ (new : D) (on : OnlyRead d disk new) (still : d.read_faults new ≡ d.read_faults disk) where
      no_slots : slots_together (place + 1) metas ≡ slots_together place metas
      no_slots =
          let x =
          slots_more metas place in let y : slots_at metas place ≡ 0 =
          ap (λ (o : Option Meta). option_map_or (λ (m : Meta). length m.map) o 0) (w.none place (omega arith)) in
          omega (arith, x, y)

      -- there is no blob at the place
      pub none_there : d.reads new ≤ d.reads disk + reads_to_test heads 1 → SaysAt d s disk heads place None
          → Walked d s heads first new metas chains slots (place + 1)
      none_there more x = record {
        same = read_on d first disk new w.same on;
        quiet = still ∙ w.quiet;
        reads =
            let a = w.reads in
            let b = tests_more heads place in
            let c = pages_more chains place in
            let e : pages_at chains place ≡ 0 =
            ap (λ (o : Option (List ℕ)). option_map_or (λ (pages : List ℕ). length pages) o 0)
            (w.read.none place (w.none place (omega arith))) in
            omega (arith, a, b, c, e, more);
        told = λ told. let t = w.told told in record {
          blobs =
              below_more (λ k. PlaceSays (region_look s (d.now first)) (region_of s) heads k (metas k) (chains k)) place
              t.blobs
              (subst
              (λ (m : Option Meta). PlaceSays (region_look s (d.now first)) (region_of s) heads place m (chains place))
              (sym (w.none place (omega arith)))
              (subst
              (λ (c : Option (List ℕ)). PlaceSays (region_look s (d.now first)) (region_of s) heads place None c)
              (sym (w.read.none place (w.none place (omega arith)))) (blob_first None x told)));
          few = let f = t.few in let e = no_slots in omega (arith, f, e);
        };
        read = w.read;
        none = λ k le. w.none k (omega (arith, le));
        count = w.count ∙ sym no_slots;
        few = w.few;
      }

      -- ---- the place has a blob

      module _ (blob : Blob) (more : d.reads new ≤ d.reads disk + reads_to_test heads 1 + length blob.pages)
          (x : SaysAt d s disk heads place (Some blob)) (few : slots + length blob.meta.map ≤ 2 ^ 24) where
        abbrev metas_now : Metas
        metas_now = with_entry metas place blob.meta

        abbrev chains_now : Chains
        chains_now = with_entry chains place blob.pages

        meta_here : (k : ℕ) → k ≡ place → metas_now k ≡ Some blob.meta
        meta_here = given_here metas place blob.meta

        says : MetaAt x.look (region_of s) place blob.meta blob.pages
        says = the_one x.look (region_of s) heads place blob x.says

        slots_now : slots_together (place + 1) metas_now ≡ slots_together place metas + length blob.meta.map
        slots_now =
            let a = slots_more metas_now place in
            let b : slots_at metas_now place ≡ length blob.meta.map =
            ap (λ (o : Option Meta). option_map_or (λ (m : Meta). length m.map) o 0) (meta_here place refl) in
            let c =
            slots_same metas_now metas place
            (λ k lt. given_elsewhere metas place blob.meta k (λ e. absurd (omega (arith, e, lt)))) in
            omega (arith, a, b, c)

        pages_now : pages_together (place + 1) chains_now ≡ pages_together place chains + length blob.pages
        pages_now =
            let a = pages_more chains_now place in
            let b : pages_at chains_now place ≡ length blob.pages =
            ap (λ (o : Option (List ℕ)). option_map_or (λ (pages : List ℕ). length pages) o 0)
            (given_here chains place blob.pages place refl) in
            let c =
            pages_same chains_now chains place
            (λ k lt. given_elsewhere chains place blob.pages k (λ e. absurd (omega (arith, e, lt)))) in
            omega (arith, a, b, c)

        blob_now : IsTrue d.tells → (k : ℕ) → k < place + 1
            → PlaceSays (region_look s (d.now first)) (region_of s) heads k (metas_now k) (chains_now k)
        blob_now told k lt = elim (cases_eq k place) [
          | inl here ↦
              subst
              (λ (m : Option Meta). PlaceSays (region_look s (d.now first)) (region_of s) heads k m (chains_now k))
              (sym (meta_here k here))
              (subst
              (λ (c : Option (List ℕ)).
              PlaceSays (region_look s (d.now first)) (region_of s) heads k (Some blob.meta) c)
              (sym (given_here chains place blob.pages k here))
              (subst (λ (n : ℕ). PlaceSays (region_look s (d.now first)) (region_of s) heads n (Some blob.meta)
              (Some blob.pages)) (sym here) (blob_first (Some blob) x told)))
          | inr other ↦
              subst
              (λ (m : Option Meta). PlaceSays (region_look s (d.now first)) (region_of s) heads k m (chains_now k))
              (sym (given_elsewhere metas place blob.meta k other))
              (subst
              (λ (c : Option (List ℕ)). PlaceSays (region_look s (d.now first)) (region_of s) heads k (metas k) c)
              (sym (given_elsewhere chains place blob.pages k other))
              ((w.told told).blobs k (omega (arith, lt, other))))
        ]

        same_meta : (k : ℕ) (m : Meta) → k ≡ place → metas_now k ≡ Some m → blob.meta ≡ m
        same_meta k m here there = let e = meta_here k here in cc (e, there)

        read_now : AreRead s metas_now chains_now
        read_now = record {
          stored = λ k m there. elim (cases_eq k place) [
            | inl here ↦
                subst (λ (n : Meta). IsStored s k n) (same_meta k m here there)
                (subst (λ (n : ℕ). IsStored s n blob.meta) (sym here)
                (stored x.look s place blob.meta blob.pages says))
            | inr other ↦ w.read.stored k m (sym (given_elsewhere metas place blob.meta k other) ∙ there)
          ];
          chain = λ k m there. elim (cases_eq k place) [
            | inl here ↦ (
              blob.pages,
              given_here chains place blob.pages k here,
              subst
                  (λ (n : ℕ). IsChainOf s.md_len n blob.pages) (sym here)
                  (chain_of_region x.look s place blob.meta blob.pages says),
            )
            | inr other ↦
                let c =
                w.read.chain k m (sym (given_elsewhere metas place blob.meta k other) ∙ there) in
                (c.0, given_elsewhere chains place blob.pages k other ∙ c.1, c.2)
          ];
          none = λ k no. elim (cases_eq k place) [
            | inl here ↦ let e = meta_here k here in absurd (cc (e, no))
            | inr other ↦
                given_elsewhere chains place blob.pages k other
                ∙ w.read.none k (sym (given_elsewhere metas place blob.meta k other) ∙ no)
          ];
        }

        -- the blob at the place is added
        pub one_there : Walked d s heads first new metas_now chains_now (slots + length blob.meta.map) (place + 1)
        one_there = record {
          same = read_on d first disk new w.same on;
          quiet = still ∙ w.quiet;
          reads =
              let a = w.reads in
              let b = tests_more heads place in
              let c = pages_now in
              omega (arith, a, b, c, more);
          told = λ told. record {
            blobs = blob_now told;
            few = let a = slots_now in let b = w.count in omega (arith, a, b, few);
          };
          read = read_now;
          none =
              λ k le. given_elsewhere metas place blob.meta k (λ e. absurd (omega (arith, e, le)))
              ∙ w.none k (omega (arith, le));
          count = let a = slots_now in let b = w.count in omega (arith, a, b);
          few = few;
        }

-- the maps of the code
module _ {D : Type 0} (d : Ghosts D) (s : Super) (heads : Heads) (first disk : D) (metas : map.FinMap nat_cmp Meta)
    (chains : map.FinMap nat_cmp (List ℕ)) where
  -- what holds with the blob given holds with it put into the maps
  pub inserted : (slots place head : ℕ) (m : Meta) (pages : List ℕ)
      → Walked d s heads first disk (with_entry (map.get metas) head m) (with_entry (map.get chains) head pages) slots
      place
      → Walked d s heads first disk (map.get (map.insert metas head m)) (map.get (map.insert chains head pages)) slots
      place
  inserted slots place head m pages w =
      subst (λ (f : Metas). Walked d s heads first disk f (map.get (map.insert chains head pages)) slots place)
      (sym (insert_given metas head m))
      (subst (λ (f : Chains). Walked d s heads first disk (with_entry (map.get metas) head m) f slots place)
      (sym (insert_given chains head pages)) w)
