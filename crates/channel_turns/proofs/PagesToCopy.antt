-- The next page that a channel's claim has to copy: where it is read, and where it goes.
use Rattle.std.proofs.Common.{◌≡◌, ℕ, suc, ◌+◌, ◌*◌, ◌<◌, ◌≤◌, Bool, true, false, Option, Some, None, refl, sym}
use Rattle.std.proofs.Common.{◌∙◌, ap, subst, arith, inl, add-one, IsTrue}
use Rattle.std.specs.Prelude.{◌↔◌, IfSome}
use Rattle.std.specs.Ordering.{nat_cmp}
use Rattle.blob_meta.specs.declared.meta.Meta.{Meta}
use Rattle.super_block.specs.declared.page.Super.{Super}
use Rattle.std.specs.Option.{option_map_or}
use Rattle.std.specs.FinMap as map
use Rattle.std.proofs.Math.Nat.{mul-le-mul_right}
use Rattle.page_disk.specs.declared.disk.PageDisk.{Ghosts}
use Rattle.super_block.specs.Numbers.{cluster_pages_of, clusters_of}
use Rattle.super_block.specs.Placed.{IsPlaced}
use Rattle.volume_model.specs.Volumes.{zero_page}
use Rattle.blob_meta.specs.Pages.{place_read}
use Rattle.blob_meta.specs.Resolving.{resolved}
use Rattle.store_model.specs.Copying.{shown_in_slot}
use Rattle.store_model.specs.Maps.{Metas}
use Rattle.store_model.specs.Rows.{Copying, OpenClaim, Row}
use Rattle.store_model.specs.StoreState.{StoreState}
use Rattle.store_model.proofs.Used.{within}
use Rattle.channel_turns.specs.ClaimTurns.{CopiesNow, WaitsToCopy}
use Rattle.running_store.specs.Stages.{to_copy_in}
use Rattle.running_store.specs.RunningState.{IsRunning}
use Rattle.running_store.specs.StoreView.{AreResolved, read_now, rows_of, state_of, StoreView}
use Rattle.channel_turns.proofs.PagesShown.{read_content, read_low}

-- ---- what is read of the claim

-- a claim with pages to copy, by what is read of its row
abbrev pub seen_copy : {D : Type 0} (d : Ghosts D) (p : StoreView D) (row : ℕ) (w : WaitsToCopy d p row)
    (claim : OpenClaim) → (rows_of p.rows row).claim ≡ Some claim → WaitsToCopy d p row
seen_copy d p row w claim is = record {
  left = w.left;
  holds = record {
    left = w.holds.left;
    claim = claim;
    is = w.holds.is ∙ ap (λ (o : Option OpenClaim). record {
      left = w.holds.left;
      stage = Copying (suc w.left);
      claim = o;
    }) (sym (ap (λ (x : Row). x.claim) w.holds.is) ∙ is);
    works = w.holds.works;
  };
  few = w.few;
}

pub left_read : {D : Type 0} (d : Ghosts D) (p : StoreView D) (row : ℕ) (w : WaitsToCopy d p row) (left : ℕ)
    → Some left ≡ to_copy_in (rows_of p.rows row).stage → left ≡ suc w.left
left_read d p row w left is =
    let both : Some left ≡ Some (suc w.left) = is ∙ ap (λ (x : Row). to_copy_in x.stage) w.holds.is in cc both

-- a test that came out so
pub late : (b : Bool) (F : Type 0) → (IsTrue b ↔ F) → b ≡ false → F → ⊥
late true F both is holds = absurd (cc is)
late false F both is holds = let bad = both.1 holds in cc bad

-- where the page is read, by the pages of a cluster
pub from_is : (metas : map.FinMap nat_cmp Meta) (sup : Super) (head slot page k : ℕ) → k ≡ cluster_pages_of sup
    → (n : ℕ) → n ≡ slot * k + page
    → place_read k (map.get metas) (sup.md_len + 1) head n
    ≡ place_read (cluster_pages_of sup) (map.get metas) (sup.md_len + 1) head (slot * cluster_pages_of sup + page)
from_is metas sup head slot page k pages n is =
    ap (λ m. place_read k (map.get metas) (sup.md_len + 1) head m) is
    ∙ ap (λ k. place_read k (map.get metas) (sup.md_len + 1) head (slot * k + page)) pages

-- ---- where a page is copied from and to

module _ {D : Type 0} (d : Ghosts D) (p : StoreView D) (row : ℕ) (running : IsRunning (state_of d p))
    (runs : p.stopped ≡ None) (are : AreResolved p.metas p.marked) (w : WaitsToCopy d p row)
    (current : map.get p.guards.generations w.holds.claim.head ≡ Some w.holds.claim.generation) where
  abbrev s : StoreState
  s = state_of d p

  abbrev k : ℕ
  k = cluster_pages_of p.super

  abbrev claim : OpenClaim
  claim = w.holds.claim

  module _ (page : ℕ) (is_next : page + suc w.left ≡ k) (from : Option ℕ)
      (from_is : from ≡ place_read k (map.get p.metas) (p.super.md_len + 1) claim.head (claim.slot * k + page)) where
    -- what the slot shows is what is read there
    shows : shown_in_slot s claim page ≡ option_map_or (read_now d p.disk) from zero_page
    shows =
        let n = claim.slot * k + page in
        read_content k s.device.reads (resolved s.base) (suc p.super.md_len) n claim.head
        ∙ ap (λ (b : Metas). option_map_or s.device.reads (place_read k b (suc p.super.md_len) claim.head n) zero_page)
        are.resolves
        ∙ ap (λ t. option_map_or s.device.reads (place_read k (map.get p.metas) t claim.head n) zero_page)
        (sym (add-one p.super.md_len))
        ∙ ap (λ (o : Option ℕ). option_map_or s.device.reads o zero_page) (sym from_is)

    pub copies_now : (to : ℕ) → to ≡ claim.cluster * k + page → CopiesNow d p row from to w.left
    copies_now to to_is = record {
      holds = w.holds;
      runs = runs;
      current = current;
      page = page;
      is_next = is_next;
      content = shows;
      to_is = sym to_is;
    }

    -- both places lie on the device
    pub from_inside : (bound : ℕ) → p.super.device_pages ≤ bound → IfSome from (λ n. n < bound)
    from_inside bound le = by from from_is
      where
        by : (o : Option ℕ)
            → o ≡ place_read k (map.get p.metas) (p.super.md_len + 1) claim.head (claim.slot * k + page)
            → IfSome o (λ n. n < bound)
        by None is = tt
        by (Some n) is =
            let low = read_low s running runs p.metas are.resolves (p.super.md_len + 1) (claim.slot * k + page)
            claim.head n
            (sym is) in
            omega (arith, low, le)

    pub to_inside : (to : ℕ) → to ≡ claim.cluster * k + page → to < p.super.device_pages
    to_inside to to_is =
        let used = (running.facts.well runs).clusters in
        let low = within p.clusters claim.cluster (used.claimed_too claim.cluster (inl (record {
          channel = row;
          claim = claim;
          held = ap (λ (x : Row). x.claim) w.holds.is;
          is = refl;
        }))) in
        let count = used.count in
        let le : (claim.cluster + 1) * k ≤ clusters_of p.super * k =
        mul-le-mul_right k (omega (arith, low, count)) in
        let on = (subst IsPlaced (sym running.facts.super) running.placed).on_device in
        let below = is_next in
        omega (arith, le, below, to_is, on)
