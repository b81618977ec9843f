-- The pages of volumes as a running store shows them, and where they lie.
use Rattle.std.proofs.Common.{◌≡◌, ℕ, ◌+◌, ◌-◌, ◌*◌, ◌%◌, ◌/◌, ◌^◌, ◌<◌, ◌≤◌, suc, Bool, true, false, Option, Some}
use Rattle.std.proofs.Common.{None}
use Rattle.std.proofs.Common.{List, [], ◌∷◌}
use Rattle.std.proofs.Common.{add-one, inl, inr, zero, length, refl, sym, ap, subst, ◌∙◌, arith}
use Rattle.std.specs.Prelude.{if◌then◌else◌, nat_le, nat_lt, slice_get}
use Rattle.std.specs.Option.{option_and_then, option_map, option_map_or}
use Rattle.std.proofs.lemmas.Bool.{cases_lt, le-leb, leb-true}
use Rattle.page_disk.specs.Disk.{Image}
use Rattle.std.specs.Ordering.{nat_cmp}
use Rattle.std.specs.FinMap as map
use Rattle.std.proofs.Math.Nat.{mod-lt, mul-le-mul_right}
use Rattle.std.proofs.lemmas.List.FromFn.{get_or-map-range_with_len, length-map-range_with_len}
use Rattle.std.proofs.lemmas.Option.{same_Some}
use Rattle.super_block.specs.Numbers.{cluster_pages_of, clusters_of}
use Rattle.super_block.specs.Placed.{IsPlaced}
use Rattle.volume_model.specs.Refusals.{refusal}
use Rattle.volume_model.specs.Volumes.{Volume, head_of, is_super, slots_of, zero_page}
use Rattle.volume_model.specs.declared.command.Command.TheVariants as c
use Rattle.volume_model.specs.declared.command.PageWord.{PageWord}
use Rattle.volume_model.specs.declared.command.VolumeRef.{VolumeRef}
use Rattle.volume_model.specs.declared.reply.Reply.TheVariants as r
use Rattle.blob_meta.specs.declared.meta.Meta.{Meta}
use Rattle.blob_meta.specs.Asked.{first_cause}
use Rattle.blob_meta.specs.declared.fault.MetaFault.TheVariants as faults
use Rattle.blob_meta.specs.Faults.{bad_mark, cluster_outside, first_some, hole_in_thick, map_fault, too_large}
use Rattle.blob_meta.specs.Faults.{unknown_flag}
use Rattle.descriptors.specs.Runs.{at_most}
use Rattle.blob_meta.specs.Pages.{parent_with, place_by, place_read, ShowsPages}
use Rattle.blob_meta.specs.Parents.{is_read_only, parent_of, slot}
use Rattle.blob_meta.specs.Resolving.{resolved}
use Rattle.blob_meta.specs.SlotCounts.{HeadsFit}
use Rattle.blob_meta.proofs.Refused.{at_volume}
use Rattle.store_model.specs.Maps.{Metas}
use Rattle.store_model.specs.Shown.{content, content_by, fixed_of, volume_of}
use Rattle.store_model.specs.StoreState.{shown, StoreState}
use Rattle.store_model.proofs.Shows.{or_empty, resolved_faultless}
use Rattle.store_model.proofs.SlotSums.{slots_shown}
use Rattle.store_model.proofs.Inside.{none_second}
use Rattle.store_model.specs.Regions.{region_of}
use Rattle.store_model.proofs.Used.{within}
use Rattle.running_store.specs.RunningState.{IsRunning}
use Rattle.running_store.proofs.PlainFacts.{got}
use Rattle.store_model.proofs.Resolved.{resolved_mapped, resolved_stored}
use Rattle.running_store.proofs.Showing.{shows_metas}

-- where the cause of a read doesn't hold, the page is there
first_false : (long page : ℕ) → first_cause ((nat_le long page, r.OutOfRange) ∷ []) ≡ None → page < long
first_false long page none = elim (cases_lt page long) [
  | inl lt ↦ lt
  | inr ge ↦ absurd (let bad : Some r.OutOfRange ≡ None =
      sym (ap (λ (b : Bool). first_cause ((b, r.OutOfRange) ∷ [])) (le-leb long page ge)) ∙ none in cc bad)
]

-- a page's content is what is read where it lies, or zeros
module _ (k : ℕ) (image : Image) (metas : Metas) where
  -- so many steps through parents
  abbrev IsReadAfter : ℕ → ℕ → Type 0
  IsReadAfter times page = (head : ℕ)
      → content k image metas times head page ≡ option_map_or image (place_read k metas times head page) zero_page

  has : (times page q : ℕ) → IsReadAfter times page → (b : Bool)
      → (if b then content k image metas times q page else zero_page)
      ≡ option_map_or image (option_and_then (λ q. place_read k metas times q page) (if b then Some q else None))
      zero_page
  has times page q so_far true = so_far q
  has times page q so_far false = refl

  below : (times page q : ℕ) → IsReadAfter times page → (o : Option Meta)
      → option_map_or (λ parent. if nat_lt page (k * length parent.map) then content k image metas times q page
      else zero_page) o zero_page
      ≡ option_map_or image (option_and_then (λ q. place_read k metas times q page) (option_and_then
      (λ parent. if nat_lt page (k * length parent.map) then Some q else None) o)) zero_page
  below times page q so_far None = refl
  below times page q so_far (Some parent) = has times page q so_far (nat_lt page (k * length parent.map))

  at_parent : (times page : ℕ) → IsReadAfter times page → (o : Option ℕ)
      → option_map_or (λ q. option_map_or (λ parent.
      if nat_lt page (k * length parent.map) then content k image metas times q page else zero_page) (metas q)
      zero_page) o zero_page
      ≡ option_map_or image (option_and_then (λ q. place_read k metas times q page) (option_and_then (λ q.
      option_and_then (λ parent. if nat_lt page (k * length parent.map) then Some q else None) (metas q)) o))
      zero_page
  at_parent times page so_far None = refl
  at_parent times page so_far (Some q) = below times page q so_far (metas q)

  at_slot : (times page : ℕ) → IsReadAfter times page → (m : Meta) (o : Option ℕ) → slot m (page / k) ≡ o
      → content_by k image metas (λ a b. content k image metas times a b) page m
      ≡ option_map_or image (place_by k metas (λ a b. place_read k metas times a b) page m) zero_page
  at_slot times page so_far m None is = rw is (at_parent times page so_far (parent_of m))
  at_slot times page so_far m (Some cluster) is = rw is refl

  at_blob : (times page : ℕ) → IsReadAfter times page → (o : Option Meta)
      → option_map_or (content_by k image metas (λ a b. content k image metas times a b) page) o zero_page
      ≡ option_map_or image
      (option_and_then (place_by k metas (λ a b. place_read k metas times a b) page) o) zero_page
  at_blob times page so_far None = refl
  at_blob times page so_far (Some m) = at_slot times page so_far m (slot m (page / k)) refl

  pub read_content : (times page : ℕ) → IsReadAfter times page
  read_content zero page head = refl
  read_content (suc times) page head = at_blob times page (read_content times page) (metas head)

-- where none of the causes of a write holds, the third doesn't
third_false : (a b x : Bool)
    → first_cause ((a, r.Reserved) ∷ (b, r.OutOfRange) ∷ (x, r.ReadOnly) ∷ []) ≡ None → x ≡ false
third_false true b x none = absurd (cc none)
third_false false true x none = absurd (cc none)
third_false false false true none = absurd (cc none)
third_false false false false none = refl

-- nor does the second
second_false : (a : Bool) (long page : ℕ) (x : Bool)
    → first_cause ((a, r.Reserved) ∷ (nat_le long page, r.OutOfRange) ∷ (x, r.ReadOnly) ∷ []) ≡ None → page < long
second_false true long page x none = absurd (cc none)
second_false false long page x none = elim (cases_lt page long) [
  | inl lt ↦ lt
  | inr ge ↦ absurd (let bad : Some r.OutOfRange ≡ None =
      sym (ap (λ (b : Bool). first_cause ((b, r.OutOfRange) ∷ (x, r.ReadOnly) ∷ [])) (le-leb long page ge)) ∙ none in
      cc bad)
]

-- a map that isn't too large
none_first : {X : Type 0} (x : Option X) (rest : List (Option X)) → first_some (x ∷ rest) ≡ None → x ≡ None
none_first None rest none = refl
none_first (Some x) rest none = absurd (cc none)

module _ (p : StoreState) (running : IsRunning p) (runs : p.stopped ≡ None) (metas : map.FinMap nat_cmp Meta)
    (resolves : resolved p.base ≡ map.get metas) where
  abbrev k : ℕ
  k = cluster_pages_of p.super

  abbrev as_volume : ℕ → Meta → Volume
  as_volume h m = volume_of k p.device.reads (resolved p.base) p.super.md_len (or_empty (p.live h)) h m

  placed : IsPlaced p.super
  placed = subst IsPlaced (sym running.facts.super) running.placed

  pub pages_long : (h : ℕ) (m : Meta) → length (as_volume h m).pages ≡ k * length m.map
  pages_long h m = length-map-range_with_len (content k p.device.reads (resolved p.base) (suc p.super.md_len) h) 0
      (k * length m.map)

  pub volume_shown : (h : ℕ) (m : Meta) → map.get metas h ≡ Some m → shown p h ≡ Some (as_volume h m)
  volume_shown h m there = ap (option_map (as_volume h)) (ap (λ (b : Metas). b h) resolves ∙ there)

  whole_of : (h : ℕ) (m : Meta) → length (as_volume h m).pages ≡ k * slots_of (fixed_of p.super) (as_volume h m)
  whole_of h m = pages_long h m ∙ ap (λ n. k * n) (sym
      (slots_shown (fixed_of p.super) p.device.reads (resolved p.base) placed.some_pages (or_empty (p.live h)) h m))

  -- all volumes that are shown show the pages of its metadata
  pub shows_pages : ShowsPages (fixed_of p.super) p.super metas (shown p)
  shows_pages = record {
    shows = shows_metas p running runs metas resolves;
    cluster_pages_are = refl;
    whole = λ h x is. by h x (resolved p.base h) is;
  }
    where
      by : (h : ℕ) (x : Volume) (o : Option Meta) → option_map (as_volume h) o ≡ Some x
          → length x.pages ≡ k * slots_of (fixed_of p.super) x
      by h x None is = absurd (cc is)
      by h x (Some m) is = subst (λ (y : Volume). length y.pages ≡ k * slots_of (fixed_of p.super) y)
          (same_Some (as_volume h m) x is) (whole_of h m)

  -- what a write names that nothing refuses can be written
  pub writable : (volume : VolumeRef) (page : ℕ) (word : PageWord) (h : ℕ) (m : Meta)
      → head_of (fixed_of p.super) (shown p) volume ≡ Some h → map.get metas h ≡ Some m
      → refusal (fixed_of p.super) (shown p) (c.Write volume page word) ≡ None → is_read_only m.flags ≡ false
  writable volume page word h m meant there none =
      third_false (is_super (fixed_of p.super) h) (nat_le (length (as_volume h m).pages) page) (is_read_only m.flags)
      (sym (ap first_cause (at_volume (fixed_of p.super) (shown p) volume _ h (as_volume h m) meant
      (volume_shown h m there))) ∙ none)

  -- and has the page
  pub page_within : (volume : VolumeRef) (page : ℕ) (word : PageWord) (h : ℕ) (m : Meta)
      → head_of (fixed_of p.super) (shown p) volume ≡ Some h → map.get metas h ≡ Some m
      → refusal (fixed_of p.super) (shown p) (c.Write volume page word) ≡ None → page < k * length m.map
  page_within volume page word h m meant there none =
      subst (λ n. page < n) (pages_long h m)
      (second_false (is_super (fixed_of p.super) h) (length (as_volume h m).pages) page (is_read_only m.flags)
      (sym (ap first_cause (at_volume (fixed_of p.super) (shown p) volume _ h (as_volume h m) meant
      (volume_shown h m there))) ∙ none))

  -- a blob has at most 2^20 slots
  pub few_slots : (h : ℕ) (m : Meta) → map.get metas h ≡ Some m → length m.map ≤ 2 ^ 20
  few_slots h m there =
      let region = region_of running.store in
      let fine = resolved_faultless running.store p.base running.facts.stored h m
      (ap (λ (b : Metas). b h) resolves ∙ there) in
      let in_map : map_fault region.fixed region.clusters m.map ≡ None =
      none_second (unknown_flag m.flags) (map_fault region.fixed region.clusters m.map)
      (hole_in_thick m.flags m.map ∷ bad_mark m.internal ∷ []) fine in
      by (nat_le (length m.map) (2 ^ 20)) refl
      (none_first (too_large m.map) (cluster_outside region.fixed region.clusters m.map ∷ []) in_map)
    where
      by : (b : Bool) → nat_le (length m.map) (2 ^ 20) ≡ b → too_large m.map ≡ None → length m.map ≤ 2 ^ 20
      by true is none = leb-true (length m.map) (2 ^ 20) is
      by false is none = absurd (let bad : Some (faults.TooLarge (at_most (2 ^ 64 - 1) (length m.map))) ≡ None =
          sym (ap (λ (b : Bool). if b then None else Some (faults.TooLarge (at_most (2 ^ 64 - 1) (length m.map)))) is)
          ∙ none in
          cc bad)

  -- a cluster of a map is one of the store, and its pages lie on the device
  pub page_low : (h : ℕ) (m : Meta) (i cluster page : ℕ) → map.get metas h ≡ Some m → slot m i ≡ Some cluster
      → cluster * k + page % k < p.super.device_pages
  page_low h m i cluster page there is =
      let used = (running.facts.well runs).clusters in
      let mapped = resolved_mapped p.base cluster (record {
        head = h;
        meta = m;
        there = ap (λ (b : Metas). b h) resolves ∙ there;
        place = i;
        in_slot = is;
      }) in
      let low = within p.clusters cluster (used.mapped cluster mapped) in
      let count = used.count in
      let le : (cluster + 1) * k ≤ clusters_of p.super * k = mul-le-mul_right k (omega (arith, low, count)) in
      let rest = mod-lt page placed.some_pages in
      let on = placed.on_device in
      omega (arith, le, rest, on)

  -- what a read names that nothing refuses has the page
  pub in_range : (volume : VolumeRef) (page : ℕ) (h : ℕ) (m : Meta)
      → head_of (fixed_of p.super) (shown p) volume ≡ Some h → map.get metas h ≡ Some m
      → refusal (fixed_of p.super) (shown p) (c.Read volume page) ≡ None → page < k * length m.map
  in_range volume page h m meant there none =
      subst (λ n. page < n) (pages_long h m) (first_false (length (as_volume h m).pages) page
      (sym (ap first_cause (at_volume (fixed_of p.super) (shown p) volume _ h (as_volume h m) meant
      (volume_shown h m there))) ∙ none))

  -- such a page is shown as what is read there, or as zeros
  pub page_shown : (h : ℕ) (m : Meta) (page : ℕ) → page < k * length m.map
      → slice_get (as_volume h m).pages page
      ≡ Some (option_map_or p.device.reads (place_read k (map.get metas) (p.super.md_len + 1) h page) zero_page)
  page_shown h m page lt =
      let pages = (as_volume h m).pages in
      let n = k * length m.map in
      got pages page [] (subst (λ x. page < x) (sym (pages_long h m)) lt)
      ∙ ap (λ x. Some x) (get_or-map-range_with_len (content k p.device.reads (resolved p.base) (suc p.super.md_len) h)
      0 n page page [] lt (omega arith)
      ∙ read_content k p.device.reads (resolved p.base) (suc p.super.md_len) page h
      ∙ ap (λ (b : Metas). option_map_or p.device.reads (place_read k b (suc p.super.md_len) h page) zero_page)
      resolves
      ∙ ap (λ t. option_map_or p.device.reads (place_read k (map.get metas) t h page) zero_page)
      (sym (add-one p.super.md_len)))

  -- each head is a number of 32 bits
  pub heads_fit : HeadsFit metas
  heads_fit h high = by (map.get metas h) refl
    where
      by : (o : Option Meta) → map.get metas h ≡ o → map.get metas h ≡ None
      by None is = is
      by (Some m) is =
          let there : resolved p.base h ≡ Some m = ap (λ (b : Metas). b h) resolves ∙ is in
          let few = running.placed.few_md_pages in
          let low = (resolved_stored running.store p.base running.facts.stored h m there).low in
          absurd (omega (arith, few, low, high))

  -- so many steps through parents
  abbrev IsLowAfter : ℕ → ℕ → Type 0
  IsLowAfter times page = (h place : ℕ) → place_read k (map.get metas) times h page ≡ Some place
      → place < p.super.device_pages

  through : (times page place : ℕ) → IsLowAfter times page → (o : Option ℕ)
      → option_and_then (λ q. place_read k (map.get metas) times q page) o ≡ Some place
      → place < p.super.device_pages
  through times page place so_far None is = absurd (cc is)
  through times page place so_far (Some q) is = so_far q place is

  in_slot : (times page place h : ℕ) → IsLowAfter times page → (m : Meta) → map.get metas h ≡ Some m → (o : Option ℕ)
      → slot m (page / k) ≡ o
      → place_by k (map.get metas) (λ a b. place_read k (map.get metas) times a b) page m ≡ Some place
      → place < p.super.device_pages
  in_slot times page place h so_far m there None slot_is is =
      through times page place so_far (parent_with k (map.get metas) m page) (sym (rw slot_is refl) ∙ is)
  in_slot times page place h so_far m there (Some cluster) slot_is is =
      let both : Some (cluster * k + page % k) ≡ Some place = sym (rw slot_is refl) ∙ is in
      let e : cluster * k + page % k ≡ place = cc both in
      subst (λ n. n < p.super.device_pages) e (page_low h m (page / k) cluster page there slot_is)

  in_blob : (times page place h : ℕ) → IsLowAfter times page → (o : Option Meta) → map.get metas h ≡ o
      → option_and_then (place_by k (map.get metas) (λ a b. place_read k (map.get metas) times a b) page) o ≡ Some place
      → place < p.super.device_pages
  in_blob times page place h so_far None there is = absurd (cc is)
  in_blob times page place h so_far (Some m) there is =
      in_slot times page place h so_far m there (slot m (page / k)) refl is

  -- where it is read lies on the device
  pub read_low : (times page : ℕ) → IsLowAfter times page
  read_low zero page h place is = absurd (cc is)
  read_low (suc times) page h place is =
      in_blob times page place h (read_low times page) (map.get metas h) refl is
