-- What other blobs show, where one that is nobody's parent has other metadata, or is new.
use Rattle.std.proofs.Common.{◌≡◌, ◌≢◌, ℕ, zero, suc, ◌*◌, ◌/◌, false, List, length, map, Option, Some, None, refl, ap}
use Rattle.std.proofs.Common.{◌∙◌, inl}
use Rattle.std.specs.Prelude.{nat_lt, if◌then◌else◌}
use Rattle.std.specs.List.{range_with_len}
use Rattle.std.specs.Option.{option_map_or}
use Rattle.std.proofs.Math.Path.{fun_ext}
use Rattle.page_disk.specs.Disk.{Image}
use Rattle.volume_model.specs.Volumes.{Page, zero_page}
use Rattle.volume_model.specs.Xattrs.{Xattrs}
use Rattle.blob_meta.specs.declared.meta.Meta.{Meta}
use Rattle.blob_meta.specs.Parents.{parent_of, slot}
use Rattle.store_model.specs.Maps.{Metas}
use Rattle.store_model.specs.Shown.{content, content_by, volume_of}
use Rattle.store_model.specs.Agreeing.{AgreeOn}

-- No blob has this parent.
abbrev pub IsChildless : Metas → ℕ → Type 0
IsChildless metas head = (h p : ℕ) (m : Meta) → metas h ≡ Some m → parent_of m ≡ Some p → p ≢ head

-- no page of a cluster that some slot has is read otherwise later
module _ (k : ℕ) (metas others : Metas) (head : ℕ) (elsewhere : (h : ℕ) → h ≢ head → others h ≡ metas h)
    (childless : IsChildless metas head) (now later : Image) (kept : AgreeOn k metas (λ h q. false) now later) where
  -- so many steps through parents, from another blob
  abbrev IsSameAfter : ℕ → ℕ → Type 0
  IsSameAfter times q = (h : ℕ) → h ≢ head → content k later others times h q ≡ content k now metas times h q

  pub through : (times h q : ℕ) (n : Meta) → IsSameAfter times q → metas h ≡ Some n → (o : Option ℕ) → parent_of n ≡ o
      → option_map_or (λ p. option_map_or (λ parent. if nat_lt q (k * length parent.map)
      then content k later others times p q else zero_page) (others p) zero_page) o zero_page
      ≡ option_map_or (λ p. option_map_or (λ parent. if nat_lt q (k * length parent.map)
      then content k now metas times p q else zero_page) (metas p) zero_page) o zero_page
  through times h q n same there None of = refl
  through times h q n same there (Some p) of =
      let ne = childless h p n there of in
      ap (λ (o : Option Meta). option_map_or (λ (parent : Meta). if nat_lt q (k * length parent.map)
      then content k later others times p q else zero_page) o zero_page) (elsewhere p ne)
      ∙ ap (λ (x : Page). option_map_or (λ (parent : Meta). if nat_lt q (k * length parent.map) then x else zero_page)
      (metas p) zero_page) (same p ne)

  -- a slot that is as it was
  old_slot : (times h q : ℕ) (n : Meta) → IsSameAfter times q → metas h ≡ Some n → (o : Option ℕ) → slot n (q / k) ≡ o
      → content_by k later others (λ p r. content k later others times p r) q n
      ≡ content_by k now metas (λ p r. content k now metas times p r) q n
  old_slot times h q n same there None e = rw e (through times h q n same there (parent_of n) refl)
  old_slot times h q n same there (Some c) e = rw e (kept h q c n there e (inl refl))

  one_more : (times h q : ℕ) → IsSameAfter times q → (o : Option Meta) → metas h ≡ o
      → option_map_or (content_by k later others (λ p r. content k later others times p r) q) o zero_page
      ≡ option_map_or (content_by k now metas (λ p r. content k now metas times p r) q) o zero_page
  one_more times h q same None there = refl
  one_more times h q same (Some n) there = old_slot times h q n same there (slot n (q / k)) refl

  pub same_elsewhere : (times q : ℕ) → IsSameAfter times q
  same_elsewhere zero q h ne = refl
  same_elsewhere (suc times) q h ne = ap (λ (o : Option Meta).
      option_map_or (content_by k later others (λ p r. content k later others times p r) q) o zero_page)
      (elsewhere h ne)
      ∙ one_more times h q (same_elsewhere times q) (metas h) refl

  -- so the volume of another blob is shown as it was
  pub volume_elsewhere : (md_len : ℕ) (live : Xattrs) (h : ℕ) (m : Meta) → h ≢ head
      → volume_of k later others md_len live h m ≡ volume_of k now metas md_len live h m
  volume_elsewhere md_len live h m ne =
      let same : content k later others (suc md_len) h ≡ content k now metas (suc md_len) h =
      fun_ext (λ q. same_elsewhere (suc md_len) q h ne) in
      ap (λ (g : ℕ → List ℕ). record (volume_of k now metas md_len live h m) {
        pages = map g (range_with_len 0 (k * length m.map));
      }) same
