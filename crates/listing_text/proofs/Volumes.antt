-- The volumes of a store, one after the other.
use Rattle.std.proofs.Common.{◌≡◌, ℕ, ◌+◌, zero, suc, List, [], ◌∷◌, ◌++◌, map, sym, ap, ◌∙◌, append_assoc, arith}
use Rattle.std.proofs.Common.{None, inl, inr, refl}
use Rattle.std.specs.List.{flat_map, range_with_len}
use Rattle.std.specs.FinMap as map
use Rattle.std.proofs.lemmas.Bool.{cases_Bool}
use Rattle.std.proofs.lemmas.List.{append-nil}
use Rattle.super_block.specs.declared.page.Super.{Super}
use Rattle.volume_model.specs.Volumes.{is_given_head}
use Rattle.blob_meta.specs.Parents.{head_of_id}
use Rattle.blob_report.specs.StoreText.{MetasByHead}
use Rattle.listing_text.specs.Listing.{VolumeFacts, volume_at, volumes_below}

module _ {X : Type 0} (f : ℕ → List X) where
  last_one : (a n : ℕ) → flat_map f (range_with_len a (suc n)) ≡ flat_map f (range_with_len a n) ++ f (a + n)
  last_one a zero = let e : a ≡ a + 0 = omega arith in append-nil (f a) ∙ ap f e
  last_one a (suc n) =
      let e : a + 1 + n ≡ a + suc n = omega arith in
      ap (λ xs. f a ++ xs) (last_one (a + 1) n) ∙ sym (append_assoc (f a) _ _)
      ∙ ap (λ k. f a ++ flat_map f (range_with_len (a + 1) n) ++ f k) e

  one_more : (n : ℕ) → flat_map f (range_with_len 0 (n + 1)) ≡ flat_map f (range_with_len 0 n) ++ f n
  one_more n =
      let s : n + 1 ≡ suc n = omega arith in
      let z : 0 + n ≡ n = omega arith in
      ap (λ k. flat_map f (range_with_len 0 k)) s ∙ last_one 0 n ∙ ap (λ k. flat_map f (range_with_len 0 n) ++ f k) z

map-both : {X Y : Type 0} (g : X → Y) (xs ys : List X) → map g (xs ++ ys) ≡ map g xs ++ map g ys
map-both g [] ys = refl
map-both g (x ∷ xs) ys = ap (λ rest. g x ∷ rest) (map-both g xs ys)

module _ (sup : Super) (metas : MetasByHead) {Y : Type 0} (g : VolumeFacts → Y) where
  -- with the volume at one place more
  pub one_place_more : (head : ℕ) (before now : List Y) → before ≡ map g (volumes_below sup metas head)
      → now ≡ before ++ map g (volume_at sup metas head) → now ≡ map g (volumes_below sup metas (head + 1))
  one_place_more head before now is more =
      more ∙ ap (λ ys. ys ++ map g (volume_at sup metas head)) is
      ∙ sym (map-both g (volumes_below sup metas head) (volume_at sup metas head))
      ∙ ap (map g) (sym (one_more (volume_at sup metas) head))

  none_there : (head : ℕ) → map.get metas head ≡ None → volume_at sup metas head ≡ []
  none_there head none = elim (cases_Bool (is_given_head head (head_of_id sup.super_blob))) [
    | inl is ↦ rw is refl
    | inr not ↦ rw (not, none) refl
  ]

  -- a place without a blob adds none
  pub no_place_more : (now : List Y) (head : ℕ) → map.get metas head ≡ None → now ≡ map g (volumes_below sup metas head)
      → now ≡ map g (volumes_below sup metas (head + 1))
  no_place_more now head none is =
      one_place_more head now now is (sym (append-nil now) ∙ ap (λ xs. now ++ map g xs) (sym (none_there head none)))
