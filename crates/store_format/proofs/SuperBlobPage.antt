-- The super blob of a new store is written on one page, which is its whole chain and says its metadata.
use Rattle.std.proofs.Common.{◌≡◌, ℕ, ◌+◌, ◌-◌, ◌^◌, ◌<◌, ◌≤◌, true, List, [], ◌∷◌, length, Some, None, refl, sym, ap}
use Rattle.std.proofs.Common.{subst, ◌∙◌, arith, get_or, length-append}
use Rattle.std.specs.Prelude.{nat_eq}
use Rattle.std.specs.List.{All, flat_map, IsDistinct}
use Rattle.std.proofs.lemmas.Bool.{le-leb}
use Rattle.std.proofs.lemmas.List.Elements.{All-nil, All-cons}
use Rattle.volume_model.proofs.UuidTexts.{length-uuid_text}
use Rattle.volume_model.specs.Names.{IsName}
use Rattle.volume_model.specs.Uuids.{uuid_text}
use Rattle.volume_model.specs.Volumes.{Fixed, two_xattrs, Volumes}
use Rattle.volume_model.specs.Xattrs.{name_key, uuid_key, with_nul, Xattrs}
use Rattle.volume_model.specs.declared.lists.SlotRun.{SlotRun}
use Rattle.descriptors.specs.Runs.{slots_in, IsLongest}
use Rattle.descriptors.specs.declared.item.Item.{Item}
use Rattle.descriptors.specs.declared.item.Item.TheVariants as item
use Rattle.blob_meta.specs.Items.{flags_item, items_of, IsItemsOf}
use Rattle.blob_meta.specs.Jobs.{new_meta}
use Rattle.blob_meta.specs.Says.{meta_of}
use Rattle.blob_meta.specs.declared.meta.Meta.{Meta}
use Rattle.md_chain.specs.Chain.{Chain, Look}
use Rattle.md_chain.specs.Packing.{on_first, parts_from, parts_of, AreFew, ArePlannable}
use Rattle.md_chain.specs.Planned.{chain_pages, pages_from, written_items}
use Rattle.md_chain.specs.declared.plan.PlannedPage.{PlannedPage}
use Rattle.store_format.specs.SuperBlob.{store_xattrs, super_blob_page, super_items, super_meta, IsReadable}
use Rattle.store_format.specs.declared.super_blob.StoreName.{StoreName}

-- ---- its descriptors

-- the attributes of a new volume with this name and uuid, whatever the store
pub are_store_xattrs : (named : StoreName) (xattrs : Xattrs)
    → ((f : Fixed) (v : Volumes) → xattrs ≡ two_xattrs f v named.name (Some named.uuid)) → xattrs ≡ store_xattrs named
are_store_xattrs named xattrs two =
    two (record { cluster_pages = 1; md_len = 1; super_blob = None }) (λ head. None)

items_without_slots : (m : Meta) (items : List Item) → m.map ≡ []
    → ((a b : List SlotRun) → IsLongest a → IsLongest b → slots_in a ≡ slots_in b → a ≡ b)
    → IsItemsOf m items → items ≡ items_of m []
items_without_slots m items none one are =
    are.items_are ∙ ap (items_of m) (one are.runs [] are.longest tt (are.spelt ∙ none))

-- the items of the new blob are those of the super blob
pub items_are : (named : StoreName) (xattrs : Xattrs) (m : Meta) (items : List Item) → xattrs ≡ store_xattrs named
    → m ≡ new_meta 0 xattrs true 0
    → ((a b : List SlotRun) → IsLongest a → IsLongest b → slots_in a ≡ slots_in b → a ≡ b)
    → IsItemsOf m items → items ≡ super_items named
items_are named xattrs m items two is one are =
    let m_is : m ≡ super_meta named = is ∙ ap (λ xs. new_meta 0 xs true 0) two in
    items_without_slots (super_meta named) items refl one (subst (λ (n : Meta). IsItemsOf n items) m_is are)

-- ---- its page

pub few : (named : StoreName) → AreFew (super_items named)
few named = omega arith

one_place : IsDistinct nat_eq (0 ∷ [])
unfolding IsDistinct
one_place = (tt, tt)

module _ (named : StoreName) (is_name : IsName named.name) where
  short_name : length (with_nul named.name) ≤ 64
  short_name = omega (arith, length-append named.name (0 ∷ []), is_name.most)

  short_uuid : length (with_nul (uuid_text named.uuid)) ≡ 37
  short_uuid = omega (arith, length-append (uuid_text named.uuid) (0 ∷ []), length-uuid_text named.uuid)

  pub plannable : ArePlannable (super_items named)
  plannable = (omega (arith, short_name), (omega (arith, short_uuid), tt))

  -- two attributes that fit what is left of a page
  two_fit : (room : ℕ) (k v l w : List ℕ) → 9 + length k + length v ≤ room
      → 9 + length l + length w ≤ room - (9 + length k + length v)
      → parts_from room (item.Xattr k v ∷ item.Xattr l w ∷ []) ≡ (item.Xattr k v ∷ item.Xattr l w ∷ []) ∷ []
  two_fit room k v l w first second =
      rw (le-leb (9 + length k + length v) room first)
      (rw (le-leb (9 + length l + length w) (room - (9 + length k + length v)) second) refl)

  one_part : parts_of (super_items named) ≡ super_items named ∷ []
  one_part =
      ap (on_first (flags_item (super_meta named) ∷ []))
      (two_fit 4043 name_key (with_nul named.name) uuid_key (with_nul (uuid_text named.uuid))
      (omega (arith, short_name)) (omega (arith, short_name, short_uuid)))

  -- it needs no page behind the head
  pub one_page : length (parts_of (super_items named)) ≡ 1
  one_page = ap (λ (parts : List (List Item)). length parts) one_part

  planned_page : chain_pages (super_items named) 0 []
      ≡ record { place = 0; page = super_blob_page named } ∷ []
  planned_page = ap (pages_from 0 0 0 []) one_part

  written_as_given : written_items (super_items named) ≡ super_items named
  written_as_given = ap (λ (parts : List (List Item)). flat_map (λ part. part) parts) one_part

  pub says_super_meta : meta_of 0 (super_items named) ≡ super_meta named
  says_super_meta = refl

  -- what is said of a plan of these items, at the head and these places
  abbrev IsSaid : List PlannedPage → List Item → List ℕ → Type 0
  IsSaid plan items fresh =
      (look : Look) (md_len : ℕ) → md_len < 2 ^ 32 → IsDistinct nat_eq (0 ∷ fresh) → All (λ p. p < md_len) (0 ∷ fresh)
      → All (λ p. look p.place ≡ p.page) plan → Chain look md_len 0 (written_items items) (0 ∷ fresh)

  readable_by : (plan : List PlannedPage) → plan ≡ chain_pages (super_items named) 0 []
      → IsSaid plan (super_items named) [] → IsReadable named
  readable_by plan is said = record {
    is_name = is_name;
    chain = λ look md_len some few here.
        subst (λ (items : List Item). Chain look md_len 0 items (0 ∷ [])) written_as_given
        (said look md_len few one_place (All-cons (λ p. p < md_len) 0 [] some (All-nil (λ p. p < md_len)))
        (subst (All (λ (p : PlannedPage). look p.place ≡ p.page)) (sym (is ∙ planned_page))
        (All-cons (λ (p : PlannedPage). look p.place ≡ p.page) (record { place = 0; page = super_blob_page named }) []
        here (All-nil (λ (p : PlannedPage). look p.place ≡ p.page)))));
  }

  -- the plan of the page says that it is a chain
  pub readable : (plan : List PlannedPage) (items : List Item) (fresh : List ℕ) → items ≡ super_items named → fresh ≡ []
      → plan ≡ chain_pages items 0 fresh → IsSaid plan items fresh → IsReadable named
  readable plan items fresh are none =
      subst (λ (xs : List Item). plan ≡ chain_pages xs 0 fresh → IsSaid plan xs fresh → IsReadable named) (sym are)
      (subst
      (λ (ps : List ℕ). plan ≡ chain_pages (super_items named) 0 ps → IsSaid plan (super_items named) ps
      → IsReadable named) (sym none) (readable_by plan))

  -- and its first page is the super blob's
  pub page_planned : (plan : List PlannedPage) (items : List Item) (fresh : List ℕ) → items ≡ super_items named
      → fresh ≡ [] → plan ≡ chain_pages items 0 fresh → (any : PlannedPage)
      → (get_or plan 0 any).page ≡ super_blob_page named
  page_planned plan items fresh are none is any =
      ap (λ (l : List PlannedPage). (get_or l 0 any).page)
      (is ∙ ap (λ (xs : List Item). chain_pages xs 0 fresh) are ∙ ap (chain_pages (super_items named) 0) none
      ∙ planned_page)
