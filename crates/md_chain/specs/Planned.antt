-- The pages by which items are written as a chain.
use Rattle.std.specs.Prelude.{◌≡◌, ℕ, suc, ◌+◌, ◌-◌, IsTrue, List, [], ◌∷◌, ◌++◌, drop, replicate, slice_index_or}
use Rattle.std.specs.List.{flat_map}
use Rattle.crc32c.specs.Crc.{is_sound}
use Rattle.descriptors.specs.declared.item.Item.{Item}
use Rattle.descriptors.specs.Grammar.{Spells}
use Rattle.descriptors.specs.Writing.{spelling, spelled_size}
use Rattle.md_page.specs.Page.{id_of, sequence_of, body_of, next_of, page_bytes}
use Rattle.md_chain.specs.Chain.{blob_id, chain_end}
use Rattle.md_chain.specs.Packing.{parts_of}
use Rattle.md_chain.specs.declared.plan.PlannedPage.{PlannedPage}

-- The nth page of the chain of a head, with these items in its body, zeros behind them, and this next place.
unfoldable pub page_written : ℕ → ℕ → List Item → ℕ → List ℕ
page_written head n part next = page_bytes (record {
  id = blob_id head;
  sequence = n;
  body = spelling part ++ replicate (4072 - spelled_size part) 0;
  next = next;
})

-- the place that comes next, or the end of the chain
abbrev pub next_in : List ℕ → ℕ
next_in [] = chain_end
next_in (place ∷ _) = place

-- the pages from the nth on, which is at this place: one for each part, at the places in their order
abbrev pub pages_from : ℕ → ℕ → ℕ → List ℕ → List (List Item) → List PlannedPage
pages_from head n place fresh [] = []
pages_from head n place fresh (part ∷ parts) = record { place = place; page = page_written head n part (next_in fresh) }
    ∷ pages_from head (suc n) (next_in fresh) (drop 1 fresh) parts

-- the pages of the items, the first at the head and the others at the fresh places
abbrev pub chain_pages : List Item → ℕ → List ℕ → List PlannedPage
chain_pages items head fresh = pages_from head 0 head fresh (parts_of items)

-- the items that stand in these pages: the runs may have several descriptors
abbrev pub written_items : List Item → List Item
written_items items = flat_map (λ part. part) (parts_of items)

-- a page that is read as the nth of a head's chain, with these items and this next place
pub record IsNthPage (head n : ℕ) (part : List Item) (next : ℕ) (page : List ℕ) : Type 0 where
  pub sound : IsTrue (is_sound page)
  pub id : id_of page ≡ blob_id head
  pub sequence : sequence_of page ≡ n
  pub spells : Spells (body_of page) part
  pub next_is : next_of page ≡ next

-- The ith page of a plan stands at the ith of these places, and is read as the ith of the head's chain.
pub record IsPageOfPlan (head : ℕ) (places : List ℕ) (parts : List (List Item)) (i : ℕ) (p : PlannedPage) : Type 0 where
  pub place : p.place ≡ slice_index_or places i chain_end
  pub page : IsNthPage head i (slice_index_or parts i []) (slice_index_or places (i + 1) chain_end) p.page
