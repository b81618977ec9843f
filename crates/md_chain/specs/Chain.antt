-- The chain of a blob's metadata pages, and the first fault where a head has none. Pages are seen through a function
-- that gives the page at each place of the metadata region.
use Rattle.std.specs.Prelude.{◌≡◌, ℕ, suc, ◌+◌, ◌^◌, Bool, false, ◌==◌, nat_lt, not, if◌then◌else◌, List, [], ◌∷◌, ◌++◌}
use Rattle.std.specs.Prelude.{Option, Some, None}
use Rattle.std.specs.List.{list_any, AllByRecursion}
use Rattle.crc32c.specs.Crc.{is_sound}
use Rattle.md_page.specs.Page.{id_of, sequence_of, body_of, next_of}
use Rattle.descriptors.specs.declared.item.Item.{Item}
use Rattle.descriptors.specs.Grammar.{Spells, Spoils}
use Rattle.md_chain.specs.declared.fault.ChainFault.{ChainFault}
use Rattle.md_chain.specs.declared.fault.ChainFault.TheVariants as faults

-- the page at each place
abbrev pub Look : Type 0
Look = ℕ → List ℕ

-- the number that ends a chain
abbrev pub chain_end : ℕ
chain_end = 0xFFFFFFFF

-- the id of the blob at a head
abbrev pub blob_id : ℕ → ℕ
blob_id head = 2 ^ 32 + head

-- the place is one of these
abbrev pub is_among : ℕ → List ℕ → Bool
is_among place places = list_any (λ p. p == place) places

-- The first test that a page at `place` fails as the nth page of the chain of `head`. The places `seen` stand before it
-- in the chain, and the page at `before` links to it.
unfoldable pub link_fault : List ℕ → ℕ → ℕ → ℕ → List ℕ → ℕ → ℕ → Option ChainFault
link_fault page md_len head n seen before place =
    if not (nat_lt place md_len) then Some (faults.LinkPastEnd before place)
    else (if is_among place seen then Some (faults.Loop place)
    else (if not (is_sound page) then Some (faults.Unsound place)
    else (if not (id_of page == blob_id head) then Some (faults.WrongId place (id_of page))
    else (if not (sequence_of page == n) then Some (faults.WrongSequence place (sequence_of page) n)
    else None))))

-- From its nth page on, which is at `place`, the chain has these pages and says these items: each page passes the
-- tests, its body spells its items, and the chain goes on at its next place, or ends.
pub data Links (look : Look) (md_len head : ℕ) : ℕ → List ℕ → ℕ → ℕ → List Item → List ℕ → Type 0 where
  last : (n : ℕ) (seen : List ℕ) (before place : ℕ) (items : List Item)
      → link_fault (look place) md_len head n seen before place ≡ None → Spells (body_of (look place)) items
      → next_of (look place) ≡ chain_end → Links look md_len head n seen before place items (place ∷ [])
  more : (n : ℕ) (seen : List ℕ) (before place : ℕ) (items rest : List Item) (pages : List ℕ)
      → link_fault (look place) md_len head n seen before place ≡ None → Spells (body_of (look place)) items
      → (next_of (look place) == chain_end) ≡ false → Links look md_len head (suc n) (place ∷ seen) place
      (next_of (look place)) rest pages
      → Links look md_len head n seen before place (items ++ rest) (place ∷ pages)

-- From there on the first fault is this one: a page fails a test, its body has a bad descriptor, or it comes later.
pub data Broken (look : Look) (md_len head : ℕ) : ℕ → List ℕ → ℕ → ℕ → ChainFault → Type 0 where
  at_link : (n : ℕ) (seen : List ℕ) (before place : ℕ) (fault : ChainFault)
      → link_fault (look place) md_len head n seen before place ≡ Some fault
      → Broken look md_len head n seen before place fault
  at_item : (n : ℕ) (seen : List ℕ) (before place at kind : ℕ)
      → link_fault (look place) md_len head n seen before place ≡ None → Spoils (body_of (look place)) at kind
      → Broken look md_len head n seen before place (faults.BadItem place at kind)
  later : (n : ℕ) (seen : List ℕ) (before place : ℕ) (items : List Item) (fault : ChainFault)
      → link_fault (look place) md_len head n seen before place ≡ None → Spells (body_of (look place)) items
      → (next_of (look place) == chain_end) ≡ false → Broken look md_len head (suc n) (place ∷ seen) place
      (next_of (look place)) fault
      → Broken look md_len head n seen before place fault

-- The chain at a head has these items and these pages.
abbrev pub Chain : Look → ℕ → ℕ → List Item → List ℕ → Type 0
Chain look md_len head items pages = Links look md_len head 0 [] head head items pages

-- The head has no chain, and this is its first fault.
abbrev pub IsBroken : Look → ℕ → ℕ → ChainFault → Type 0
IsBroken look md_len head fault = Broken look md_len head 0 [] head head fault

-- the same pages at these places
abbrev pub Agree : Look → Look → List ℕ → Type 0
Agree look other pages = AllByRecursion (λ p. other p ≡ look p) pages
