-- What a job is made of before it begins.
use Rattle.std.specs.Prelude.{◌≡◌, ◌⊎◌, ℕ, ◌+◌, ◌-◌, ◌<◌, ◌^◌, nat_eq, if◌then◌else◌, Bool, true, List, []}
use Rattle.std.specs.Prelude.{◌∷◌}
use Rattle.std.specs.Prelude.{drop, length, slice_set, None, Some, IsSome}
use Rattle.bit_array.specs.Bits.{IsFull, IsLeastClear}
use Rattle.std.specs.List.{All, IsDistinct}
use Rattle.std.specs.Ordering.{nat_cmp}
use Rattle.std.specs.FinMap as map
use Rattle.descriptors.specs.declared.item.Item.{Item}
use Rattle.blob_meta.specs.declared.meta.Meta.{Meta}
use Rattle.blob_meta.specs.Items.{IsItemsOf}
use Rattle.md_chain.specs.Chain.{Look, Chain}
use Rattle.md_chain.specs.Packing.{parts_of, ArePlannable}
use Rattle.md_chain.specs.Planned.{chain_pages, written_items}
use Rattle.store_model.specs.Places.{all_set, AreLeastClear}
use Rattle.page_disk.specs.declared.disk.PageDisk.{Ghosts}
use Rattle.volume_model.specs.declared.command.Command.{Command}
use Rattle.volume_model.specs.declared.reply.Reply.{Reply}
use Rattle.volume_model.specs.declared.reply.Reply.TheVariants as r
use Rattle.blob_meta.specs.declared.job.Job.{Job}
use Rattle.blob_meta.specs.declared.job.Replacement.{Replacement}
use Rattle.blob_meta.specs.Jobs.{job_of_one}
use Rattle.store_model.specs.StoreState.{marked, StoreState}
use Rattle.store_model.specs.Cases as kind
use Rattle.store_model.specs.Asking.{IsJobFor}
pub use Rattle.store_model.specs.Jobs.{LacksPages}
use Rattle.running_store.specs.TurnMade.{TurnMade}
use Rattle.running_store.specs.Jobs.{job_seen}
use Rattle.running_store.specs.StoreView.{StoreView, rows_of}
use Rattle.running_store.specs.Steps.{decided}
use Rattle.store_model.specs.Rows.{Row, InJob}
use Rattle.job_begins.specs.declared.begin.BeginTurn.{BeginTurn}
use Rattle.job_begins.specs.declared.begin.BeginTurn.TheVariants as begin
use Rattle.store_model.specs.Phases.{Committing}
use Rattle.running_store.specs.declared.effects.Effects.{Effects}
use Rattle.job_begins.specs.declared.preparing.Laid.{Laid}
use Rattle.job_begins.specs.declared.preparing.Prepared.{Prepared}
use Rattle.running_store.specs.declared.job.RunningJob.{RunningJob}
use Rattle.running_store.specs.declared.replacements.Planned.{Planned}

-- a blob's chain, of its head and the places behind it
abbrev pub HasChain : map.FinMap nat_cmp (List ℕ) → ℕ → Type 0
HasChain chains head = (behind : List ℕ) × (map.get chains head ≡ Some (head ∷ behind))

-- The pages are those of the items at the head and the fresh places, and where they are read there they are a chain.
pub record IsChainLaid (items : List Item) (head : ℕ) (fresh : List ℕ) (laid : Laid) : Type 0 where
  pub chain : laid.chain ≡ head ∷ fresh
  pub pages : laid.pages ≡ chain_pages items head fresh
  pub reads : (look : Look) (md_len : ℕ) → md_len < 2 ^ 32 → IsDistinct nat_eq (head ∷ fresh)
      → All (λ p. p < md_len) (head ∷ fresh) → All (λ p. look p.place ≡ p.page) laid.pages
      → Chain look md_len head (written_items items) (head ∷ fresh)

-- how many pages the items take: those behind the head, and the head's where the blob is new
abbrev pub needed : Bool → List Item → ℕ
needed makes items = if makes then length (parts_of items) else length (parts_of items) - 1

-- the places that are taken for them
abbrev pub taken_for : Bool → ℕ → List ℕ → List ℕ
taken_for makes head fresh = if makes then head ∷ fresh else fresh

-- of places that are taken so, those behind the head
abbrev pub behind_in : Bool → List ℕ → List ℕ
behind_in makes taken = if makes then drop 1 taken else taken

-- a new blob's head: the least page that is clear, where one is
abbrev pub IsFreshHead : List Bool → ℕ → Type 0
IsFreshHead pages head = IsLeastClear pages head ⊎ IsFull pages

-- These places are the least clear ones, as many as the items need, and are in use from now on.
pub record IsTaken (items : List Item) (head : ℕ) (makes : Bool) (old new : List Bool) (laid : Laid) : Type 0 where
  pub fresh : List ℕ
  pub laid_on : IsChainLaid items head fresh laid
  pub count : length fresh + 1 ≡ length (parts_of items)
  pub least : AreLeastClear old (taken_for makes head fresh)
  pub taken : new ≡ all_set old (taken_for makes head fresh) true

-- what a job needs to write metadata at a head, where a blob is there or is made
pub record IsPrepared (chains : map.FinMap nat_cmp (List ℕ)) (head : ℕ) (meta : Meta) (makes : Bool)
    (old new : List Bool) (x : Prepared) : Type 0 where
  pub behind : IsSome (map.get chains head) → map.get chains head ≡ Some (head ∷ x.old)
  pub none_behind : map.get chains head ≡ None → x.old ≡ []
  pub items : List Item
  pub are : IsItemsOf meta items
  pub plannable : ArePlannable items
  pub taken : IsTaken items head makes old new x.laid

-- Why a job isn't prepared for new metadata of a blob that is there, or new: too few pages are clear; or, where too few
-- clusters are clear, pages are enough; or memory ran out.
abbrev pub IsUnprepared : Bool → Bool → Meta → List Bool → Reply → Type 0
IsUnprepared lacks_clusters there new pages r.NoPage = LacksPages there new pages
IsUnprepared lacks_clusters there new pages r.Full = (lacks_clusters ≡ true) × ¬ LacksPages there new pages
IsUnprepared lacks_clusters there new pages r.Memory = Unit {0}
IsUnprepared lacks_clusters there new pages _ = ⊥

-- what is written with what was prepared
abbrev pub planned_with : Prepared → ℕ → Meta → Effects → Planned
planned_with x head new effects = record {
  head = head;
  new = new;
  effects = effects;
  chain = x.laid.chain;
  pages = x.laid.pages;
}

-- nothing is done besides
abbrev pub no_effects : Effects
no_effects =
    record { commit = None; freed = []; claimed = []; rooms = record { chain = None; meta = None } }

-- one replacement, which is the commit, with a cluster of zeros for each of these slots of the new map
abbrev pub job_with_zeros : ℕ → Meta → List ℕ → Job
job_with_zeros head new zeros = record (job_of_one head new) { zero = zeros }

-- What a command asks to be written at a head: new metadata, in which each of these slots is to get a cluster of zeros.
-- Where no blob is there the head is the page that is next.
pub record AsksToWrite (p : StoreState) (command : Command) (head : ℕ) (new : Meta) (zeros : List ℕ) : Type 0 where
  pub commit : Committing
  pub asked : IsJobFor p command (job_with_zeros head new zeros) commit
  pub next : p.base head ≡ None → IsFreshHead p.pages head

-- The job that a command asks for. Where its first replacement makes a blob, that one's head is the page that is next.
pub record IsJobOf (p : StoreState) (command : Command) (job : Job) : Type 0 where
  pub commit : Committing
  pub asked : IsJobFor p command job commit
  pub next : (x : Replacement) (xs : List Replacement) → job.list ≡ x ∷ xs → p.base x.head ≡ None
      → IsFreshHead p.pages x.head

-- the job begins, or its command is logged: too few pages or clusters are clear, or memory ran out
abbrev pub BeginsOrNot : {D : Type 0} → Ghosts D → StoreView D → StoreView D → BeginTurn → Type 0
BeginsOrNot d p q begin.Began = TurnMade d p q kind.begins
BeginsOrNot d p q begin.Logged = TurnMade d p q kind.refuses

-- the store with a job that has begun for the first command of a channel, which waits for it
abbrev pub with_begun : {D : Type 0} → StoreView D → ℕ → RunningJob → StoreView D
with_begun p channel job = record p {
  rows = slice_set p.rows channel (record (rows_of p.rows channel) { stage = InJob });
  job = Some (marked p.clean (job_seen job));
}

-- the row of the channel then: the job serves it, or its first command is logged
abbrev pub row_begun : BeginTurn → Row → Row
row_begun begin.Began row = record row { stage = InJob }
row_begun begin.Logged row = decided row
