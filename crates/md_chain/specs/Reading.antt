-- What reading a chain from a device gives, and what it leaves of the device.
use Rattle.std.specs.Prelude.{◌≡◌, ◌⊎◌, ℕ, ◌+◌, ◌<◌, ◌≤◌, IsTrue, List, Result, Err}
use Rattle.page_disk.specs.Disk.{Image, Alike, Rose, last_count}
use Rattle.page_disk.specs.declared.disk.PageDisk.{Ghosts}
use Rattle.super_block.specs.declared.page.Super.{Super}
use Rattle.descriptors.specs.declared.item.Item.{Item}
use Rattle.md_chain.specs.Chain.{Look, Chain, IsBroken}
use Rattle.md_chain.specs.declared.fault.ChainFault.{ChainFault}
use Rattle.md_chain.specs.declared.fault.ChainFault.TheVariants as faults

-- A device was read, and nothing else was done with it: what it holds and what a crash may leave stay the same.
pub record OnlyRead {D : Type 0} (d : Ghosts D) (old new : D) : Type 0 where
  pub now : IsTrue d.tells → d.now new ≡ d.now old
  pub images : IsTrue d.tells → Alike (d.images new) (d.images old)
  pub since : IsTrue d.tells → (t : ℕ) → Alike (d.since new t) (d.since old t)
  pub clock : d.clock new ≡ d.clock old
  pub pages : d.pages new ≡ d.pages old
  pub read_faults : d.read_faults old ≤ d.read_faults new
  pub write_faults : d.write_faults new ≡ d.write_faults old

-- the metadata region of an image
abbrev pub region_look : Super → Image → Look
region_look s image = λ place. image (s.md_start + place)

-- Each place of the region gave one page: that of the device, where it tells.
abbrev pub WasSeen : {D : Type 0} → Ghosts D → Super → D → Look → Type 0
WasSeen d s disk look = IsTrue d.tells → look ≡ region_look s (d.now disk)

-- The pages that the device gave are a chain of the head.
pub record GaveChain {D : Type 0} (d : Ghosts D) (s : Super) (disk : D) (head : ℕ) (pages : List ℕ)
    (items : List Item) : Type 0 where
  pub look : Look
  pub seen : WasSeen d s disk look
  pub chain : Chain look s.md_len head items pages

-- By the pages that the device gave the head has no chain, and this is its first fault.
pub record GaveFault {D : Type 0} (d : Ghosts D) (s : Super) (disk : D) (head : ℕ) (why : ChainFault) : Type 0 where
  pub look : Look
  pub seen : WasSeen d s disk look
  pub broken : IsBroken look s.md_len head why

-- Why no chain is given: a failed read, which the device counted, want of memory, or the chain's first fault.
abbrev pub IsChainCause : {D : Type 0} → Ghosts D → Super → D → D → ℕ → ChainFault → Type 0
IsChainCause d s old new head faults.ReadFault = Rose (d.read_faults old) (d.read_faults new)
IsChainCause d s old new head faults.Memory = Unit {0}
IsChainCause d s old new head why = GaveFault d s old head why

-- a fault of the pages themselves
abbrev pub IsPagesFault : ChainFault → Type 0
IsPagesFault faults.ReadFault = ⊥
IsPagesFault faults.Memory = ⊥
IsPagesFault _ = Unit {0}

-- no read has failed, unless that is the answer
abbrev pub NoReadFailed : {T : Type 0} → Result T ChainFault → ℕ → ℕ → Type 0
NoReadFailed (Err faults.ReadFault) old new = Unit {0}
NoReadFailed _ old new = new ≡ old

-- a count has risen by so many, or has come to its last number on the way
abbrev pub RoseBy : ℕ → ℕ → ℕ → Type 0
RoseBy n old new = (new ≡ old + n) ⊎ ((last_count ≤ new) × (new < old + n))
