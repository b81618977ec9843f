-- The state of a running store, as plain data. Contracts compute it from what they see of the program's value.
use Rattle.std.specs.Prelude.{Some, length, ◌≡◌, ◌⊎◌, ℕ, ◌+◌, ◌%◌, ◌^◌, if◌then◌else◌, Bool, false, List, [], ◌∷◌, ◌++◌}
use Rattle.std.specs.Prelude.{Option, None}
use Rattle.std.specs.Option.{option_map_or}
use Rattle.super_block.specs.declared.page.Super.{Super}
use Rattle.volume_model.specs.Volumes.{Volumes}
use Rattle.volume_model.specs.Xattrs.{Xattrs}
use Rattle.volume_model.specs.declared.command.Command.{Command}
use Rattle.volume_model.specs.declared.reply.Reply.{Reply}
use Rattle.volume_model.specs.declared.reply.Entry.{Entry}
use Rattle.blob_meta.specs.Resolving.{resolved}
use Rattle.md_chain.specs.Chain.{Look}
use Rattle.store_model.specs.Maps.{Map, Metas, Chains}
use Rattle.store_model.specs.Phases.{Phase, has_commit, marking, planned_in}
use Rattle.store_model.specs.Shown.{fixed_of, shown_by}
use Rattle.store_model.specs.Device.{Device}
use Rattle.store_model.specs.Rows.{Rows, Stage, with_row, entry_of, fill_row, Idle, Answered, Decided, Ended}
pub use Rattle.shown_volumes.specs.Shown.{live_of}

-- For whom a job is done: the command of a channel, the insert of a cluster that a channel claimed, or a repair.
pub data Service : Type 0 where
  ForCommand : (channel : ℕ) → Service
  ForInsert : (channel : ℕ) → Service
  ForRepair : Service

-- The running job.
pub record JobState : Type 0 where
  pub serves : Service
  -- the blob that is neither read nor written while the job runs
  pub freeze : Option ℕ
  -- the clusters that it has claimed and no map has yet
  pub claimed : List ℕ
  -- the fresh places of the next replacement whose pages are written
  pub written : List ℕ
  -- what is left to do, a turn each
  pub todo : List Phase

-- how many turns are left
abbrev pub turns_left : Option JobState → ℕ
turns_left o = option_map_or (λ j. length j.todo) o 0

-- the pages that are planned for the next replacement
abbrev pub planned_at : JobState → Look
planned_at j = planned_in j.todo

-- the channel whose row waits for the job: that of an insert to its end, that of a command to its commit
abbrev pub waiting : Service → List Phase → Option ℕ
waiting (ForCommand channel) todo = if has_commit todo then Some channel else None
waiting (ForInsert channel) todo = Some channel
waiting ForRepair todo = None

-- the job once a phase is done, if something is left to do
abbrev pub going_on : JobState → List ℕ → List Phase → Option JobState
going_on j written [] = None
going_on j written (x ∷ xs) = Some (record j { written = written; todo = x ∷ xs })

-- a job at its begin: where the store is clean it marks it as in use before all else
abbrev pub marked : Bool → JobState → JobState
marked clean j = record j { todo = marking clean j.todo }

pub record StoreState : Type 0 where
  -- the super block as the store was opened, and whether the device's says that the store was unloaded
  pub super : Super
  pub clean : Bool
  -- the metadata as the device says it, marked blobs among it, and the places of each blob's chain
  pub base : Metas
  pub chains : Chains
  -- the attributes of volumes as they are read
  pub live : Map Xattrs
  -- which metadata pages and which clusters are in use
  pub pages : List Bool
  pub clusters : List Bool
  pub rows : Rows
  -- the channel whose command the metadata thread fills slots for, on a row of its own
  pub filling : Option ℕ
  pub job : Option JobState
  -- the blobs that are neither read nor written
  pub frozen : ℕ → Bool
  -- the generation of each blob, and the number that was drawn last
  pub generations : Map ℕ
  pub drawn : ℕ
  -- the number under which the next command is posted
  pub serial : ℕ
  pub log : List Entry
  -- the clock after loading, and at the exit of the turn that logged each entry
  pub marks : List ℕ
  -- the length of the log before the turn in which a write or a flush failed
  pub stopped : Option ℕ
  -- whether the device tells what it holds; else zeros stand for what it reads
  pub tells : Bool
  pub device : Device

-- the volumes that are shown: those of the metadata once it is resolved
abbrev pub shown : StoreState → Volumes
shown p = shown_by (fixed_of p.super) p.device.reads (resolved p.base) p.live

-- serial numbers are drawn from one counter of 64 bits
abbrev pub next_serial : ℕ → ℕ
next_serial n = (n + 1) % 2 ^ 64

-- One entry is logged: the command leaves its row, which is at this stage then and has no claim; and the clock at the
-- exit is the entry's mark.
abbrev pub logged_to : Stage → StoreState → ℕ → Command → List Command → Reply → Device → StoreState
logged_to next p channel command rest reply d = record p {
  rows = with_row p.rows channel (record { left = rest; stage = next; claim = None });
  log = p.log ++ entry_of p.log channel command reply ∷ [];
  marks = p.marks ++ d.clock ∷ [];
  device = d;
}

-- in a turn of the metadata thread: the channel is to be told
abbrev pub logged : StoreState → ℕ → Command → List Command → Reply → Device → StoreState
logged = logged_to (Decided Answered)

-- in a turn of the channel's own: it goes on with its next command
abbrev pub logged_here : StoreState → ℕ → Command → List Command → Reply → Device → StoreState
logged_here = logged_to Idle

-- how a run begins: nothing is posted, nothing logged, no job runs, nothing is frozen, and nothing has failed
pub record Opens (p : StoreState) : Type 0 where
  pub waits : (channel : ℕ)
      → ((p.rows channel).stage ≡ Idle) ⊎ (p.rows channel ≡ record { left = []; stage = Ended; claim = None })
  pub unclaimed : (channel : ℕ) → (p.rows channel).claim ≡ None
  pub log : p.log ≡ []
  pub marks : p.marks ≡ p.device.clock ∷ []
  -- no slot is being filled, and the fill's row waits
  pub filling : p.filling ≡ None
  pub fill : p.rows fill_row ≡ record { left = []; stage = Idle; claim = None }
  pub job : p.job ≡ None
  pub frozen : (head : ℕ) → p.frozen head ≡ false
  pub stopped : p.stopped ≡ None
