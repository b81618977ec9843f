-- The turn copy_fails.
use Rattle.std.specs.Prelude.{◌≡◌, ◌⊎◌, ℕ, suc, ◌+◌, ◌≤◌, List, Option, None, false}
use Rattle.page_disk.specs.Disk.{Rose, RoseByOne}
use Rattle.super_block.specs.Numbers.{cluster_pages_of}
use Rattle.volume_model.specs.declared.reply.Reply.TheVariants as r
use Rattle.store_model.specs.Claiming.{IsCopying, LogsWork}
use Rattle.store_model.specs.Copying.{IsUpToDate, page_of_claim}
use Rattle.store_model.specs.Device.{Device}
use Rattle.store_model.specs.Rows.{Copying, Idle, OpenClaim, Ready, Stage}
use Rattle.store_model.specs.StoreState.{StoreState}
use Rattle.store_model.specs.Touches.{no_new, page_touched, puts, Touch, TurnKind}
use Rattle.store_model.specs.Turning.{LeavesRest, stopped_now}

-- what was tried: to write the copy of the next page, of a blob that is up to date, or to flush all copies
pub data TriedCopy (p : StoreState) (claim : OpenClaim) (stage : Stage) : Type 0 where
  copy : (left page : ℕ) (content : List ℕ) → stage ≡ Copying (suc left) → IsUpToDate p claim
      → page + suc left ≡ cluster_pages_of p.super → TriedCopy p claim stage
  flush : stage ≡ Ready → TriedCopy p claim stage

abbrev pub tried_copy : StoreState → (claim : OpenClaim) → {p : StoreState} → {stage : Stage} → TriedCopy p claim stage
    → Touch
tried_copy p claim (copy left page content at current next) = puts (page_of_claim p claim page) content false
tried_copy p claim (flush at) = no_new false

-- What is seen of the device then: before the write of a copy a page may have been read.
pub record FailsToCopy (tried : Option ℕ) (old new : Device) : Type 0 where
  pub rest : LeavesRest tried old.reads new.reads
  pub clock : old.clock ≤ new.clock
  pub read_faults : new.read_faults ≡ old.read_faults
  pub write_faults : Rose old.write_faults new.write_faults
  pub read_calls : (new.read_calls ≡ old.read_calls) ⊎ RoseByOne old.read_calls new.read_calls

-- It failed: the store stops, the command that the row works for is logged as failed, and the claim given back.
pub record CopyFails (p q : StoreState) : Type 0 where
  pub stage : Stage
  pub copying : IsCopying p stage
  pub tried : TriedCopy p copying.claim stage
  pub runs : p.stopped ≡ None
  pub device : Device
  pub fails : FailsToCopy (page_touched (tried_copy p copying.claim tried)) p.device device
  pub logs : LogsWork (stopped_now p) copying.row Idle r.Fault device q

abbrev pub kind : TurnKind
kind = record {
  Case = λ told p q. CopyFails p q;
  touch = λ told p q t. tried_copy p t.copying.claim t.tried;
  OfJob = ⊥;
}
