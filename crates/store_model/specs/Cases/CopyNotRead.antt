-- The turn copy_not_read.
use Rattle.std.specs.Prelude.{◌≡◌, ℕ, suc, ◌≤◌, None, false}
use Rattle.page_disk.specs.Disk.{Rose, RoseByOne}
use Rattle.volume_model.specs.declared.reply.Reply.TheVariants as r
use Rattle.store_model.specs.Claiming.{IsCopying, LogsWork}
use Rattle.store_model.specs.Copying.{IsUpToDate}
use Rattle.store_model.specs.Device.{Device}
use Rattle.store_model.specs.Rows.{Copying, Idle}
use Rattle.store_model.specs.StoreState.{StoreState}
use Rattle.store_model.specs.Touches.{no_new, TurnKind}

-- What is seen of the device over a read that failed.
pub record IsNotRead (old new : Device) : Type 0 where
  pub reads : new.reads ≡ old.reads
  pub clock : new.clock ≡ old.clock
  pub later : old.read_faults ≤ new.read_faults
  pub read_faults : Rose old.read_faults new.read_faults
  pub write_faults : new.write_faults ≡ old.write_faults
  pub read_calls : RoseByOne old.read_calls new.read_calls

-- The page that is to be copied can't be read: the command that the row works for is logged as that, and the claim
-- given back.
pub record CopyNotRead (p q : StoreState) : Type 0 where
  pub left : ℕ
  pub copying : IsCopying p (Copying (suc left))
  pub runs : p.stopped ≡ None
  pub current : IsUpToDate p copying.claim
  pub device : Device
  pub failed : IsNotRead p.device device
  pub logs : LogsWork p copying.row Idle r.ReadFault device q

abbrev pub kind : TurnKind
kind = record { Case = λ told p q. CopyNotRead p q; touch = λ told p q t. no_new false; OfJob = ⊥ }
