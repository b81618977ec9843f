-- The turn copies.
use Rattle.std.specs.Prelude.{◌≡◌, ◌⊎◌, ℕ, zero, suc, ◌+◌, ◌≤◌, List, Some, None, Bool, true, false}
use Rattle.page_disk.specs.Disk.{RoseByOne}
use Rattle.super_block.specs.Numbers.{cluster_pages_of}
use Rattle.volume_model.specs.Volumes.{zero_page}
use Rattle.store_model.specs.Claiming.{IsCopying}
use Rattle.store_model.specs.Copying.{IsUpToDate, page_of_claim, shown_in_slot}
use Rattle.store_model.specs.Device.{Device}
use Rattle.store_model.specs.Rows.{Copying, Ready, Stage, with_row}
use Rattle.store_model.specs.StoreState.{StoreState}
use Rattle.store_model.specs.Touches.{puts, TurnKind}
use Rattle.store_model.specs.Turning.{read_after_write}

abbrev pub stage_left : ℕ → Stage
stage_left zero = Ready
stage_left (suc n) = Copying (suc n)

-- The next page of the slot's content is written to the claimed cluster: one read at most, and one write. Of a device
-- that doesn't tell zeros stand for all pages.
pub record Copies (told : Bool) (p q : StoreState) : Type 0 where
  pub told_so : p.tells ≡ told
  pub blank : told ≡ false → (n : ℕ) → p.device.reads n ≡ zero_page
  pub left : ℕ
  pub copying : IsCopying p (Copying (suc left))
  pub runs : p.stopped ≡ None
  pub current : IsUpToDate p copying.claim
  pub page : ℕ
  pub is_next : page + suc left ≡ cluster_pages_of p.super
  pub content : List ℕ
  pub is_content : told ≡ true → content ≡ shown_in_slot p copying.claim page
  pub device : Device
  pub reads : device.reads ≡ read_after_write told p.device.reads (page_of_claim p copying.claim page) content
  pub clock : p.device.clock + 1 ≤ device.clock
  pub read_calls : (device.read_calls ≡ p.device.read_calls) ⊎ RoseByOne p.device.read_calls device.read_calls
  pub read_faults : device.read_faults ≡ p.device.read_faults
  pub write_faults : device.write_faults ≡ p.device.write_faults
  pub next : q ≡ record p {
    rows = with_row p.rows copying.row
        (record { left = copying.left; stage = stage_left left; claim = Some copying.claim });
    device = device;
  }

abbrev pub kind : TurnKind
kind = record {
  Case = λ told p q. Copies told p q;
  touch = λ told p q t. puts (page_of_claim p t.copying.claim t.page) t.content false;
  OfJob = ⊥;
}
