-- What device calls make of what is seen of the device.
use Rattle.std.proofs.Common.{
  ◌≡◌,
  ◌≢◌,
  inl,
  inr,
  ℕ,
  ◌+◌,
  ◌<◌,
  ◌≤◌,
  arith,
  Bool,
  true,
  false,
  List,
  Option,
  Some,
  None,
  Result,
  Ok,
  Err,
  refl,
  IsTrue,
}
use Rattle.std.specs.Prelude.{OnOk, OnErr, if◌then◌else◌}
use Rattle.page_disk.specs.Disk.{HasCause, Image, IsSameElsewhere, RoseByOne, with_page}
use Rattle.page_disk.specs.declared.disk.PageDisk.{Ghosts}
use Rattle.page_disk.specs.declared.disk.DiskFault.{DiskFault}
use Rattle.volume_model.specs.Volumes.{zero_page}
use Rattle.store_model.specs.Cases.{WritesOnePage, read_after_write}
use Rattle.store_model.specs.Cases.{FailsToReplace}
use Rattle.store_model.specs.Cases.Flush.{IsFlushed}
use Rattle.store_model.specs.Cases.Read.{IsRead}
use Rattle.store_model.specs.Turning.{LeavesRest}
use Rattle.running_store.specs.DeviceCalls.{IsReadSo}
use Rattle.volume_model.specs.declared.reply.Reply.{Reply}
use Rattle.volume_model.specs.declared.reply.Reply.TheVariants as r
use Rattle.running_store.specs.StoreView.{device_of, read_now}

read_still : (tells : Bool) (old new : Image) → (IsTrue tells → new ≡ old)
    → (if tells then new else (λ p. zero_page)) ≡ (if tells then old else (λ p. zero_page))
read_still true old new is = is refl
read_still false old new is = refl

read_elsewhere : (tells : Bool) (old new : Image) (place : ℕ) → (IsTrue tells → IsSameElsewhere place old new)
    → IsSameElsewhere place (if tells then old else (λ p. zero_page)) (if tells then new else (λ p. zero_page))
read_elsewhere true old new place same = same refl
read_elsewhere false old new place same = λ p other. refl

read_told : (tells : Bool) (old new : Image) (place : ℕ) (page : List ℕ)
    → (IsTrue tells → new ≡ with_page old place page)
    → (if tells then new else (λ p. zero_page))
    ≡ read_after_write tells (if tells then old else (λ p. zero_page)) place page
read_told true old new place page is = is refl
read_told false old new place page is = refl

module _ {D T : Type 0} (d : Ghosts D) (r : Result T DiskFault) (old new : D) (place : ℕ) (page : List ℕ)
    (calls : ℕ) where
  pub moves : (IsTrue d.tells → OnOk r (d.now new ≡ with_page (d.now old) place page))
      → OnOk r (d.clock old + calls ≤ d.clock new) → d.read_faults new ≡ d.read_faults old
      → OnOk r (d.write_faults new ≡ d.write_faults old) → d.reads new ≡ d.reads old
      → OnOk r (WritesOnePage d.tells (device_of d old) place page calls (device_of d new))
  moves written rises read_faults no_fault reads = by r written rises no_fault
    where
      by : (x : Result T DiskFault) → (IsTrue d.tells → OnOk x (d.now new ≡ with_page (d.now old) place page))
          → OnOk x (d.clock old + calls ≤ d.clock new)
          → OnOk x (d.write_faults new ≡ d.write_faults old)
          → OnOk x (WritesOnePage d.tells (device_of d old) place page calls (device_of d new))
      by (Ok x) written rises no_fault = record {
        reads = read_told d.tells (d.now old) (d.now new) place page written;
        clock = rises;
        read_faults = read_faults;
        write_faults = no_fault;
        read_calls = reads;
      }
      by (Err e) written rises no_fault = tt

-- a call failed
failed : {D T : Type 0} (d : Ghosts D) (r : Result T DiskFault) (old new : D) (tried : Option ℕ)
    → LeavesRest tried (read_now d old) (read_now d new) → d.clock old ≤ d.clock new
    → d.read_faults new ≡ d.read_faults old → HasCause (d.write_faults old) (d.write_faults new) r
    → d.reads new ≡ d.reads old → OnErr r (FailsToReplace tried (device_of d old) (device_of d new))
failed d (Ok x) old new tried rest later read_faults faults reads = tt
failed d (Err e) old new tried rest later read_faults faults reads = record {
  rest = rest;
  clock = later;
  read_faults = read_faults;
  write_faults = faults.cause refl;
  read_calls = reads;
}

module _ {D T : Type 0} (d : Ghosts D) (r : Result T DiskFault) (old new : D) where
  pub fails : (place : ℕ) → (IsTrue d.tells → IsSameElsewhere place (d.now old) (d.now new))
      → d.clock old ≤ d.clock new → d.read_faults new ≡ d.read_faults old
      → HasCause (d.write_faults old) (d.write_faults new) r → d.reads new ≡ d.reads old
      → OnErr r (FailsToReplace (Some place) (device_of d old) (device_of d new))
  fails place same =
      failed d r old new (Some place) (read_elsewhere d.tells (d.now old) (d.now new) place same)

  pub flush_fails : (IsTrue d.tells → d.now new ≡ d.now old) → d.clock old ≤ d.clock new
      → d.read_faults new ≡ d.read_faults old → HasCause (d.write_faults old) (d.write_faults new) r
      → d.reads new ≡ d.reads old → OnErr r (FailsToReplace None (device_of d old) (device_of d new))
  flush_fails same = failed d r old new None (read_still d.tells (d.now old) (d.now new) same)

  pub flushes : (IsTrue d.tells → d.now new ≡ d.now old) → OnOk r (d.clock old < d.clock new)
      → d.read_faults new ≡ d.read_faults old → OnOk r (d.write_faults new ≡ d.write_faults old)
      → d.reads new ≡ d.reads old → OnOk r (IsFlushed (device_of d old) (device_of d new))
  flushes same rises read_faults no_fault reads = by r rises no_fault
    where
      by : (x : Result T DiskFault) → OnOk x (d.clock old < d.clock new)
          → OnOk x (d.write_faults new ≡ d.write_faults old)
          → OnOk x (IsFlushed (device_of d old) (device_of d new))
      by (Ok x) rises no_fault = record {
        reads = read_still d.tells (d.now old) (d.now new) same;
        clock = omega (arith, rises);
        read_faults = read_faults;
        write_faults = no_fault;
        read_calls = reads;
      }
      by (Err e) rises no_fault = tt

-- over a read, or none
module _ {D T : Type 0} (d : Ghosts D) (r : Result T DiskFault) (old new : D) where
  pub reads : (IsTrue d.tells → d.now new ≡ d.now old) → d.clock new ≡ d.clock old
      → HasCause (d.read_faults old) (d.read_faults new) r → OnOk r (d.read_faults new ≡ d.read_faults old)
      → d.write_faults new ≡ d.write_faults old → RoseByOne (d.reads old) (d.reads new)
      → IsReadSo (device_of d old) (device_of d new) r
  reads same clock faults no_fault write_faults calls = by r faults no_fault
    where
      by : (x : Result T DiskFault) → HasCause (d.read_faults old) (d.read_faults new) x
          → OnOk x (d.read_faults new ≡ d.read_faults old) → IsReadSo (device_of d old) (device_of d new) x
      by (Ok x) faults no_fault = λ reply other. record {
        reads = read_still d.tells (d.now old) (d.now new) same;
        clock = clock;
        write_faults = write_faults;
        read_calls = inr calls;
        later = faults.later;
        fault = λ e. absurd (other e);
        no_fault = λ _. no_fault;
      }
      by (Err e) faults no_fault = record {
        reads = read_still d.tells (d.now old) (d.now new) same;
        clock = clock;
        later = faults.later;
        read_faults = faults.cause refl;
        write_faults = write_faults;
        read_calls = calls;
      }

-- no call is made
pub not_read : {D : Type 0} (d : Ghosts D) (disk : D) (reply : Reply) → reply ≢ r.ReadFault
    → IsRead (device_of d disk) (device_of d disk) reply
not_read d disk reply other = record {
  reads = refl;
  clock = refl;
  write_faults = refl;
  read_calls = inl refl;
  later = omega arith;
  fault = λ e. absurd (other e);
  no_fault = λ _. refl;
}
