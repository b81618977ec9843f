-- A file that gathers writes: the calls that it was asked for, and those that it made of them.
use Rattle.std.specs.Prelude.{◌≡◌, ◌⊎◌, ℕ, Bool, true, false, List, [], ◌∷◌, length}
use Rattle.std.specs.List.{All}
use Rattle.page_disk.specs.Disk.{Image}
use Rattle.page_disk.specs.declared.disk.WriteKind.TheVariants.{Plain}
use Rattle.file_disk.specs.FileCalls.{FileBytes, FileCall, DidSync, NoneFailed, WrittenRun, file_after}
use Rattle.file_disk.specs.FileCalls.{may_leave, might_leave_since, ticks, with_run}
use Rattle.file_disk.specs.declared.page_calls.PageCalls.{Ghosts}

-- What is known of it: the file below, the calls that it was asked for with its answers, newest first, the run of pages
-- that is kept, from this offset on, and whether a write failed, after which it makes no call.
pub record Gathering (C : Type 0) : Type 0 where
  pub file : C
  pub asked : List FileCall
  pub start : ℕ
  pub kept : List (List ℕ)
  pub stopped : Bool

-- one over this file that nothing was asked of
abbrev pub unasked : {C : Type 0} → C → Gathering C
unasked file = record { file = file; asked = []; start = 0; kept = []; stopped = false }

-- this call is the newest
abbrev pub IsNewest : FileCall → List FileCall → Type 0
IsNewest call [] = ⊥
IsNewest call (newest ∷ earlier) = newest ≡ call

-- the newest call is a sync that answered Ok
abbrev pub is_synced : List FileCall → Bool
is_synced (DidSync true ∷ earlier) = true
is_synced _ = false

-- 4096 bytes each
abbrev pub ArePages : List (List ℕ) → Type 0
ArePages = All (λ page. length page ≡ 4096)

-- of a file that had these bytes before the calls on it
module _ (opened : FileBytes) where
  -- What a power failure may leave of the file below, by the calls that were made there, is what it may leave by those
  -- that were asked for.
  abbrev pub Covers : (asked sent : List FileCall) → Type 0
  Covers asked sent = (image : Image) → may_leave opened sent image → may_leave opened asked image

  -- The calls that were made, and the write of what is kept behind them, leave what was asked for, and have failed in
  -- nothing that didn't.
  pub record Gathers (asked sent : List FileCall) (start : ℕ) (kept : List (List ℕ)) : Type 0 where
    pub holds : file_after opened asked ≡ with_run (file_after opened sent) start kept
    pub leaves : (image : Image) → WrittenRun (may_leave opened sent) start Plain kept image
        → may_leave opened asked image
    pub unfailing : NoneFailed asked → NoneFailed sent

-- a crash at any moment since a call's entry leaves what may be left by the calls that were asked for before or with it
abbrev pub EachMoment : {C : Type 0} → Ghosts C → Gathering C → Gathering C → Type 0
EachMoment c old new = (image : Image)
    → might_leave_since (c.opened old.file) (c.calls new.file) (ticks (c.calls old.file)) image
    → may_leave (c.opened old.file) old.asked image ⊎ may_leave (c.opened old.file) new.asked image

-- a step of one call: nothing else was asked for, and each moment of it leaves what may be left by what was
pub record IsStep {C : Type 0} (c : Ghosts C) (old new : Gathering C) : Type 0 where
  pub asked : new.asked ≡ old.asked
  pub opened : c.opened new.file ≡ c.opened old.file
  pub pages : c.pages new.file ≡ c.pages old.file
  pub moments : (image : Image)
      → might_leave_since (c.opened old.file) (c.calls new.file) (ticks (c.calls old.file)) image
      → may_leave (c.opened old.file) old.asked image
