-- Logs: what they replay to, what of it survives a crash, and how they stand to a script.
use Rattle.std.specs.Prelude.{◌≡◌, ℕ, ◌+◌, ◌==◌, if◌then◌else◌, Bool, true, false, ◌&&◌, ◌||◌, List, [], ◌∷◌, ◌++◌}
use Rattle.std.specs.Prelude.{slice_index_or}
use Rattle.std.specs.List.{filter}
use Rattle.std.specs.Option.{option_map}
use Rattle.volume_model.specs.Volumes.{Volume, Volumes, Fixed, head_of, is_given_head}
use Rattle.volume_model.specs.Steps.{change, Allowed}
use Rattle.volume_model.specs.declared.command.Command.{Command}
use Rattle.volume_model.specs.declared.command.Command.TheVariants as c
use Rattle.volume_model.specs.declared.reply.Reply.{Reply}
use Rattle.volume_model.specs.declared.reply.Reply.TheVariants as r
use Rattle.volume_model.specs.declared.reply.Entry.{Entry}

module _ (f : Fixed) where
  -- the volumes after the entries of a log, one step after the other
  abbrev pub replay : Volumes → List Entry → Volumes
  replay v [] = v
  replay v (e ∷ es) = replay (change f v e.command e.reply) es

  -- each entry is a step
  abbrev pub IsLegal : Volumes → List Entry → Type 0
  IsLegal v [] = Unit {0}
  IsLegal v (e ∷ es) = Allowed f v e.command e.reply × IsLegal (change f v e.command e.reply) es

  -- the log is legal, and these are the volumes after it
  pub record Replay (first : Volumes) (log : List Entry) (last : Volumes) : Type 0 where
    pub legal : IsLegal first log
    pub after : (h : ℕ) → last h ≡ replay first log h

-- a flushing entry: a flush that is done, or a change of metadata that is done and synced
abbrev pub is_flushing : Command → Reply → Bool
is_flushing c.Flush r.Ok = true
is_flushing (c.Create name slots thick uuid) (r.Made h) = true
is_flushing (c.Put volume key value) r.Ok = true
is_flushing (c.Sync volume) r.Ok = true
is_flushing (c.Resize volume slots) r.Ok = true
is_flushing (c.Snapshot volume name) (r.Made h) = true
is_flushing (c.Clone volume name) (r.Made h) = true
is_flushing (c.Inflate volume) r.Ok = true
is_flushing (c.Decouple volume) r.Ok = true
is_flushing (c.Delete volume) r.Ok = true
is_flushing (c.Rename volume name) r.Ok = true
is_flushing (c.ReadOnly volume) r.Ok = true
is_flushing _ _ = false

-- a write that is done, or failed at the device, may have changed its page
abbrev pub is_write_done : Reply → Bool
is_write_done r.Ok = true
is_write_done r.Fault = true
is_write_done _ = false

module _ (f : Fixed) where
  -- the entry may have written this page of the volume at h
  abbrev pub may_write : Volumes → Command → Reply → ℕ → ℕ → Bool
  may_write v (c.Write volume page word) reply h p =
      is_write_done reply && is_given_head h (head_of f v volume) && (page == p)
  may_write v _ reply h p = false

  -- pages that were unsettled before the log, or become so by it
  abbrev pub unsettled_from : (ℕ → ℕ → Bool) → Volumes → List Entry → ℕ → ℕ → Bool
  unsettled_from before v [] = before
  unsettled_from before v (e ∷ es) =
      unsettled_from (λ h p. if is_flushing e.command e.reply then false else
      (before h p || may_write v e.command e.reply h p)) (change f v e.command e.reply) es

  -- written after the last flushing entry; every other page is settled
  abbrev pub is_unsettled : Volumes → List Entry → ℕ → ℕ → Bool
  is_unsettled first log = unsettled_from (λ h p. false) first log

  -- not written since the last flushing entry
  abbrev pub IsSettled : Volumes → List Entry → ℕ → ℕ → Type 0
  IsSettled first log h p = is_unsettled first log h p ≡ false

  -- the replay with the attributes that survive
  abbrev pub stable : Volumes → List Entry → Volumes
  stable first log h = option_map (λ (x : Volume). record x { live = x.synced }) (replay f first log h)

-- Wherever it stands in a log, the entry changes nothing that survives, and settles no page.
pub record SettlesNothing (e : Entry) : Type 0 where
  pub survives : (f : Fixed) (first : Volumes) (log rest : List Entry) (h : ℕ)
      → stable f first (log ++ e ∷ rest) h ≡ stable f first (log ++ rest) h
  pub settled : (f : Fixed) (first : Volumes) (log rest : List Entry) (h p : ℕ)
      → IsSettled f first (log ++ e ∷ rest) h p → IsSettled f first (log ++ rest) h p

-- entries with the numbers from n on, and these commands
abbrev pub Numbered : ℕ → List Entry → List Command → Type 0
Numbered n [] [] = Unit {0}
Numbered n (e ∷ es) (command ∷ commands) = (e.index ≡ n) × (e.command ≡ command) × Numbered (n + 1) es commands
Numbered n [] (command ∷ commands) = ⊥
Numbered n (e ∷ es) [] = ⊥

-- the entries of each channel, in the log's order, are the script's commands for it, whole and in order, numbered from
-- 0; no other channel has any
abbrev pub Interleaves : List Entry → List (List Command) → Type 0
Interleaves log script = (channel : ℕ) → Numbered 0 (filter (λ e. e.channel == channel) log)
    (slice_index_or script channel [])
