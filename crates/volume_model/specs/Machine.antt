-- The plain machine: what it holds, and how it answers a command.
use Rattle.std.specs.Prelude.{◌⊎◌, ◌≡◌, ℕ, ◌<◌, ◌==◌, if◌then◌else◌, Option, Some, None, IsSome, Result, Ok, Err, List}
use Rattle.std.specs.Prelude.{slice_get}
use Rattle.std.specs.Option.{option_and_then}
use Rattle.volume_model.specs.Volumes.{Volume, Volumes, Fixed, head_of}
use Rattle.volume_model.specs.Refusals.{refusal}
use Rattle.volume_model.specs.Steps.{Step}
use Rattle.volume_model.specs.declared.command.VolumeRef.{VolumeRef}
use Rattle.volume_model.specs.declared.command.Command.{Command}
use Rattle.volume_model.specs.declared.command.Command.TheVariants as c
use Rattle.volume_model.specs.declared.reply.Reply.{Reply}
use Rattle.volume_model.specs.declared.reply.Reply.TheVariants as r

-- what contracts see of the plain machine
pub record Machine : Type 0 where
  -- what is fixed for a run
  pub fixed : Fixed
  -- what stands at each head, from 0 on; past the end nothing does
  pub rows : List (Option Volume)

-- the machine's volumes by their heads
abbrev pub volumes_in : Machine → Volumes
volumes_in m h = option_and_then (λ x. x) (slice_get m.rows h)

-- the lowest head that isn't in use
pub record IsLeastFree (v : Volumes) (h : ℕ) : Type 0 where
  pub free : v h ≡ None
  pub used_below : (k : ℕ) → k < h → IsSome (v k)

-- the head of a new volume
abbrev pub IsMadeAtLeast : Volumes → Reply → Type 0
IsMadeAtLeast v (r.Made h) = IsLeastFree v h
IsMadeAtLeast v _ = Unit {0}

-- neither want of room nor a fault of a device, of which the machine has none
abbrev pub IsPlain : Reply → Type 0
IsPlain r.Full = ⊥
IsPlain r.NoPage = ⊥
IsPlain r.ReadFault = ⊥
IsPlain r.Fault = ⊥
IsPlain (r.Stopped at) = ⊥
IsPlain _ = Unit {0}

-- the reply of a verb that is done
abbrev pub IsDoneReply : Reply → Type 0
IsDoneReply r.Ok = Unit {0}
IsDoneReply (r.Made h) = Unit {0}
IsDoneReply (r.Content page) = Unit {0}
IsDoneReply (r.Value value) = Unit {0}
IsDoneReply (r.Info info) = Unit {0}
IsDoneReply (r.List list) = Unit {0}
IsDoneReply (r.Df df) = Unit {0}
IsDoneReply _ = ⊥

-- the machine does these where it is, and makes nothing that it has to find room for
abbrev pub TakesNoMemory : Command → Type 0
TakesNoMemory (c.Write volume page word) = Unit {0}
TakesNoMemory c.Flush = Unit {0}
TakesNoMemory (c.Inflate volume) = Unit {0}
TakesNoMemory (c.Decouple volume) = Unit {0}
TakesNoMemory c.Df = Unit {0}
TakesNoMemory _ = ⊥

-- the reply of a cause
abbrev pub IsCauseOfRefusal : Reply → Type 0
IsCauseOfRefusal r.NoVolume = Unit {0}
IsCauseOfRefusal r.OutOfRange = Unit {0}
IsCauseOfRefusal r.ReadOnly = Unit {0}
IsCauseOfRefusal r.NotReadOnly = Unit {0}
IsCauseOfRefusal r.NameTaken = Unit {0}
IsCauseOfRefusal (r.Busy clones) = Unit {0}
IsCauseOfRefusal r.NoParent = Unit {0}
IsCauseOfRefusal r.Short = Unit {0}
IsCauseOfRefusal r.Reserved = Unit {0}
IsCauseOfRefusal r.NoValue = Unit {0}
IsCauseOfRefusal r.TooLong = Unit {0}
IsCauseOfRefusal r.TooLarge = Unit {0}
IsCauseOfRefusal _ = ⊥

-- the first cause that holds gives the reply
pub record IsCommandRefused (m : Machine) (command : Command) (reply : Reply) : Type 0 where
  pub first : refusal m.fixed (volumes_in m) command ≡ Some reply
  pub cause : IsCauseOfRefusal reply

-- refused, or memory is wanting
abbrev pub Falls : Machine → Command → Reply → Type 0
Falls m command reply = IsCommandRefused m command reply ⊎ (reply ≡ r.Memory)

-- the command may be done at this head
pub record IsOpen (m : Machine) (volume : VolumeRef) (command : Command) (h : ℕ) : Type 0 where
  pub passed : refusal m.fixed (volumes_in m) command ≡ None
  pub meant : head_of m.fixed (volumes_in m) volume ≡ Some h
  pub there : IsSome (volumes_in m h)

-- a test's answer: the head at which the command may be done, or the reply for which it isn't
abbrev pub MayBeDone : Machine → VolumeRef → Command → Result ℕ Reply → Type 0
MayBeDone m volume command (Ok h) = IsOpen m volume command h
MayBeDone m volume command (Err reply) = Falls m command reply

-- the command is done
pub record MachineDoes (m : Machine) (command : Command) (reply : Reply) (n : Machine) : Type 0 where
  pub fixed : n.fixed ≡ m.fixed
  pub step : Step m.fixed (volumes_in m) command reply (volumes_in n)
  pub least : IsMadeAtLeast (volumes_in m) reply
  pub answered : IsDoneReply reply

-- a verb's answer: the reply of what is done, or the reply for which nothing is
abbrev pub MachineAnswers : Machine → Command → Result Reply Reply → Machine → Type 0
MachineAnswers m command (Ok reply) n = MachineDoes m command reply n
MachineAnswers m command (Err reply) n = (n ≡ m) × Falls m command reply

-- one head has this now, and all others what they had
pub record PutsVolume (m : Machine) (h : ℕ) (o : Option Volume) (n : Machine) : Type 0 where
  pub fixed : n.fixed ≡ m.fixed
  pub after : (k : ℕ) → volumes_in n k ≡ (if k == h then o else volumes_in m k)
