-- What is known of the snapshot that a posted command asks for, in the store as it is in memory.
use Rattle.std.proofs.Common.{◌∙◌, ℕ, ap, IsSome}
use Rattle.std.specs.Prelude.{is_some}
use Rattle.std.specs.FinMap as map
use Rattle.page_disk.specs.declared.disk.PageDisk.{Ghosts}
use Rattle.volume_model.specs.declared.command.Command.{Command}
use Rattle.volume_model.specs.declared.reply.Reply.TheVariants as r
use Rattle.store_model.specs.Cases.{IsRefusedAtBegin}
use Rattle.store_model.specs.RunInvariant.{RunsWell}
use Rattle.store_model.specs.Shown.{fixed_of}
use Rattle.store_model.specs.StoreState.{shown, StoreState}
use Rattle.running_store.specs.Steps.{Asks}
use Rattle.running_store.specs.StoreView.{state_of, StoreView}
use Rattle.running_store.specs.Running.{view_of}
use Rattle.running_store.specs.declared.running.Running.{Running}
use Rattle.job_begins.specs.JobBegins.{CanBegin}
use Rattle.job_begins.specs.Begins.{IsFreshHead}
use Rattle.job_begins.specs.Snapshots.{AsksToSnapshot}
use Rattle.job_begins.specs.declared.asking.SnapshotAsk.{SnapshotAsk}
use Rattle.job_begins.proofs.BeginKnown.{no_job}
use Rattle.job_begins.proofs.Lacking.{may_lack}
use Rattle.job_begins.proofs.SnapshotAsked.{snapshot_asked, IsSnapshotAsked}

module _ {D : Type 0} {d : Ghosts D} {store : Running D} {channel : ℕ} (can : CanBegin d store channel)
    {x : SnapshotAsk}
    (asks_it : Asks (view_of store) channel (λ command. AsksToSnapshot (state_of d (view_of store)) command x)) where
  abbrev p : StoreView D
  p = view_of store

  abbrev s : StoreState
  s = state_of d p

  abbrev pub command : Command
  command = can.posted.waits.command

  pub asks : AsksToSnapshot s command x
  asks = asks_it command can.posted.waits.rest (ap (λ r. r.left) can.posted.waits.row)

  pub known : IsSnapshotAsked s can.running can.unmarked can.runs (no_job can) command x asks
  known = snapshot_asked s can.running can.unmarked can.runs (no_job can) command x asks

  well : RunsWell can.running.first s
  well = can.running.facts.well can.runs

  -- the volume has a generation
  pub numbered : IsSome (map.get p.guards.generations x.of)
  numbered = well.generations.each x.of ∙ ap is_some known.there

  -- the new blob's head is the page that is next
  pub next_head : IsFreshHead p.pages x.head
  next_head = asks.next known.none

  -- memory may run out
  pub snapshot_memory : IsRefusedAtBegin s command r.Memory
  snapshot_memory = may_lack (fixed_of p.super) (shown s) s command asks.job asks.commit asks.asked
