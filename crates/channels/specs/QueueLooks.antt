-- The metadata thread's look into the queue.
use Rattle.std.specs.Prelude.{◌≡◌, IfSome, is_none, Some, None}
use Rattle.page_disk.specs.declared.disk.PageDisk.{Ghosts}
use Rattle.volume_model.specs.declared.reply.Msg.{Msg}
use Rattle.md_queue.specs.Queue.{GivesOldest, IsEmpty}
use Rattle.store_model.specs.Filling.{IsFilledFor}
use Rattle.running_store.specs.StoreView.{rows_of, state_of}
use Rattle.md_thread.specs.Holding.{LooksForMessage, MetadataState}
use Rattle.md_thread.specs.declared.state.Next.TheVariants as on
use Rattle.channels.specs.declared.driver.Driver.{Driver}

-- No turn was due, so the store is as it was; the thread, which stood between then, takes the oldest message and holds
-- it, or finds the queue empty.
pub record LooksIntoQueue {D : Type 0} (d : Ghosts D) (w v : Driver D) : Type 0 where
  pub same : v.plant ≡ w.plant
  pub between : MetadataState
  pub looks : LooksForMessage (state_of d w.plant.at) w.metadata between
  pub none : between.held ≡ None
  pub asked : (msg : Msg) → between.fill ≡ Some msg → IsFilledFor (rows_of v.plant.at.rows msg.channel)
  pub state : v.metadata ≡ record between {
    held = v.metadata.held;
    found_none = is_none v.metadata.held;
    next = on.Plant;
  }
  pub taken : IfSome v.metadata.held (λ msg. GivesOldest w.queue msg v.queue)
  pub empty : v.metadata.held ≡ None → IsEmpty w.queue
  pub unchanged : v.metadata.held ≡ None → v.queue ≡ w.queue
