-- The turn that answers in memory, by what the answer is in the volumes that are shown.
use Rattle.std.proofs.Common.{◌≡◌, ◌≢◌, ℕ, ◌<◌, Option, None, Some, length, ◌∙◌, ap}
use Rattle.std.specs.Ordering.{nat_cmp}
use Rattle.std.specs.FinMap as map
use Rattle.page_disk.specs.declared.disk.PageDisk.{Ghosts}
use Rattle.volume_model.specs.Xattrs.{Xattrs}
use Rattle.volume_model.specs.declared.reply.Df.{Df}
use Rattle.volume_model.specs.declared.reply.Reply.{Reply}
use Rattle.volume_model.specs.declared.reply.Reply.TheVariants as r
use Rattle.store_model.specs.Maps.{Map}
use Rattle.store_model.specs.Shown.{fixed_of}
use Rattle.store_model.specs.StoreState.{logged, shown}
use Rattle.store_model.specs.Cases.{df_of, IsInMemory}
use Rattle.store_model.specs.Cases as kind
use Rattle.metadata_turns.specs.declared.answering.NewLive.{NewLive}
use Rattle.running_store.specs.Steps.{IsPostedAt, logged_at}
use Rattle.running_store.specs.StoreView.{StoreView, device_of, state_of}
use Rattle.running_store.specs.TurnMade.{TurnMade}
use Rattle.metadata_turns.proofs.Answered.{Answered, live_after}
use Rattle.running_store.proofs.Entered.{disk_same, entered}

module _ {D : Type 0} (d : Ghosts D) (p q : StoreView D) (channel : ℕ) (low : channel < length p.rows)
    (posted : IsPostedAt p channel) (unfilled : p.filling ≢ Some channel) (runs : p.stopped ≡ None)
    (no_job : p.job ≡ None) where
  pub answer_made : (reply : Reply) (new : Option NewLive) (live : map.FinMap nat_cmp Xattrs)
      → IsInMemory posted.waits.command
      → Answered (fixed_of p.super) (shown (state_of d p)) (map.get p.live) posted.waits.command reply new
      → ((df : Df) → reply ≡ r.Df df → df ≡ df_of (state_of d p)) → map.get live ≡ live_after (map.get p.live) new
      → q ≡ logged_at (record p { live = live }) channel posted.waits.command posted.waits.rest reply (d.clock q.disk)
      → TurnMade d p q kind.answers
  answer_made reply new live in_memory x free kept is =
      let command = posted.waits.command in
      let rest = posted.waits.rest in
      let mid : StoreView D = record p { live = live } in (
        record {
          posted = record {
            channel = channel;
            serial = posted.serial;
            command = command;
            rest = rest;
            row = posted.waits.row;
          };
          runs = runs;
          no_job = no_job;
          unfilled = unfilled;
          in_memory = in_memory;
          reply = reply;
          quiet = x.quiet;
          step = x.allowed;
          free = free;
          next = entered d mid q channel command rest reply low is
              ∙ ap (λ (l : Map Xattrs).
              logged (record (state_of d p) { live = l }) channel command rest reply (device_of d p.disk))
              (kept ∙ x.live_is);
        },
        disk_same d mid q channel command rest reply low is,
      )
