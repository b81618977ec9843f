-- A log as it is seen of a device that doesn't tell what it holds: for such a device zeros stand for each page that it
-- reads, and so they do for each page that a command writes or a reply has.
use Rattle.std.specs.Prelude.{Bool, if◌then◌else◌, List, map}
use Rattle.volume_model.specs.Volumes.{zero_page}
use Rattle.volume_model.specs.declared.command.Command.{Command}
use Rattle.volume_model.specs.declared.command.Command.TheVariants as c
use Rattle.volume_model.specs.declared.command.PageWord.TheVariants.{Fill}
use Rattle.volume_model.specs.declared.reply.Reply.{Reply}
use Rattle.volume_model.specs.declared.reply.Reply.TheVariants as r
use Rattle.volume_model.specs.declared.reply.Entry.{Entry}

module _ (tells : Bool) where
  -- a command that writes a page writes zeros
  abbrev pub seen_command : Command → Command
  seen_command (c.Write volume page word) = c.Write volume page (if tells then word else Fill 0)
  seen_command command = command

  -- a page that is answered is one of zeros
  abbrev pub seen_reply : Reply → Reply
  seen_reply (r.Content page) = r.Content (record page { value = if tells then page.value else zero_page })
  seen_reply reply = reply

  abbrev pub seen_entry : Entry → Entry
  seen_entry e = record e { command = seen_command e.command; reply = seen_reply e.reply }

  -- the log itself of a device that tells; else the log but for what pages hold
  abbrev pub seen : List Entry → List Entry
  seen log = if tells then log else map seen_entry log
