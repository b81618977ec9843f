-- The one line that sums up a log.
use Rattle.std.specs.Prelude.{ℕ, ◌-◌, Bool, true, false, List, ◌++◌, count_by, length, decimal, codes}
use Rattle.std.specs.Int.{to_be_bytes, w32}
use Rattle.crc32c.specs.Crc.{crc32c_of}
use Rattle.volume_model.specs.declared.reply.Reply.{Reply}
use Rattle.volume_model.specs.declared.reply.Reply.TheVariants as r
use Rattle.volume_model.specs.declared.reply.Entry.{Entry}
use Rattle.blob_report.specs.Pieces.{hex_text}
use Rattle.blob_report.specs.Text.{log_text}

-- a reply that gives what was asked for
abbrev pub is_done : Reply → Bool
is_done r.Ok = true
is_done (r.Made head) = true
is_done (r.Content page) = true
is_done (r.Value value) = true
is_done (r.Info info) = true
is_done (r.List infos) = true
is_done (r.Df df) = true
is_done _ = false

-- how many commands were done
abbrev pub done_in : List Entry → ℕ
done_in entries = count_by (λ entry. is_done entry.reply) entries

-- How many commands there were, how many of them were done and how many weren't, and the checksum of the log's text in
-- hexadecimal, the highest digit first.
abbrev pub summary_text : List Entry → List ℕ
summary_text entries =
    codes "entries " ++ decimal (length entries) ++ codes " ok " ++ decimal (done_in entries)
    ++ codes " other " ++ decimal (length entries - done_in entries)
    ++ codes " crc " ++ hex_text (to_be_bytes w32 (crc32c_of (log_text entries))) ++ codes "\n"
