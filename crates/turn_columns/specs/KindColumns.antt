-- The columns of each kind: what it does to the job, and which row it names.
use Rattle.std.specs.Prelude.{◌⊎◌, ℕ, Bool, Option, None, Some}
use Rattle.std.proofs.Common.{inl, inr}
use Rattle.store_model.specs.Cases as kind
use Rattle.store_model.specs.Cases.{Kind, Turn}
use Rattle.store_model.specs.Cases.BreakDown.{IsUnlogged, WasLogged}
use Rattle.store_model.specs.Rows.{fill_row}
use Rattle.store_model.specs.StoreState.{JobState, StoreState}
use Rattle.turn_columns.specs.Columns.{breaks, JobColumn, leaves, moves, starts}

-- what it does to the job: most turns leave it
abbrev pub job_column : Kind → JobColumn
job_column kind.begins = starts
job_column kind.begins_repair = starts
job_column kind.begins_insert = starts
job_column kind.marks_dirty = moves
job_column kind.zeroes = moves
job_column kind.writes = moves
job_column kind.commits = moves
job_column kind.erases = moves
job_column kind.frees = moves
job_column kind.replaces_more = moves
job_column kind.inserts = moves
job_column kind.insert_ends = breaks
job_column kind.fails = breaks
job_column kind.breaks_off = breaks
job_column kind.breaks_down = breaks
job_column kind.more_fails = breaks
job_column kind.more_breaks_off = breaks
job_column kind.insert_fails = breaks
job_column kind.insert_breaks_down = breaks
job_column kind.ends_fill = breaks
job_column _ = leaves

-- whom a failure breaks off: where its command was in the log, nobody
abbrev pub broken : (p : StoreState) (j : JobState) (at : ℕ) (q : StoreState) → IsUnlogged p j at q ⊎ WasLogged p j q
    → Option ℕ
broken p j at q (inl x) = Some x.served.channel
broken p j at q (inr x) = None

-- the row that a turn of this kind names
abbrev pub row_of : (told : Bool) (p q : StoreState) (k : Kind) → Turn told p k q → Option ℕ
row_of told p q kind.breaks_down t = broken p t.job t.at q t.ends
row_of told p q kind.posts t = Some t.channel
row_of told p q kind.halts t = Some t.channel
row_of told p q kind.settles t = Some t.channel
row_of told p q kind.ends t = Some t.channel
row_of told p q kind.flushes t = Some t.channel
row_of told p q kind.flush_fails t = Some t.channel
row_of told p q kind.reads t = Some t.channel
row_of told p q kind.refuses_write t = Some t.channel
row_of told p q kind.answers t = Some t.posted.channel
row_of told p q kind.refuses t = Some t.posted.channel
row_of told p q kind.begins t = Some t.posted.channel
row_of told p q kind.commits t = Some t.served.channel
row_of told p q kind.fails t = Some t.served.channel
row_of told p q kind.more_fails t = Some t.served.channel
row_of told p q kind.writes_page t = Some t.at.channel
row_of told p q kind.fails_to_write t = Some t.at.channel
row_of told p q kind.finds_empty t = Some t.write.channel
row_of told p q kind.finds_filled t = Some t.write.channel
row_of told p q kind.claims t = Some t.write.channel
row_of told p q kind.refuses_claim t = Some t.write.channel
row_of told p q kind.copies t = Some t.copying.row
row_of told p q kind.loses_copy t = Some t.copying.row
row_of told p q kind.copy_not_read t = Some t.copying.row
row_of told p q kind.copy_fails t = Some t.copying.row
row_of told p q kind.sends t = Some t.copying.row
row_of told p q kind.loses_insert t = Some t.posted.row
row_of told p q kind.lacks_for_insert t = Some t.posted.row
row_of told p q kind.lacks_memory_for_insert t = Some t.posted.row
row_of told p q kind.begins_insert t = Some t.posted.row
row_of told p q kind.inserts t = Some t.inserting.row
row_of told p q kind.insert_ends t = Some t.inserting.row
row_of told p q kind.insert_fails t = Some t.inserting.row
row_of told p q kind.insert_breaks_down t = Some t.inserting.row
row_of told p q kind.claims_fill t = Some fill_row
row_of told p q kind.halts_fill t = Some fill_row
row_of told p q kind.ends_fill t = Some fill_row
row_of told p q kind.lacks_for_fill t = Some t.fill.posted.channel
row_of told p q _ t = None
