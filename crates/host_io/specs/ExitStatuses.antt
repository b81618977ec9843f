-- The exit status of the program.
use Rattle.std.specs.Prelude.{ℕ}
use Rattle.blob_tool.specs.declared.status.Status.{Status}
use Rattle.blob_tool.specs.declared.status.Status.TheVariants as status
use Rattle.host_io.specs.declared.ending.Ending.{Ending}
use Rattle.host_io.specs.declared.ending.Ending.TheVariants as ending

-- of a command that ended so
abbrev pub status_number : Status → ℕ
status_number status.Good = 0
status_number status.Usage = 1
status_number (status.Script line kind) = 2
status_number (status.Image fault) = 3
status_number status.ScriptRead = 4
status_number status.OutWrite = 5
status_number (status.Device at) = 6
status_number status.Memory = 7

-- Words that aren't UTF-8, that ask for help or the version, or of which one isn't of its form, are no command; an
-- image that can't be opened counts as a device that fails.
abbrev pub exit_status : Ending → ℕ
exit_status (ending.Ran status) = status_number status
exit_status (ending.Refused text) = 1
exit_status (ending.BadWord fault) = 1
exit_status ending.NotText = 1
exit_status (ending.NotOpened fault) = 6
