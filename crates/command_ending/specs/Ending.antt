-- The status and the line of a command that ended.
use Rattle.std.specs.Prelude.{ℕ, List, []}
use Rattle.command_ending.specs.ErrorLines.{words_line, memory_line, stopped_line, output_line}
use Rattle.command_ending.specs.declared.ending.Ending.{Ending}
use Rattle.command_ending.specs.declared.ending.Ending.TheVariants as ending
use Rattle.command_ending.specs.declared.status.Status.{Status}
use Rattle.command_ending.specs.declared.status.Status.TheVariants.{Done, BadWords, Fault, NoMemory, Stopped}

abbrev pub status_at : Ending → Status
status_at ending.Done = Done
status_at ending.BadWords = BadWords
status_at ending.NoMemory = NoMemory
status_at ending.Stopped = Stopped
status_at ending.OutputFailed = Fault
status_at (ending.Refused status line) = status

abbrev pub line_at : Ending → List ℕ
line_at ending.Done = []
line_at ending.BadWords = words_line
line_at ending.NoMemory = memory_line
line_at ending.Stopped = stopped_line
line_at ending.OutputFailed = output_line
line_at (ending.Refused status line) = line
