-- The exit status of the program.
use Rattle.std.specs.Prelude.{ℕ}
use Rattle.command_ending.specs.declared.status.Status.{Status}
use Rattle.command_ending.specs.declared.status.Status.TheVariants.{Done, BadWords, BadDesign, BadStimulus, BadData, Fault, Limit, NoMemory, Stopped}

abbrev pub exit_code : Status → ℕ
exit_code Done = 0
exit_code BadWords = 1
exit_code BadDesign = 2
exit_code BadStimulus = 3
exit_code BadData = 4
exit_code Fault = 5
exit_code Limit = 6
exit_code NoMemory = 7
exit_code Stopped = 8
