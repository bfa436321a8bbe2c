-- What contracts see of a borrowed task.
use Rattle.std.specs.Prelude.{◌≤◌, Option, None, Some}
use Rattle.cov_words.specs.SeenCommand.{seen_cover, seen_sim}
use Rattle.cov_program.specs.Words.{Task as Asked, checking, covering, simulating, simulation_of}
use Rattle.cov_program.specs.declared.task.Task.{Task}
use Rattle.cov_program.specs.declared.task.Task.TheVariants.{Check, Cover, Sim}

abbrev pub seen : Task → Asked
seen (Check names) = checking names
seen (Sim asked) = simulating (simulation_of (seen_sim asked))
seen (Cover asked) = covering (seen_cover asked)

-- a borrowed task as lists of bytes
abbrev pub seen_task : Option Task → Option Asked
seen_task None = None
seen_task (Some task) = Some (seen task)

-- a `sim` counts in at most 64 bits
abbrev pub IsInRange : Task → Type 0
IsInRange (Check names) = Unit {0}
IsInRange (Sim asked) = (simulation_of (seen_sim asked)).count_bits ≤ 64
IsInRange (Cover asked) = Unit {0}
