-- What the words of a command line ask for, among the commands that are built (docs/commands.md, "Words").
use Rattle.std.specs.Prelude.{ℕ, List, Option, None, Some, codes, option_and_then, unwrap_or}
use Rattle.cov_words.specs.Command.{Command, check, build, sim, cover, selftest, Covering, Simulating, command_of}
use Rattle.sim_answer.specs.Simulation.{Simulation}

-- what the program does: a check of these files, a `sim`, or a `cover`
pub data Task : Type 0 where
  checking : List (List ℕ) → Task
  simulating : Simulation → Task
  covering : Covering → Task

-- what a `sim` asks for, with what stands for options that aren't given
abbrev pub simulation_of : Simulating → Simulation
simulation_of asked = record {
  design = asked.design;
  stimulus = asked.stimulus;
  data_name = unwrap_or asked.data_name (codes "coverage.dat");
  count_bits = unwrap_or asked.count_bits 64;
}

-- what a command asks for; commands that aren't built yet ask for nothing
abbrev pub task_for : Command → Option Task
task_for (check names) = Some (checking names)
task_for (build asked) = None
task_for (sim asked) = Some (simulating (simulation_of asked))
task_for (cover asked) = Some (covering asked)
task_for (selftest stages) = None

-- what the words ask for, if they ask for anything
abbrev pub task_of : List (List ℕ) → Option Task
task_of words = option_and_then task_for (command_of words)
