-- What words ask of a `sim`.
use Rattle.std.proofs.Common.{◌≡◌, sym, ap, subst, ℕ, ◌≤◌, List, Option, None, Some, arith}
use Rattle.std.specs.Prelude.{IfSome, unwrap_or}
use Rattle.cov_words.specs.Command.{Simulating, command_of, sim}
use Rattle.cov_words.specs.SeenCommand.{seen as seen_command, seen_sim}
use Rattle.cov_words.specs.declared.command.Command.{Command as Borrowed}
use Rattle.cov_words.specs.declared.command.Command.TheVariants as borrowed
use Rattle.cov_words.specs.declared.command.Sim.{Sim as Asked}
use Rattle.cov_program.specs.Tasks.{IsInRange, seen_task}
use Rattle.cov_program.specs.Words.{Task as Seen, checking, covering, simulating, simulation_of, task_for}
use Rattle.cov_program.specs.declared.task.Task.{Task}
use Rattle.cov_program.specs.declared.task.Task.TheVariants.{Check, Cover, Sim}

-- counts that words ask for have at most 64 bits
abbrev pub CountBitsInRange : Type 0
CountBitsInRange = (words : List (List ℕ)) (asked : Simulating) → command_of words ≡ Some (sim asked) → IfSome asked.count_bits (λ bits. bits ≤ 64)

abbrev bits_of : Option Seen → ℕ
bits_of None = 0
bits_of (Some (checking names)) = 0
bits_of (Some (simulating asked)) = asked.count_bits
bits_of (Some (covering asked)) = 0

-- and so where none are given
or_all : (bits : Option ℕ) → IfSome bits (λ n. n ≤ 64) → unwrap_or bits 64 ≤ 64
or_all None is = omega arith
or_all (Some n) is = is

sim_range : CountBitsInRange → (words : List (List ℕ)) (command : Borrowed) (asked : Asked) → Some (seen_command command) ≡ command_of words
    → Some (simulating (simulation_of (seen_sim asked))) ≡ task_for (seen_command command) → (simulation_of (seen_sim asked)).count_bits ≤ 64
sim_range law words (borrowed.Check files) asked spelled same = absurd (cc)
sim_range law words (borrowed.Build built) asked spelled same = absurd (cc)
sim_range law words (borrowed.Sim given) asked spelled same =
    subst (λ (n : ℕ). n ≤ 64) (sym (ap bits_of same)) (or_all given.count_bits (law words (seen_sim given) (sym spelled)))
sim_range law words (borrowed.Cover covered) asked spelled same = absurd (cc)
sim_range law words (borrowed.SelfTest stages) asked spelled same = absurd (cc)

-- what a command asks for that words spell
pub task_range : CountBitsInRange → (words : List (List ℕ)) (command : Borrowed) (task : Option Task) → Some (seen_command command) ≡ command_of words
    → seen_task task ≡ task_for (seen_command command) → IfSome task IsInRange
task_range law words command None spelled same = tt
task_range law words command (Some (Check names)) spelled same = tt
task_range law words command (Some (Sim asked)) spelled same = sim_range law words command asked spelled same
task_range law words command (Some (Cover asked)) spelled same = tt
