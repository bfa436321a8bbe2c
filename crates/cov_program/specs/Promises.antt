-- What the program promises for words.
use Rattle.std.specs.Prelude.{◌≡◌, ℕ, false, List, Option, None, Some}
use Rattle.command_ending.specs.Answer.{refused_with}
use Rattle.command_ending.specs.ErrorLines.{words_line}
use Rattle.command_ending.specs.Promise.{Promise}
use Rattle.command_ending.specs.declared.status.Status.TheVariants.{BadWords}
use Rattle.command_check.specs.CheckPromise.{check_promise}
use Rattle.cover_answer.specs.CoverPromise.{cover_promise}
use Rattle.sim_answer.specs.SimPromise.{sim_promise}
use Rattle.cov_program.specs.Words.{Task, checking, covering, simulating, task_of}

-- words that ask for nothing are refused, and nothing is read or stored
abbrev pub no_promise : Promise
no_promise = record {
  Answers = λ held answer. answer ≡ refused_with BadWords words_line;
  Refuses = λ status line. (status ≡ BadWords) × (line ≡ words_line);
  Reads = λ name. ⊥;
  Stores = λ name. ⊥;
  prints_early = false;
}

-- what a task promises
abbrev pub task_promise : Option Task → Promise
task_promise None = no_promise
task_promise (Some (checking names)) = check_promise names
task_promise (Some (simulating asked)) = sim_promise asked
task_promise (Some (covering asked)) = cover_promise asked

-- what the words promise: the answers to them, the refusals that they may have, and the names that they read and store
abbrev pub promise_of : List (List ℕ) → Promise
promise_of words = task_promise (task_of words)
