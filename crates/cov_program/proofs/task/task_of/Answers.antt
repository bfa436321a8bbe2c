use Rattle.std.proofs.Common.{map, string_bytes}
use Rattle.cov_program.proofs.TaskLemmas.{task_range}
use Rattle.cov_program.proofs.task.task_of.Goals as goal

pub returns-in-Some-clause-range : goal.returns-in-Some-clause-range
returns-in-Some-clause-range c =
    task_range c.count_bits_are_in_range.ensures (map string_bytes c.args.words.now) c.in-Some.command c.task_for.result c.in-Some.ensures c.task_for.ensures
