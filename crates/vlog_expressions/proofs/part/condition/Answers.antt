use Rattle.std.proofs.Common.{arith, rules}
use Rattle.std.proofs.lemmas.Grind.{common_steps}
use Rattle.vlog_reading.specs.ReadParts.{condition}
use Rattle.vlog_expressions.proofs.part.condition.Goals as goal

pub returns-in_err-expect : goal.returns-in_err-expect
unfolding condition
returns-in_err-expect c = first_of (search rules, grind (arith, common_steps))

pub returns : goal.returns
unfolding condition
returns c = first_of (search rules, grind (arith, common_steps))
