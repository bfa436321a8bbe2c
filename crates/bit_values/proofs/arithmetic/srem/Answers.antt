use Rattle.std.proofs.Common.{arith}
use Rattle.std.proofs.lemmas.Grind.{common_steps}
use Rattle.bit_values.proofs.Widths.{neg-reduced}
use Rattle.bit_values.proofs.arithmetic.srem.Goals as goal

pub returns-then-negative-clause-value : goal.returns-then-negative-clause-value
returns-then-negative-clause-value c = grind (arith, common_steps, neg-reduced)
