use Rattle.std.proofs.Common.{arith}
use Rattle.std.proofs.lemmas.Grind.{common_steps}
use Rattle.bit_values.proofs.Widths.{neg-reduced}
use Rattle.bit_values.proofs.arithmetic.sdiv.Goals as goal

pub returns-else-is_negative-clause-value : goal.returns-else-is_negative-clause-value
returns-else-is_negative-clause-value c = grind (arith, common_steps, neg-reduced)
