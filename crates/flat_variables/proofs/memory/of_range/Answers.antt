use Rattle.std.proofs.Common.{sym}
use Rattle.flat_variables.proofs.memory.of_range.Goals as goal

pub returns-else-words-gt4294967295 : goal.returns-else-words-gt4294967295
returns-else-words-gt4294967295 g c = λ known h. sym (c.in-Ok.ensures known h).1

pub returns-in-Err : goal.returns-in-Err
returns-in-Err g c = λ known h. c.of_fault.ensures known c.args.range.now (c.in-Err.ensures known h)
