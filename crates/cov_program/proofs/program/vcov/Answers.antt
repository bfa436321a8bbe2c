use Rattle.command_ending.specs.Ending.{line_at}
use Rattle.cov_program.proofs.ProgramLemmas.{said}
use Rattle.cov_program.proofs.program.vcov.Goals as goal

pub returns-clause-outcome : goal.returns-clause-outcome
returns-clause-outcome g c =
    let leaves = rw c.as_slice.ensures.value at c.run-ending.ensures.leaves in
    let put = rw c.line.ensures at c.put_all.ensures.put in
    let part = rw c.line.ensures at c.put_all.ensures.part in
    (line_at c.run-ending.result, rw c.status.ensures leaves, said (line_at c.run-ending.result) _ _ _ _ c.put_all.result put part c.put_all.ensures.cause)

pub returns-clause-sparing : goal.returns-clause-sparing
returns-clause-sparing g c = rw c.status.ensures (rw c.as_slice.ensures.value at c.run-ending.ensures.sparing)
