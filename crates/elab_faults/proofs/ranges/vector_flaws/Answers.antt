use Rattle.elab_faults.proofs.Lists.{one-vector}
use Rattle.elab_faults.proofs.ranges.vector_flaws.Goals as goal

pub returns-in-Some : goal.returns-in-Some
returns-in-Some g c = λ known here.
    one-vector known c.args.range.now c.in-Some.range c.vector_flaw.result c.in-Some.is (c.vector_flaw.ensures known here)
