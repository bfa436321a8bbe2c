use Rattle.elab_faults.proofs.Lists.{one-memory}
use Rattle.elab_faults.proofs.ranges.memory_flaw_of.Goals as goal

pub returns-in-Some : goal.returns-in-Some
returns-in-Some g c = λ known here.
    one-memory known c.args.reg.now.words c.in-Some.range c.memory_flaw.result c.in-Some.is (c.memory_flaw.ensures known here)
