use Rattle.elab_faults.proofs.Lists.{one-start}
use Rattle.elab_faults.proofs.ranges.start_flaw.Goals as goal

pub returns-in-Some : goal.returns-in-Some
returns-in-Some g c = λ known here.
    one-start known c.args.reg.now.start c.in-Some.start c.expression_flaw.result c.in-Some.is (c.expression_flaw.ensures known here)
