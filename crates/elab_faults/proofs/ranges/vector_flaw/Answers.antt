use Rattle.elab_faults.proofs.Single.{vector-ok, vector-err}
use Rattle.elab_faults.proofs.ranges.vector_flaw.Goals as goal

pub returns-in-Ok : goal.returns-in-Ok
returns-in-Ok g c = λ known here. vector-ok known c.args.range.now _ (c.in-Ok.ensures.value known here)

pub returns-in-Err : goal.returns-in-Err
returns-in-Err g c = λ known here. vector-err known c.args.range.now _ (c.in-Err.ensures.value known here)
