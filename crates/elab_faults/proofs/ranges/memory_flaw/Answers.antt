use Rattle.std.proofs.Common.{refl}
use Rattle.elab_faults.proofs.Single.{memory-ok, memory-err}
use Rattle.elab_faults.proofs.ranges.memory_flaw.Goals as goal

pub returns-in-Ok : goal.returns-in-Ok
returns-in-Ok g c = λ known here. memory-ok known c.args.range.now _ _ (c.in-Ok.ensures known here) refl

pub returns-in-Err : goal.returns-in-Err
returns-in-Err g c = λ known here. memory-err known c.args.range.now _ (c.in-Err.ensures known here)
