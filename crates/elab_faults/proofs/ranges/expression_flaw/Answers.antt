use Rattle.elab_faults.proofs.ranges.expression_flaw.Goals as goal

pub returns : goal.returns
returns g c = λ known here. ((c.in-Ok.ensures known here).0, tt)

pub returns-in-Err : goal.returns-in-Err
returns-in-Err g c = λ known here. c.in-Err.ensures known here
