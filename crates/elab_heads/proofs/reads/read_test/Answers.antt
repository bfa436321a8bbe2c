use Rattle.elab_heads.proofs.Heads.{test-is}
use Rattle.elab_heads.proofs.reads.read_test.Goals as goal

pub returns : goal.returns
returns g c = λ known here.
    let h = c.in-Ok.ensures known here in
    (h.0, test-is known c.args.test.now c.holds.result h.0 (c.holds.ensures _ h.1))

pub returns-in-Err : goal.returns-in-Err
returns-in-Err g c = λ known here. c.in-Err.ensures known here
