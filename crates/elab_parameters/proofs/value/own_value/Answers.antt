use Rattle.elab_faults.proofs.Single.{expr-right}
use Rattle.scope_meaning.specs.Constants.{constants, read}
use Rattle.elab_parameters.proofs.Values.{own}
use Rattle.elab_parameters.proofs.value.own_value.Goals as goal

pub returns-in-Ok : goal.returns-in-Ok
returns-in-Ok g c = λ known name here.
    let e = c.args.expr.now in
    let h = c.in-Ok.ensures known here in
    own known e c.args.size name c.value_in.result (read (constants known) e).meaning h.0 (expr-right known e h.0)
    (c.value_in.ensures (read (constants known) e).meaning name h.1)

pub returns-in-Err : goal.returns-in-Err
returns-in-Err g c = λ known name here. c.in-Err.ensures known here
