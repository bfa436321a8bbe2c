use Rattle.lower_nodes.proofs.Whole.{call_reads, call_fails}
use Rattle.lower_nodes.proofs.call.read_call.Goals as goal

pub returns-in-Ok : goal.returns-in-Ok
returns-in-Ok c = λ vars a h.
    call_reads vars c.args.signed a c.args.of _ c.with_sign.result c.kept.result c.in-Ok.is h c.with_sign.ensures c.kept.ensures

pub returns-in-Err : goal.returns-in-Err
returns-in-Err c = λ vars a h. call_fails vars c.args.signed a c.args.of _ c.in-Err.is h
