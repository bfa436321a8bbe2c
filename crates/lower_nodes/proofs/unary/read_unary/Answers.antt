use Rattle.lower_nodes.proofs.Whole.{unary_reads, unary_fails}
use Rattle.lower_nodes.proofs.unary.read_unary.Goals as goal

pub returns-in-Ok : goal.returns-in-Ok
returns-in-Ok c = λ vars a h.
    unary_reads vars c.args.op a c.args.of _ c.made.result c.kept.result c.in-Ok.is h (c.made.ensures vars a) c.kept.ensures

pub returns-in-Err : goal.returns-in-Err
returns-in-Err c = λ vars a h. unary_fails vars c.args.op a c.args.of _ c.in-Err.is h
