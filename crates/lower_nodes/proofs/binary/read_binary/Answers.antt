use Rattle.lower_nodes.proofs.Whole.{binary_reads, binary_fails}
use Rattle.lower_nodes.proofs.binary.read_binary.Goals as goal

pub returns-in-Ok : goal.returns-in-Ok
returns-in-Ok c = λ vars a b h k.
    binary_reads vars c.args.op a b c.args.left c.args.right c.both-operands.result _ c.made.result c.kept.result
    c.both-operands.ensures c.in-Ok.is h k c.made.ensures c.kept.ensures

pub returns-in-Err : goal.returns-in-Err
returns-in-Err c = λ vars a b h k.
    binary_fails vars c.args.op a b c.args.left c.args.right c.both-operands.result _ c.both-operands.ensures c.in-Err.is h k
