use Rattle.elab_constants.proofs.Reading.{unary_reads}
use Rattle.elab_constants.proofs.node.read_unary.Goals as goal

pub returns : goal.returns
returns c = λ env a h. unary_reads c.args.op env a c.args.of _ c.unary.result c.in_ok-of.was h c.unary.ensures
