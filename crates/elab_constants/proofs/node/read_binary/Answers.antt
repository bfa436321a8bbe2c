use Rattle.elab_constants.proofs.Reading.{binary_reads}
use Rattle.elab_constants.proofs.node.read_binary.Goals as goal

pub returns : goal.returns
returns c = λ env a b h k. binary_reads c.args.op env a b c.args.left c.args.right c.both-all.result _ c.binary.result c.both-all.ensures c.in_ok-left.was h
    k c.binary.ensures
