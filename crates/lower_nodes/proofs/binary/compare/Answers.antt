use Rattle.lower_nodes.proofs.Binaries.{comparison_is}
use Rattle.lower_nodes.proofs.binary.compare.Goals as goal

pub returns : goal.returns
returns c =
    comparison_is c.args.op c.args.left c.args.right c.greater-size.result c.both_signed-by_sign.result _ _ _ c.alone.result
    c.greater-size.ensures c.both_signed-by_sign.ensures c.in_ok-left.ensures c.in_ok-right.ensures c.in_ok-bit.ensures
    (record { size = c.alone.ensures.size; signed = c.alone.ensures.signed; form = c.alone.ensures.form })
