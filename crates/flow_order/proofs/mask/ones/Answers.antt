use Rattle.bit_values.proofs.Widths.{ones_is}
use Rattle.flow_order.proofs.mask.ones.Goals as goal

pub returns : goal.returns
returns c = ones_is c.args.count c.requires
