use Rattle.std.proofs.Common.{arith}
use Rattle.flow_edges.proofs.Numbers.{column_room}
use Rattle.flow_edges.proofs.stretch.columns_of.Goals as goal

pub overflow_add-result : goal.overflow_add-result
overflow_add-result c = omega (arith, column_room c.args.slots.now c.args.span 0 c.requires.slots c.requires.span (omega arith))

pub overflow_add-result-2 : goal.overflow_add-result-2
overflow_add-result-2 c = omega (arith, column_room c.args.slots.now c.args.span 0 c.requires.slots c.requires.span (omega arith))
