use Rattle.std.proofs.Common.{sym, arith}
use Rattle.std.proofs.lemmas.List.{get_or_past}
use Rattle.flow_graph.proofs.falling.level_at.Goals as goal

pub returns : goal.returns
returns c = sym (get_or_past c.args.levels.now c.args.x 0 (omega arith))
