use Rattle.std.proofs.Common.{subst, ◌≤◌, length}
use Rattle.design_tree.specs.declared.design.Design.{Design}
use Rattle.flow_edges.proofs.answer.next_of.Goals as goal

pub graph_of-requires-clause-processes : goal.graph_of-requires-clause-processes
graph_of-requires-clause-processes c =
    subst (λ (d : Design). length d.processes ≤ 65536) c.requires.valid.2 c.requires.valid.1.limits.processes
