use Rattle.std.proofs.Common.{◌≡◌, ◌≤◌, length, take, [], ◌∷◌, Some}
use Rattle.design_tree.specs.declared.design.Design.{Design}
use Rattle.design_tree.specs.declared.typed.Typed.{Typed}
use Rattle.cvd_nodes.specs.Trees.{AreNodes, plug}
use Rattle.cvd_expressions.specs.Builds.{AllBuilt, tops}
use Rattle.cvd_expressions.proofs.expression.build.Given as goal

abbrev pub invariant-loop-left : goal.invariant-loop-left
invariant-loop-left l = record {
  within : l.left ≤ length l.nodes;
  goes : (d : Design) (t : Typed) → d.vars ≡ l.vars → AreNodes l.nodes t → AllBuilt d l.stack × (plug (take l.left l.nodes) (tops l.stack) ≡ Some (t ∷ []));
}

abbrev pub decreases-loop-left : goal.decreases-loop-left
decreases-loop-left l = l.left
