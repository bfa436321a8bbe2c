use Rattle.std.proofs.Common.{◌≡◌, List, ℕ, [], ◌+◌}
use Rattle.source_meaning.specs.Loops.{most_passes}
use Rattle.vlog_tree.specs.declared.statement.Stmt.{Stmt}
use Rattle.flat_passes.specs.declared.values.Passes.{Passes}
use Rattle.flat_passes.specs.Turns.{loop_of, IsFrom}
use Rattle.flat_passes.proofs.values.passes_from.Given as goal

abbrev pub invariant-loop-pass : goal.invariant-loop-pass
invariant-loop-pass g l =
    (step_name : List ℕ) (body : Stmt) (k : ℕ) (p : Passes) → k + l._pass ≡ most_passes
    → IsFrom (g.N.Names.environment l.names) (loop_of l.head step_name body) k l.value l.made p
    → IsFrom (g.N.Names.environment l.names) (loop_of l.head step_name body) most_passes l.first [] p
