use Rattle.std.proofs.Common.{ℕ, List}
use Rattle.vlog_tree.specs.declared.module.SourceFile.{SourceFile}
use Rattle.scope_meaning.specs.ScopeTrees.{modules}
use Rattle.elab_modules.specs.Modules.{AreModules}
use Rattle.walk_state.specs.Standing.{IsOnWay}
use Rattle.elab_scope.proofs.walk.walked.Given as goal

abbrev pub invariant-steps : goal.invariant-steps
invariant-steps l = (files : List SourceFile) (top : List ℕ) → AreModules files l.table → IsOnWay (modules files) top l.fn.walk
    → IsOnWay (modules files) top l.walk
