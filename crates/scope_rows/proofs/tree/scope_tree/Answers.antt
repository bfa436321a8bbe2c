use Rattle.scope_meaning.specs.ScopeTrees.{modules}
use Rattle.scope_rows.proofs.Trees.{of_all, tree_rows}
use Rattle.scope_rows.proofs.tree.scope_tree.Goals as goal

pub returns : goal.returns
returns c = λ files vs are recorded.
    tree_rows (modules files) vs c.in_ok-all.all c.in_ok-scopes.scopes c.in_ok-scopes-2.scopes
    (of_all vs _ c.in_ok-all.all recorded c.in_ok-all.ensures) (c.in_ok-scopes.ensures files are) c.in_ok-scopes-2.ensures
