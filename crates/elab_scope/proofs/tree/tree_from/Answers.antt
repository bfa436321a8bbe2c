use Rattle.elab_scope.proofs.Faults.{nothing_early, gives_tree, gives_refusal}
use Rattle.elab_scope.proofs.tree.tree_from.Goals as goal

pub returns-in_ok-scopes-in-Ok : goal.returns-in_ok-scopes-in-Ok
returns-in_ok-scopes-in-Ok c = λ files m are found.
    let top = c.args.top.now in
    let whole = c.in-Ok.ensures files m are found in
    gives_tree files top c.in_ok-scopes-in-Ok.scopes c.in-Ok.records (nothing_early files top (c.args.number, m) are.table.single found) whole
    (c.in_ok-scopes-in-Ok.ensures files whole.vs are whole.recorded)

pub returns-in-Err : goal.returns-in-Err
returns-in-Err c = λ files m are found.
    let top = c.args.top.now in
    gives_refusal files top c.in-Err.fault (nothing_early files top (c.args.number, m) are.table.single found) (c.in-Err.ensures files m are found)
