use Rattle.std.proofs.Common.{List, Err, subst}
use Rattle.vlog_tree.specs.declared.module.SourceFile.{SourceFile}
use Rattle.scope_meaning.specs.ScopeTrees.{GivesScopes}
use Rattle.elab_scope.proofs.Faults.{gives_doubled}
use Rattle.elab_scope.proofs.tree.scopes.Goals as goal

pub returns-in-Ok : goal.returns-in-Ok
returns-in-Ok c =
    subst (λ (files : List SourceFile). GivesScopes files c.args.top.now c.scopes_among.result) c.as_slice.ensures
    (c.scopes_among.ensures c.as_slice.result.now c.in-Ok.ensures)

pub returns-in-Err : goal.returns-in-Err
returns-in-Err c =
    subst (λ (files : List SourceFile). GivesScopes files c.args.top.now (Err c.in-Err.fault)) c.as_slice.ensures
    (gives_doubled c.as_slice.result.now c.args.top.now c.in-Err.fault c.in-Err.ensures)
