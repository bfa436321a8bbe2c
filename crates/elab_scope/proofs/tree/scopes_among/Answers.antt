use Rattle.scope_meaning.specs.Heads.{module_named}
use Rattle.scope_meaning.specs.ScopeTrees.{modules}
use Rattle.elab_instances.proofs.Later.{is-none, is-some}
use Rattle.elab_scope.proofs.Faults.{gives_no_top}
use Rattle.elab_scope.proofs.tree.scopes_among.Goals as goal

pub returns-in-Some : goal.returns-in-Some
returns-in-Some c = λ files are.
    let f = is-some (module_named (modules files) c.args.top.now) c.in-Some.found (c.in-Some.ensures files are) in
    c.tree_from.ensures files f.m are f.named

pub returns-in-None : goal.returns-in-None
returns-in-None c = λ files are.
    gives_no_top files c.args.top.now are.table.single (is-none (module_named (modules files) c.args.top.now) (c.in-None.ensures files are))
