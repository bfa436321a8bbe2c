use Rattle.scope_meaning.specs.ScopeTrees.{modules}
use Rattle.scope_rows.proofs.Trees.{text_put}
use Rattle.scope_rows.proofs.text.with_texts.Goals as goal

pub loop-scope-preserved : goal.loop-scope-preserved
loop-scope-preserved c = λ files are.
    text_put (modules files) c.args.constants.now c.loop-scope.yielded c.in-Some.scope c.loop-scope.scopes c.push.new.self c.in_ok-text.text
    c.list-home.result.now (c.loop-scope.invariant files are) c.list-home.ensures (c.in_ok-text.ensures files are) c.in_ok-push.ensures.ok
