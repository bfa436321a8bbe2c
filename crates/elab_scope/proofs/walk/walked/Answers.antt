use Rattle.scope_meaning.specs.ScopeTrees.{modules}
use Rattle.elab_scope.proofs.Walks.{taken, at_end}
use Rattle.elab_scope.proofs.walk.walked.Goals as goal

pub steps-preserved : goal.steps-preserved
steps-preserved c = λ files top are s.
    let now = c.steps.invariant files top are s in
    c.in-Ok.ensures files top now.done now.here now.place now.tasks are (taken c.in-Some.left c.pop.new.self now c.in-Some.ensures)

pub returns-in-None : goal.returns-in-None
returns-in-None c = λ files top are s. at_end (c.steps.invariant files top are s) c.in-None.ensures

pub returns-in-Err : goal.returns-in-Err
returns-in-Err c = λ files top are s.
    let now = c.steps.invariant files top are s in
    c.in-Err.ensures files top now.done now.here now.place now.tasks are (taken c.in-Some.left c.pop.new.self now c.in-Some.ensures)
