use Rattle.scope_meaning.specs.ScopeTrees.{modules}
use Rattle.walk_kinds.proofs.items.step_place.Goals as goal

pub returns-in-Ok : goal.returns-in-Ok
returns-in-Ok c = λ files top done here at rest under are m.
    c.through_item.ensures files top done here at rest under are (c.in-Ok.ensures (modules files) top done here at rest under m c.requires)
    m.scope.item m.scope.construct

pub returns-in-Err : goal.returns-in-Err
returns-in-Err c = λ files top done here at rest under are m. c.in-Err.ensures (modules files) top done here at rest under m c.requires
