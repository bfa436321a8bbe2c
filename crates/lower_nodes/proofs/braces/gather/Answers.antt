use Rattle.lower_nodes.proofs.Others.{gather_fails}
use Rattle.lower_nodes.proofs.Whole.{gather_gives}
use Rattle.lower_nodes.proofs.braces.gather.Goals as goal

pub returns-in-Ok : goal.returns-in-Ok
returns-in-Ok c = λ vars ps p h k.
    gather_gives vars ps p c.args.so_far c.args.part c.both-all.result _ c.with.result c.kept.result
    c.both-all.ensures c.in-Ok.is h k c.with.ensures c.kept.ensures

pub returns-in-Err : goal.returns-in-Err
returns-in-Err c = λ vars ps p h k.
    gather_fails vars ps p c.args.so_far c.args.part c.both-all.result _ c.both-all.ensures c.in-Err.is h k
