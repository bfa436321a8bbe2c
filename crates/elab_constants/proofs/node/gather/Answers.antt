use Rattle.elab_constants.proofs.Reading.{gather_fails, gather_reads}
use Rattle.elab_constants.proofs.node.gather.Goals as goal

pub returns-in-Err : goal.returns-in-Err
returns-in-Err c = λ rs r h k.
    gather_fails rs r c.args.so_far c.args.part c.both-all.result _ c.both-all.ensures c.in-Err.is h k

pub returns-in-Ok : goal.returns-in-Ok
returns-in-Ok c = λ rs r h k.
    gather_reads rs r c.args.so_far c.args.part c.both-all.result _ c.with.result c.both-all.ensures c.in-Ok.is h k c.with.ensures
