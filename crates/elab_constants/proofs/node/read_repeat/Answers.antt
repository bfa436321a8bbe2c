use Rattle.elab_constants.proofs.Reading.{repeat_fails, repeat_reads}
use Rattle.elab_constants.proofs.node.read_repeat.Goals as goal

pub returns-in-Err : goal.returns-in-Err
returns-in-Err c = λ env r rs h k.
    repeat_fails env r rs c.read_count-count.result c.args.parts c.both-all.result _ c.both-all.ensures c.in-Err.is (c.read_count-count.ensures r h) k

pub returns-in-Ok : goal.returns-in-Ok
returns-in-Ok c = λ env r rs h k.
    repeat_reads env r rs c.read_count-count.result c.args.parts c.both-all.result _ c.repeat.result c.both-all.ensures c.in-Ok.is
    (c.read_count-count.ensures r h) k
    (c.repeat.ensures env r rs)
