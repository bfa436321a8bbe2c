use Rattle.lower_nodes.proofs.Whole.{choice_reads, choice_fails}
use Rattle.lower_nodes.proofs.choose.read_choice.Goals as goal

pub returns-in-Ok : goal.returns-in-Ok
returns-in-Ok c = λ vars t a b g h k.
    choice_reads vars t a b c.args.on c.args.yes c.args.no c.both-arms.result c.both-all.result _ c.choose.result c.kept.result
    c.both-arms.ensures c.both-all.ensures c.in-Ok.is g h k c.choose.ensures c.kept.ensures

pub returns-in-Err : goal.returns-in-Err
returns-in-Err c = λ vars t a b g h k.
    choice_fails vars t a b c.args.on c.args.yes c.args.no c.both-arms.result c.both-all.result _
    c.both-arms.ensures c.both-all.ensures c.in-Err.is g h k
