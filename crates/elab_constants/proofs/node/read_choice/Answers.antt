use Rattle.elab_constants.proofs.Reading.{choice_fails, choice_reads}
use Rattle.elab_constants.proofs.node.read_choice.Goals as goal

pub returns-in-Err : goal.returns-in-Err
returns-in-Err c = λ env t a b ht ha hb.
    choice_fails env t a b c.args.test c.args.yes c.args.no c.both-arms.result c.both-all.result _ c.both-arms.ensures c.both-all.ensures c.in-Err.is ht ha hb

pub returns-in-Ok : goal.returns-in-Ok
returns-in-Ok c = λ env t a b ht ha hb.
    choice_reads env t a b c.args.test c.args.yes c.args.no c.both-arms.result c.both-all.result _ c.choose.result c.both-arms.ensures c.both-all.ensures
    c.in-Ok.is ht ha hb
    c.choose.ensures
