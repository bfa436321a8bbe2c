use Rattle.lower_selects.proofs.Objects.{word_part_reads, word_part_fails}
use Rattle.lower_selects.proofs.object.read_word_part.Goals as goal

pub returns-in-Ok : goal.returns-in-Ok
returns-in-Ok c = λ vars i s h sound vector g k.
    word_part_reads vars c.args.var c.args.of.now i s c.args.at c.args.place c.both-all.result _ c.word_part.result c.kept.result
    h sound vector c.both-all.ensures c.in-Ok.is g k c.word_part.ensures c.kept.ensures

pub returns-in-Err : goal.returns-in-Err
returns-in-Err c = λ vars i s h sound vector g k.
    word_part_fails vars c.args.var c.args.of.now i s c.args.at c.args.place c.both-all.result _
    h sound vector c.both-all.ensures c.in-Err.is g k
