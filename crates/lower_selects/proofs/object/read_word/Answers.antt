use Rattle.lower_selects.proofs.Objects.{word_reads, word_fails}
use Rattle.lower_selects.proofs.object.read_word.Goals as goal

pub returns-in-Ok : goal.returns-in-Ok
returns-in-Ok c = λ vars i h s g.
    word_reads vars c.args.var c.args.of.now i c.args.at c.some_bits-width.result c.both-all.result _ c.word_form.result c.kept.result
    h s c.both-all.ensures c.in-Ok.is g c.some_bits-width.ensures c.word_form.ensures c.kept.ensures

pub returns-in-Err : goal.returns-in-Err
returns-in-Err c = λ vars i h s g.
    word_fails vars c.args.var c.args.of.now i c.args.at c.some_bits-width.result c.both-all.result _
    h s c.both-all.ensures c.in-Err.is g c.some_bits-width.ensures
