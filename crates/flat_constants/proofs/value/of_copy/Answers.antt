use Rattle.flat_constants.proofs.Values.{term_given}
use Rattle.flat_constants.proofs.value.of_copy.Goals as goal

pub returns : goal.returns
returns c = λ m h. c.of_reading.ensures m (term_given c.args.source.now m c.read.result h c.read.ensures)
