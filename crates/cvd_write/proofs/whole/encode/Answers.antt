use Rattle.cvd_write.proofs.Same.{spells, refuses}
use Rattle.cvd_write.proofs.whole.encode.Goals as goal

pub returns-clause-spells : goal.returns-clause-spells
returns-clause-spells c = spells c.args.design.now c.written.result c.requires.valid c.written.ensures.spells

pub returns-clause-refuses : goal.returns-clause-refuses
returns-clause-refuses c = refuses c.args.design.now c.written.result c.written.ensures.refuses
