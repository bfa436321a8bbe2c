use Rattle.lower_selects.proofs.Places.{at_reads, at_fails}
use Rattle.lower_selects.proofs.place.read_at.Goals as goal

pub returns-in-Ok : goal.returns-in-Ok
returns-in-Ok c = λ vars i h. at_reads vars c.args.low i c.args.at _ c.begin.result c.kept.result c.in-Ok.is h c.begin.ensures c.kept.ensures

pub returns-in-Err : goal.returns-in-Err
returns-in-Err c = λ vars i h. at_fails vars c.args.low i c.args.at _ c.in-Err.is h
