use Rattle.flat_passes.proofs.Constants.{term_there}
use Rattle.flat_passes.proofs.reads.term_of.Goals as goal

pub returns-in-Ok : goal.returns-in-Ok
returns-in-Ok g c = term_there (g.N.Names.environment c.args.names.now) c.args.expr.now c.in-Ok.term c.in-Ok.ensures

pub returns-in-Err : goal.returns-in-Err
returns-in-Err g c = c.no_term.ensures (g.N.Names.environment c.args.names.now) c.args.expr.now c.in-Err.ensures
