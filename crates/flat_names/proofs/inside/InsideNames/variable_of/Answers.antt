use Rattle.flat_names.proofs.Names.{with_number, without_number}
use Rattle.flat_names.proofs.inside.InsideNames.variable_of.Goals as goal

pub returns-in-Some : goal.returns-in-Some
returns-in-Some c = with_number c.args.self.now.vars.now _ _ c.numbered.result c.in-Some.ensures c.numbered.ensures

pub returns-in-None : goal.returns-in-None
returns-in-None c = without_number c.args.self.now.vars.now _ c.in-None.ensures
