use Rattle.flat_names.proofs.Names.{variable_constant}
use Rattle.flat_names.proofs.inside.InsideNames.constant_meant.Goals as goal

pub returns-in-Variable : goal.returns-in-Variable
returns-in-Variable c = variable_constant c.args.self.now.vars.now c.args.self.now.numbers.now c.args.name.now c.args.meant _ _ c.in-Variable.is
