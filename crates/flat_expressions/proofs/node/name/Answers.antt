use Rattle.flat_expressions.proofs.Copying.{as_variable, as_constant, as_nothing}
use Rattle.flat_expressions.proofs.node.name.Goals as goal

pub returns-in-Variable : goal.returns-in-Variable
returns-in-Variable g c =
    as_variable (g.N.Resolves.vars c.args.names.now) (g.N.Resolves.environment c.args.names.now) c.args.name.now _ c.in-Variable.ensures

pub returns-in-Constant : goal.returns-in-Constant
returns-in-Constant g c =
    as_constant (g.N.Resolves.vars c.args.names.now) (g.N.Resolves.environment c.args.names.now) c.args.name.now _ _ _ c.in-Constant.ensures

pub returns-in-Nothing : goal.returns-in-Nothing
returns-in-Nothing g c =
    as_nothing (g.N.Resolves.vars c.args.names.now) (g.N.Resolves.environment c.args.names.now) c.args.name.now c.in-Nothing.ensures
