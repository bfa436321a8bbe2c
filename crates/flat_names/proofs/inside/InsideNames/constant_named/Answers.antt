use Rattle.flat_names.proofs.Names.{constant_of_loop, constant_of_none}
use Rattle.flat_names.proofs.inside.InsideNames.constant_named.Goals as goal

pub returns-in-Some : goal.returns-in-Some
returns-in-Some c = constant_of_loop _ _ _ c.loop_constant.result c.in-Some.ensures c.loop_constant.ensures

pub returns-in-None : goal.returns-in-None
returns-in-None c =
    constant_of_none c.args.self.now.vars.now c.args.self.now.numbers.now c.args.name.now _ c.meaning.result _ c.constant_for.result c.in-None.ensures
    c.meaning.ensures.value c.constant_for.ensures
