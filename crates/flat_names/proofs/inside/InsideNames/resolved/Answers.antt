use Rattle.flat_names.proofs.Names.{in_some_loop, in_no_loop}
use Rattle.flat_names.proofs.inside.InsideNames.resolved.Goals as goal

pub returns-in-Some : goal.returns-in-Some
returns-in-Some c = in_some_loop c.args.self.now.vars.now _ _ _ c.from.result c.in-Some.ensures c.from.ensures

pub returns-in-None : goal.returns-in-None
returns-in-None c =
    in_no_loop c.args.self.now.vars.now c.args.self.now.numbers.now c.args.name.now _ c.meaning.result _ c.standing_for.result c.in-None.ensures
    c.meaning.ensures.value c.standing_for.ensures
