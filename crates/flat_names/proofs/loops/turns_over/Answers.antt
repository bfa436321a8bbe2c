use Rattle.std.proofs.Common.{◌∙◌, ap, is_some, None}
use Rattle.flat_names.proofs.Passes.{some_is}
use Rattle.flat_names.proofs.loops.turns_over.Goals as goal

pub returns-in-Some : goal.returns-in-Some
returns-in-Some c = ap is_some c.in-Some.ensures ∙ some_is c.args.name.now c.args.loops.now None

pub returns-in-None : goal.returns-in-None
returns-in-None c = ap is_some c.in-None.ensures ∙ some_is c.args.name.now c.args.loops.now None
