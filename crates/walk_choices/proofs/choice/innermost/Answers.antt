use Rattle.walk_choices.proofs.Arms.{innermost_is}
use Rattle.walk_choices.proofs.choice.innermost.Goals as goal

pub returns : goal.returns
returns c = innermost_is c.last.result c.args.names.now c.last.ensures.value
