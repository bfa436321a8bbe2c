use Rattle.flat_names.proofs.Names.{is_there, is_past}
use Rattle.flat_names.proofs.inside.numbered.Goals as goal

pub returns-then-at-count : goal.returns-then-at-count
returns-then-at-count c = is_there c.args.vars.now c.args.number c.if-at-count.true

pub returns : goal.returns
returns c = is_past c.args.vars.now c.args.number c.if-at-count.false
