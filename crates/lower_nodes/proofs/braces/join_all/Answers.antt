use Rattle.lower_nodes.proofs.Whole.{joined_err}
use Rattle.lower_nodes.proofs.braces.join_all.Goals as goal

pub returns-in-Ok : goal.returns-in-Ok
returns-in-Ok c = (
  c.in-Ok.size,
  c.in-Ok.all,
  c.in-Ok.ensures,
  record { size = c.alone.ensures.size; signed = c.alone.ensures.signed; form = c.alone.ensures.form },
)

pub returns-in-Err : goal.returns-in-Err
returns-in-Err c = joined_err c.args.parts c.in-Err.fault c.in-Err.ensures
