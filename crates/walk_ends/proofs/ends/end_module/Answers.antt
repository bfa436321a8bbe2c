use Rattle.walk_ends.proofs.Ending.{ended_module}
use Rattle.walk_ends.proofs.ends.end_module.Goals as goal

pub returns : goal.returns
returns c = λ design top done here at tasks s.
    ended_module c.args.walk.now c.args.around c.args.names c.args.number c.leave.new.self s (c.leave.ensures design)
