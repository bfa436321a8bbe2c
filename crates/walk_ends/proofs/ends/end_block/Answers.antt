use Rattle.walk_ends.proofs.Ending.{ended_block}
use Rattle.walk_ends.proofs.ends.end_block.Goals as goal

pub returns : goal.returns
returns c = λ design top done here at tasks s. ended_block c.args.walk.now c.args.around c.close_names.new.names s c.close_names.ensures
