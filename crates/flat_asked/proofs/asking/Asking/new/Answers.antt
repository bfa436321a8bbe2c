use Rattle.flat_names.specs.Loops.{loop_names}
use Rattle.flat_asked.proofs.Told.{told}
use Rattle.flat_asked.proofs.asking.Asking.new.Goals as goal

pub returns : goal.returns
returns c = λ vs clock fs seen are_clocks are_loops.
    told c.args.scopes.now.scopes.items c.args.at c.args.clocks.now c.args.loops.now vs clock fs seen are_clocks are_loops
    (loop_names c.args.around.loops.now) c.args.asked
