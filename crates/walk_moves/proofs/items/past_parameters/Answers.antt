use Rattle.walk_moves.proofs.Moving.{past_constants}
use Rattle.walk_moves.proofs.items.past_parameters.Goals as goal

pub returns : goal.returns
returns c = λ design top done here place a rest under local form names m e taken l values.
    past_constants c.args.constants c.args.item c.push.new.self c.push-2.new.self m e taken l values c.in_ok-push.ensures.ok c.in_ok-push-2.ensures.ok
