use Rattle.walk_moves.proofs.Moving.{past_row}
use Rattle.walk_moves.proofs.items.past_plain.Goals as goal

pub returns : goal.returns
returns c = λ design top done here place a rest under m e taken plain.
    past_row c.args.item c.push.new.self m e taken plain c.in_ok-push.ensures.ok
