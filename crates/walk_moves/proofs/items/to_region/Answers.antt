use Rattle.walk_moves.proofs.Moving.{begun_region}
use Rattle.walk_moves.proofs.items.to_region.Goals as goal

pub returns : goal.returns
returns c = λ design top done here place a rest under m l.
    begun_region c.args.items c.in_ok-item.item c.push.new.self m l c.in_ok-item.ensures c.in_ok-push.ensures
