use Rattle.walk_moves.proofs.Moving.{begun_instances}
use Rattle.walk_moves.proofs.items.to_instances.Goals as goal

pub returns : goal.returns
returns c = λ design top done here place a rest under of m taken l found same fresh item.
    begun_instances c.args.by c.args.made c.push.new.self of m taken l found same fresh item c.in_ok-push.ensures
