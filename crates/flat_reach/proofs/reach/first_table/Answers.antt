use Rattle.flat_reach.proofs.Rounds.{first_put, first_none}
use Rattle.flat_reach.proofs.reach.first_table.Goals as goal

pub returns-in_ok-put-in-Some : goal.returns-in_ok-put-in-Some
returns-in_ok-put-in-Some c =
    first_put c.args.first.now c.in-Some.name c.as_slice.result.now c.new-table.result c.put.new.self c.in-Some.is c.as_slice.ensures c.new-table.ensures
    c.in_ok-put-in-Some.ensures.ok

pub returns-in-None : goal.returns-in-None
returns-in-None c = first_none c.args.first.now c.new-table.result c.in-None.is c.new-table.ensures
