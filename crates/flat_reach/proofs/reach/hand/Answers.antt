use Rattle.std.proofs.Common.{◌∙◌, ap}
use Rattle.flat_reach.specs.Reach.{has}
use Rattle.flat_reach.proofs.Rounds.{by_slices, by_none}
use Rattle.flat_reach.proofs.reach.hand.Goals as goal

pub returns-then-contains : goal.returns-then-contains
returns-then-contains c =
    by_slices c.args.one.now c.args.table.now c.put.new.self c.put.result c.contains.result c.as_slice.result.now c.as_slice-then-contains.result.now c.as_slice.ensures
    c.as_slice-then-contains.ensures c.contains.ensures c.if-contains.true c.put.ensures.ok c.put.ensures.was_new

pub returns : goal.returns
returns c =
    by_none c.args.one.now c.args.table.now c.contains.result
    (c.contains.ensures ∙ ap (has c.args.table.now c.args.one.now.from) c.as_slice.ensures) c.if-contains.false
