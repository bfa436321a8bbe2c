use Rattle.std.proofs.Common.{arith, rules, false}
use Rattle.std.proofs.lemmas.Grind.{common_steps}
use Rattle.vlog_cursor.specs.Words.{kind_of}
use Rattle.vlog_reading.specs.ReadItems.{item_within, items_from}
use Rattle.vlog_cursor.proofs.Turns.{one_more}
use Rattle.vlog_items.proofs.item.whole_items.Goals as goal

pub loop-turn-preserved : goal.loop-turn-preserved
unfolding items_from
loop-turn-preserved c =
    let e = one_more (λ n. items_from (item_within c.left-depth.result) false (kind_of c.args.close) n c.loop-turn.found c.loop-turn.tokens)
    _ c.loop-turn._turn c.loop-turn-test.true c.loop-turn.invariant in
    first_of (search rules, grind (arith, common_steps))
