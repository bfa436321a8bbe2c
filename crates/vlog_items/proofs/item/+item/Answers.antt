use Rattle.std.proofs.Common.{arith, rules}
use Rattle.std.proofs.lemmas.Grind.{common_steps}
use Rattle.vlog_cursor.specs.Words.{kind_of}
use Rattle.vlog_reading.specs.ReadItems.{item_within, items_from, if_arms_from, branch, layer}
use Rattle.vlog_cursor.proofs.Turns.{one_more, deeper}
use Rattle.vlog_items.proofs.item.+item.Goals as goal

pub items-loop-turn-preserved : goal.items-loop-turn-preserved
unfolding items_from
items-loop-turn-preserved t c =
    let e = one_more (λ n. items_from (item_within c.args.depth) c.args.inside (kind_of c.args.close) n c.loop-turn.found c.loop-turn.tokens)
    _ c.loop-turn._turn c.loop-turn-test.true c.loop-turn.invariant in
    first_of (search rules, grind (arith, common_steps))

pub if_arms-loop-turn-preserved : goal.if_arms-loop-turn-preserved
unfolding if_arms_from
if_arms-loop-turn-preserved t c =
    let e = one_more (λ n. if_arms_from (item_within c.args.depth) n c.loop-turn.found c.loop-turn.tokens)
    _ c.loop-turn._turn c.loop-turn-test.true c.loop-turn.invariant in
    first_of (search rules, grind (arith, common_steps))

pub branch-returns-then-sees : goal.branch-returns-then-sees
unfolding branch
branch-returns-then-sees t c = first_of (search rules, grind (arith, common_steps))

pub branch-returns-then-sees-2 : goal.branch-returns-then-sees-2
unfolding branch
branch-returns-then-sees-2 t c = first_of (search rules, grind (arith, common_steps))

pub branch-returns : goal.branch-returns
unfolding branch
branch-returns t c = first_of (search rules, grind (arith, common_steps))

pub item-returns-in_err-what : goal.item-returns-in_err-what
unfolding item_within layer
item-returns-in_err-what t c =
    let e = deeper (λ n. item_within n c.args.inside c.args.tokens.now) c.args.depth (omega arith) in
    first_of (search rules, grind (arith, common_steps))
