use Rattle.std.proofs.Common.{arith, rules}
use Rattle.std.proofs.lemmas.Grind.{common_steps}
use Rattle.vlog_reading.specs.ReadExpressions.{expr, list_from, climb}
use Rattle.vlog_cursor.proofs.Turns.{one_more, deeper}
use Rattle.vlog_expressions.proofs.expressions.+expression.Goals as goal

pub list-loop-turn-preserved : goal.list-loop-turn-preserved
unfolding list_from
list-loop-turn-preserved t c =
    let e =
    one_more (λ n. list_from (expr c.args.depth) n c.loop-turn.found c.loop-turn.tokens) _ c.loop-turn._turn c.loop-turn-test.true
    c.loop-turn.invariant in
    first_of (search rules, grind (arith, common_steps))

pub binary_rest-loop-turn-preserved : goal.binary_rest-loop-turn-preserved
unfolding climb
binary_rest-loop-turn-preserved t c =
    let e =
    one_more (λ n. climb (expr c.args.depth) c.args.least n c.loop-turn.left c.loop-turn.tokens) _ c.loop-turn._turn c.loop-turn-test.true
    c.loop-turn.invariant in
    first_of (search rules, grind (arith, common_steps))

pub expr-returns : goal.expr-returns
unfolding expr
expr-returns t c = rw (deeper (λ n. expr n c.args.least c.args.tokens.now) c.args.depth (omega arith)) c.at_level.ensures
