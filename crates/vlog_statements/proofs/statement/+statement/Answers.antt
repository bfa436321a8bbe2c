use Rattle.std.proofs.Common.{arith, rules}
use Rattle.std.proofs.lemmas.Grind.{common_steps}
use Rattle.vlog_reading.specs.ReadStatements.{statement, body_from, arms_from}
use Rattle.vlog_cursor.proofs.Turns.{one_more}
use Rattle.vlog_statements.proofs.statement.+statement.Goals as goal

pub body-loop-turn-preserved : goal.body-loop-turn-preserved
unfolding body_from
body-loop-turn-preserved t c =
    let e = one_more (λ n. body_from (statement c.args.depth) n c.loop-turn.found c.loop-turn.tokens)
    _ c.loop-turn._turn c.loop-turn-test.true c.loop-turn.invariant in
    first_of (search rules, grind (arith, common_steps))

pub arms-loop-turn-preserved : goal.arms-loop-turn-preserved
unfolding arms_from
arms-loop-turn-preserved t c =
    let e = one_more (λ n. arms_from (statement c.args.depth) c.args.wild n c.loop-turn.seen c.loop-turn.found c.loop-turn.tokens)
    _ c.loop-turn._turn c.loop-turn-test.true c.loop-turn.invariant in
    first_of (search rules, grind (arith, common_steps))
