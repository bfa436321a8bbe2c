use Rattle.std.proofs.Common.{arith, rules}
use Rattle.std.proofs.lemmas.Grind.{common_steps}
use Rattle.vlog_reading.specs.ReadStatements.{target, targets_from}
use Rattle.vlog_cursor.proofs.Turns.{one_more, deeper}
use Rattle.vlog_expressions.proofs.target.+target.Goals as goal

pub targets-loop-turn-preserved : goal.targets-loop-turn-preserved
unfolding targets_from
targets-loop-turn-preserved t c =
    let e =
    one_more (λ n. targets_from (target c.args.depth) n c.loop-turn.found c.loop-turn.tokens) _ c.loop-turn._turn c.loop-turn-test.true
    c.loop-turn.invariant in
    first_of (search rules, grind (arith, common_steps))

pub target-returns : goal.target-returns
unfolding target
target-returns t c = rw (deeper (λ n. target n c.args.tokens.now) c.args.depth (omega arith)) c.target_layer.ensures
