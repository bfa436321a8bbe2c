use Rattle.std.proofs.Common.{arith, rules}
use Rattle.std.proofs.lemmas.Grind.{common_steps}
use Rattle.vlog_reading.specs.ReadParts.{separated_from}
use Rattle.vlog_cursor.proofs.Turns.{one_more}
use Rattle.vlog_cursor.proofs.list.separated.Goals as goal

pub loop-turn-preserved : goal.loop-turn-preserved
unfolding separated_from
loop-turn-preserved g c =
    let e =
    one_more (λ n. separated_from (g.R.Rule.reads c.args.rule.now) n c.loop-turn.found c.loop-turn.tokens) _ c.loop-turn._turn c.loop-turn-test.true
    c.loop-turn.invariant in
    first_of (search rules, grind (arith, common_steps))
