use Rattle.std.proofs.Common.{◌≡◌, ◌+◌, ◌-◌, ◌*◌}
use Rattle.vlog_reading.specs.ReadStatements.{statement, body, body_from, arms, arms_from}
use Rattle.vlog_statements.proofs.statement.+statement.Given as goal

abbrev pub decreases-statement : goal.decreases-statement
decreases-statement l = 7 * l.depth

abbrev pub decreases-kind : goal.decreases-kind
decreases-kind l = 7 * l.depth + 5

abbrev pub decreases-block : goal.decreases-block
decreases-block l = 7 * l.depth + 2

abbrev pub decreases-if_statement : goal.decreases-if_statement
decreases-if_statement l = 7 * l.depth + 2

abbrev pub decreases-for_statement : goal.decreases-for_statement
decreases-for_statement l = 7 * l.depth + 1

abbrev pub decreases-case_statement : goal.decreases-case_statement
decreases-case_statement l = 7 * l.depth + 4

abbrev pub decreases-arms : goal.decreases-arms
decreases-arms l = 7 * l.depth + 3

abbrev pub decreases-arm_or_default : goal.decreases-arm_or_default
decreases-arm_or_default l = 7 * l.depth + 2

abbrev pub decreases-listed_arm : goal.decreases-listed_arm
decreases-listed_arm l = 7 * l.depth + 1

abbrev pub decreases-default_arm : goal.decreases-default_arm
decreases-default_arm l = 7 * l.depth + 1

abbrev pub decreases-body : goal.decreases-body
decreases-body l = 7 * l.depth + 1

abbrev pub decreases-else_part : goal.decreases-else_part
decreases-else_part l = 7 * l.depth + 1

abbrev pub invariant-body-loop-turn : goal.invariant-body-loop-turn
invariant-body-loop-turn l = body (statement l.depth) l.fn.tokens ≡ body_from (statement l.depth) (l._turn-end - l._turn) l.found l.tokens

abbrev pub invariant-arms-loop-turn : goal.invariant-arms-loop-turn
invariant-arms-loop-turn l = arms (statement l.depth) l.wild l.fn.tokens ≡ arms_from (statement l.depth) l.wild (l._turn-end - l._turn) l.seen l.found l.tokens
