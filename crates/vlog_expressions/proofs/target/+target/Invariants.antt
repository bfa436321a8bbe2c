use Rattle.std.proofs.Common.{◌≡◌, ◌+◌, ◌-◌, ◌*◌}
use Rattle.vlog_reading.specs.ReadStatements.{target, targets, targets_from}
use Rattle.vlog_expressions.proofs.target.+target.Given as goal

abbrev pub decreases-target : goal.decreases-target
decreases-target l = 3 * l.depth

abbrev pub decreases-targets : goal.decreases-targets
decreases-targets l = 3 * l.depth + 1

abbrev pub decreases-target_layer : goal.decreases-target_layer
decreases-target_layer l = 3 * l.depth + 2

abbrev pub invariant-targets-loop-turn : goal.invariant-targets-loop-turn
invariant-targets-loop-turn l = targets (target l.depth) l.fn.tokens ≡ targets_from (target l.depth) (l._turn-end - l._turn) l.found l.tokens
