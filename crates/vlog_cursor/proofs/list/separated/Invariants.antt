use Rattle.std.proofs.Common.{◌≡◌, ◌-◌}
use Rattle.vlog_reading.specs.ReadParts.{separated, separated_from}
use Rattle.vlog_cursor.proofs.list.separated.Given as goal

abbrev pub invariant-loop-turn : goal.invariant-loop-turn
invariant-loop-turn g l = separated (g.R.Rule.reads l.rule) l.fn.tokens ≡ separated_from (g.R.Rule.reads l.rule) (l._turn-end - l._turn) l.found l.tokens
