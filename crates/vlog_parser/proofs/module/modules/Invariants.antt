use Rattle.std.proofs.Common.{◌≡◌, ◌-◌}
use Rattle.vlog_reading.specs.ReadModules.{modules, modules_from}
use Rattle.vlog_parser.proofs.module.modules.Given as goal

abbrev pub invariant-loop-turn : goal.invariant-loop-turn
invariant-loop-turn l = modules l.fn.tokens ≡ modules_from (l._turn-end - l._turn) l.found l.tokens
