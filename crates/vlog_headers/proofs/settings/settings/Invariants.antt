use Rattle.std.proofs.Common.{◌≡◌, ◌-◌}
use Rattle.vlog_reading.specs.ReadModules.{settings, settings_from}
use Rattle.vlog_headers.proofs.settings.settings.Given as goal

abbrev pub invariant-loop-turn : goal.invariant-loop-turn
invariant-loop-turn l = settings l.fn.tokens ≡ settings_from (l._turn-end - l._turn) l.before l.found l.tokens
