use Rattle.std.proofs.Common.{◌≡◌, ◌-◌, length}
use Rattle.std.specs.List.{slice_get}
use Rattle.vlog_reading.specs.ReadModules.{ports, ports_from}
use Rattle.vlog_headers.proofs.port.ports.Given as goal

abbrev pub invariant-loop-turn : goal.invariant-loop-turn
invariant-loop-turn l = ports l.fn.tokens ≡ ports_from (l._turn-end - l._turn) (slice_get l.found (length l.found - 1)) l.found l.tokens
