-- How a run stands, and the settled state before a cycle.
use Rattle.std.specs.Prelude.{Bool, true, false, Option, Some, None}
use Rattle.circuit_run.specs.States.{State}
use Rattle.circuit_run.specs.Ends.{End, goes, finished, stopped}
use Rattle.cycle_run.specs.declared.end.CycleEnd.{CycleEnd}
use Rattle.cycle_run.specs.declared.end.CycleEnd.TheVariants as cycle_end

abbrev pub end_seen : CycleEnd → End
end_seen cycle_end.Goes = goes
end_seen cycle_end.Finished = finished
end_seen cycle_end.Stopped = stopped

-- the settled state before, which the first cycle hasn't
abbrev pub settled_before : Bool → State → Option State
settled_before true s = None
settled_before false s = Some s
