use Rattle.std.proofs.Common.{◌≡◌, true}
use Rattle.cycle_run.specs.declared.end.CycleEnd.TheVariants as cycle_end
use Rattle.simulator.specs.Machines.{IsSound, SameRun}
use Rattle.machine_tests.proofs.run.run_cycles.Given as goal

abbrev pub invariant-loop-turn : goal.invariant-loop-turn
invariant-loop-turn g l = record {
  sound : IsSound l.machine;
  same : SameRun l.initial.machine l.machine;
  started : l.machine.started ≡ true;
  going : l.machine.end ≡ cycle_end.Goes;
  cycles : l.machine.cycles ≡ l._turn;
}
