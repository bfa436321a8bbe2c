use Rattle.std.proofs.Common.{◌≡◌, ◌+◌, true, replicate}
use Rattle.circuit_run.specs.Ends.{goes}
use Rattle.cycle_run.specs.declared.end.CycleEnd.TheVariants as cycle_end
use Rattle.simulator.specs.Machines.{IsSound, SameRun, between}
use Rattle.sim_run.specs.Running.{HasRun}
use Rattle.sim_run.proofs.row.run_row.Given as goal

abbrev pub invariant-loop-turn : goal.invariant-loop-turn
invariant-loop-turn g l = record {
  ran : HasRun l.initial.machine.design (between l.initial.machine) (between l.machine) (replicate l._turn l.row.values) goes l.initial.output l.output
      (g.S.Sink.written l.initial.out) (g.S.Sink.written l.out);
  sound : IsSound l.machine;
  same : SameRun l.initial.machine l.machine;
  started : l.machine.started ≡ true;
  going : l.machine.end ≡ cycle_end.Goes;
  cycles : l.machine.cycles ≡ l.initial.machine.cycles + l._turn;
  faults : g.S.Sink.faults l.out ≡ g.S.Sink.faults l.initial.out;
}
