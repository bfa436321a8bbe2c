use Rattle.std.proofs.Common.{◌≡◌, ◌-◌, true, ℕ, List, None, length}
use Rattle.cycle_run.specs.declared.end.CycleEnd.TheVariants as cycle_end
use Rattle.stimulus.specs.Lines.{StandsIn}
use Rattle.stimulus.specs.Streaming.{rows_left}
use Rattle.simulator.specs.Machines.{IsSound, SameRun, between}
use Rattle.sim_run.proofs.RowLemmas.{HasCome}
use Rattle.sim_run.proofs.rows.run_rows.Given as goal

abbrev pub invariant-rows : goal.invariant-rows
invariant-rows g l = record {
  come : HasCome l.initial.machine.design (between l.initial.machine) (between l.machine) (rows_left l.initial.reader (g.F.Files.rest l.initial.files))
      (rows_left l.reader (g.F.Files.rest l.files)) l.initial.output l.output (g.S.Sink.written l.initial.out) (g.S.Sink.written l.out);
  stands : (text : List ℕ) → StandsIn text l.initial.reader.lines (g.F.Files.rest l.initial.files) → StandsIn text l.reader.lines (g.F.Files.rest l.files);
  sound : IsSound l.machine;
  same : SameRun l.initial.machine l.machine;
  started : l.machine.started ≡ true;
  going : l.machine.end ≡ cycle_end.Goes;
  going_on : l.reader.fault ≡ None;
  cycles : l.reader.cycles ≡ l.machine.cycles;
  room : length l.row.values ≡ length l.reader.layout.columns;
  layout : l.reader.layout ≡ l.initial.reader.layout;
  held : g.F.Files.held l.files ≡ g.F.Files.held l.initial.files;
  quiet : g.F.Files.faults l.files ≡ g.F.Files.faults l.initial.files;
  calm : g.S.Sink.faults l.out ≡ g.S.Sink.faults l.initial.out;
}

abbrev pub decreases-rows : goal.decreases-rows
decreases-rows g l = 4294967296 - l.reader.cycles
