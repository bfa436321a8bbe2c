use Rattle.std.proofs.Common.{◌≡◌, refl, rules}
use Rattle.cycle_run.specs.Ends.{end_seen}
use Rattle.cycle_run.specs.declared.end.CycleEnd.TheVariants as cycle_end
use Rattle.stim_lines.specs.Layouts.{input_widths}
use Rattle.stim_lines.specs.declared.fault.StimFault.TheVariants as fault
use Rattle.stimulus.specs.Streaming.{rows_left}
use Rattle.simulator.specs.Machines.{Machine, SameRun, between}
use Rattle.sim_answer.proofs.RowLemmas.{fits_design}
use Rattle.sim_run.proofs.RowLemmas.{end_ends, fault_ends, read_ends, row_breaks, row_ends}
use Rattle.sim_run.proofs.rows.run_next.Goals as goal

-- a machine that wasn't run stays
stays : (m : Machine) → SameRun m m
stays m = record { design = refl; order = refl }

pub run_row-requires-clause-row : goal.run_row-requires-clause-row
run_row-requires-clause-row g c =
    let fits = rw (c.in-Ok-Row.field-0-is, c.in-Ok-Row.ensures.layout) at c.in-Ok-Row.ensures.row in
    fits_design c.args.machine.now.design.design (input_widths c.args.reader.now.layout) c.next_row.new.row.values c.requires.widths fits.as_many fits.fit

pub returns-in-Ok : goal.returns-in-Ok
returns-in-Ok g c =
    let m = c.args.machine.now in
    let other : c.in-Ok.end ≡ cycle_end.Goes → ⊥ = search rules in
    record {
      ran = tt;
      told = tt;
      moved = tt;
      few = c.in-Ok-Row.ensures.few;
      going = tt;
      going_on = tt;
      counted = tt;
      room = c.in-Ok-Row.ensures.room;
      layout = c.in-Ok-Row.ensures.layout;
      sound = c.in-Ok.ensures.sound;
      same = c.in-Ok.ensures.same;
      started = c.in-Ok.ensures.started;
      stands = tt;
      quiet = tt;
      calm = tt;
      end = row_ends m.design (between m) (between c.run_row.new.machine) c.next_row.new.row
          (rows_left c.args.reader.now (g.F.Files.rest c.args.files.now)) (rows_left c.next_row.new.self (g.F.Files.rest c.next_row.new.files))
          c.args.output.now c.run_row.new.output (g.S.Sink.written c.args.out.now) (g.S.Sink.written c.run_row.new.out)
          (rw c.in-Ok-Row.field-0-is at c.in-Ok-Row.ensures.step) c.in-Ok.end (end_seen c.run_row.new.machine.end) other c.in-Ok.ensures.ran;
      of_text = tt;
      frugal = tt;
      causes = (c.in-Ok-Row.ensures.ok_quiet, c.in-Ok.ensures.cause.kept);
      held = c.in-Ok-Row.ensures.held;
    }

pub returns-in-Err-run_row-clause-end : goal.returns-in-Err-run_row-clause-end
returns-in-Err-run_row-clause-end g c =
    let m = c.args.machine.now in
    row_breaks m.design (between m) (between c.run_row.new.machine) c.next_row.new.row
    (rows_left c.args.reader.now (g.F.Files.rest c.args.files.now)) (rows_left c.next_row.new.self (g.F.Files.rest c.next_row.new.files))
    c.args.output.now c.run_row.new.output (g.S.Sink.written c.args.out.now) (g.S.Sink.written c.run_row.new.out)
    (rw c.in-Ok-Row.field-0-is at c.in-Ok-Row.ensures.step) (end_seen c.run_row.new.machine.end) c.in-Err-run_row.ensures.part

pub returns-in-Ok-End-clause-end : goal.returns-in-Ok-End-clause-end
returns-in-Ok-End-clause-end g c =
    let m = c.args.machine.now in
    end_ends m.design (between m) (end_seen m.end) (rows_left c.args.reader.now (g.F.Files.rest c.args.files.now)) c.args.output.now
    (g.S.Sink.written c.args.out.now) c.next_row.new.row (rows_left c.next_row.new.self (g.F.Files.rest c.next_row.new.files))
    (rw c.in-Ok-End.field-0-is at c.in-Ok-End.ensures.step)

pub returns-in-Err-Failed-clause-end : goal.returns-in-Err-Failed-clause-end
returns-in-Err-Failed-clause-end g c =
    let m = c.args.machine.now in
    read_ends m.design (between m) (end_seen m.end) (rows_left c.args.reader.now (g.F.Files.rest c.args.files.now)) c.args.output.now
    (g.S.Sink.written c.args.out.now)

pub returns-in-Err : goal.returns-in-Err
returns-in-Err g c =
    let m = c.args.machine.now in
    let other : c.in-Err.fault ≡ fault.Failed → ⊥ = search rules in
    let of_text = c.in-Err.ensures.of_text c.requires.goes_on other in
    record {
      ran = tt;
      told = tt;
      moved = tt;
      few = c.in-Err.ensures.few;
      going = tt;
      going_on = tt;
      counted = tt;
      room = c.in-Err.ensures.room;
      layout = c.in-Err.ensures.layout;
      sound = c.requires.sound;
      same = stays c.args.machine.now;
      started = c.requires.started;
      stands = tt;
      quiet = tt;
      calm = tt;
      end = fault_ends m.design (between m) (end_seen m.end) (rows_left c.args.reader.now (g.F.Files.rest c.args.files.now)) c.args.output.now
          (g.S.Sink.written c.args.out.now) c.in-Err.fault of_text c.in-Err.ensures.fault;
      of_text = of_text;
      frugal = c.in-Err.ensures.frugal c.requires.goes_on;
      causes = (c.in-Err.ensures.fault_quiet other, refl {a = g.S.Sink.faults c.args.out.now});
      held = c.in-Err.ensures.held;
    }
