use Rattle.std.proofs.Common.{◌≡◌, refl, subst, rules}
use Rattle.cycle_run.specs.Ends.{end_seen}
use Rattle.cycle_run.specs.declared.end.CycleEnd.TheVariants as cycle_end
use Rattle.design_meaning.specs.MachineLaws.{CyclesAreRuns, StartsAreRuns}
use Rattle.design_meaning.specs.States.{IsStateOf}
use Rattle.design_tree.specs.declared.instrumented.Instrumented.{Instrumented}
use Rattle.stimulus.specs.Streaming.{rows_left}
use Rattle.sim_answer.specs.Underway.{RunsGoOn}
use Rattle.simulator.specs.Machines.{IsSound, Machine, SameRun, between}
use Rattle.sim_run.proofs.WholeLemmas.{GoesOn, flag_whole, rows_begun, rows_ended, rows_fault, rows_refused, rows_whole, start_ends, start_fails, told_fit}
use Rattle.sim_run.proofs.whole.run_stimulus.Goals as goal

goes_on : (m : Machine) → IsSound m → StartsAreRuns → CyclesAreRuns → RunsGoOn → GoesOn m.design m.order.processes
goes_on m sound starts cycles go = record {
  starts = starts;
  cycles = cycles;
  go = go;
  valid = (m.design, sound.can_run.valid, refl);
  flows = sound.can_run.flows;
  is_order = sound.can_run.is_order;
}

state_stays : (old new : Machine) → SameRun old new → IsSound new → IsStateOf old.design.design new.state
state_stays old new same sound = subst (λ (x : Instrumented). IsStateOf x.design new.state) same.design sound.state

pub returns-in-Ok-Goes-clause-ended : goal.returns-in-Ok-Goes-clause-ended
returns-in-Ok-Goes-clause-ended g c =
    let m = c.args.machine.now in
    let n = c.run_rows.new.machine in
    rows_ended m.design m.order.processes (goes_on m c.requires.sound c.runs_once.ensures.starts c.runs_once.ensures.cycles c.runs_are_cut.ensures.go)
    (between c.run_start.new.machine) (rows_left c.args.reader.now (g.F.Files.rest c.args.files.now)) c.args.output.now c.run_start.new.output
    (g.S.Sink.written c.args.out.now) (g.S.Sink.written c.run_start.new.out) (rw c.in-Ok-Goes.field-0-is at c.in-Ok-Goes.ensures.ran) (between n)
    c.run_rows.new.output (g.S.Sink.written c.run_rows.new.out) c.run_rows.result (end_seen n.end)
    (rw c.in-Ok-Goes.ensures.same.design at c.run_rows.ensures.end)

pub returns-in-Ok-Goes-clause-whole : goal.returns-in-Ok-Goes-clause-whole
returns-in-Ok-Goes-clause-whole g c =
    let n = c.run_rows.new.machine in
    rows_whole c.run_start.new.machine.design (between c.run_start.new.machine) (between n)
    (rows_left c.args.reader.now (g.F.Files.rest c.args.files.now)) c.run_start.new.output c.run_rows.new.output
    (g.S.Sink.written c.run_start.new.out) (g.S.Sink.written c.run_rows.new.out) c.run_rows.result (end_seen n.end) c.run_rows.ensures.end

pub returns-in-Ok-Goes-clause-refused : goal.returns-in-Ok-Goes-clause-refused
returns-in-Ok-Goes-clause-refused g c =
    let m = c.args.machine.now in
    let n = c.run_rows.new.machine in
    rows_refused m.design m.order.processes (goes_on m c.requires.sound c.runs_once.ensures.starts c.runs_once.ensures.cycles c.runs_are_cut.ensures.go)
    (between c.run_start.new.machine) (rows_left c.args.reader.now (g.F.Files.rest c.args.files.now)) c.args.output.now c.run_start.new.output
    (g.S.Sink.written c.args.out.now) (g.S.Sink.written c.run_start.new.out) (rw c.in-Ok-Goes.field-0-is at c.in-Ok-Goes.ensures.ran) (between n)
    c.run_rows.new.output (g.S.Sink.written c.run_rows.new.out) c.run_rows.result (end_seen n.end)
    (rw c.in-Ok-Goes.ensures.same.design at c.run_rows.ensures.end)

pub returns-in-Ok-Goes-clause-fault : goal.returns-in-Ok-Goes-clause-fault
returns-in-Ok-Goes-clause-fault g c =
    let n = c.run_rows.new.machine in
    rows_fault c.run_start.new.machine.design (between c.run_start.new.machine) (between n)
    (rows_left c.args.reader.now (g.F.Files.rest c.args.files.now)) c.run_start.new.output c.run_rows.new.output
    (g.S.Sink.written c.run_start.new.out) (g.S.Sink.written c.run_rows.new.out) c.run_rows.result (end_seen n.end) c.run_rows.ensures.end

pub returns-in-Ok-Goes-clause-begun : goal.returns-in-Ok-Goes-clause-begun
returns-in-Ok-Goes-clause-begun g c =
    let m = c.args.machine.now in
    let n = c.run_rows.new.machine in
    let same = rw c.in-Ok-Goes.ensures.same.design at c.run_rows.ensures.same.design in
    rows_begun m.design m.order.processes (goes_on m c.requires.sound c.runs_once.ensures.starts c.runs_once.ensures.cycles c.runs_are_cut.ensures.go)
    (between c.run_start.new.machine) (rows_left c.args.reader.now (g.F.Files.rest c.args.files.now)) c.args.output.now c.run_start.new.output
    (g.S.Sink.written c.args.out.now) (g.S.Sink.written c.run_start.new.out) (rw c.in-Ok-Goes.field-0-is at c.in-Ok-Goes.ensures.ran) (between n)
    c.run_rows.new.output (g.S.Sink.written c.run_rows.new.out) c.run_rows.result (end_seen n.end) (rw same at c.run_rows.ensures.sound.state)
    (told_fit m.design.design c.args.reader.now (g.F.Files.rest c.args.files.now) c.requires.goes_on
    (c.requires.widths c.requires.sound.can_run.valid.inputs.differ))
    (rw c.in-Ok-Goes.ensures.same.design at c.run_rows.ensures.end)

pub returns-in-Ok : goal.returns-in-Ok
returns-in-Ok g c =
    let m = c.args.machine.now in
    let n = c.run_start.new.machine in
    let told = rows_left c.args.reader.now (g.F.Files.rest c.args.files.now) in
    let other : c.in-Ok.end ≡ cycle_end.Goes → ⊥ = search rules in
    record {
      ended = start_ends m.design m.order.processes
          (goes_on m c.requires.sound c.runs_once.ensures.starts c.runs_once.ensures.cycles c.runs_are_cut.ensures.go) (between n) told
          c.args.output.now c.run_start.new.output (g.S.Sink.written c.args.out.now) (g.S.Sink.written c.run_start.new.out) c.in-Ok.end other
          c.in-Ok.ensures.ran;
      whole = flag_whole c.in-Ok.end told other;
      refused = tt;
      fault = tt;
      of_text = tt;
      frugal = tt;
      begun = tt;
      causes = (refl, c.in-Ok.ensures.cause.kept);
      held = refl;
      sound = c.in-Ok.ensures.sound;
      same = c.in-Ok.ensures.same;
    }

pub returns-in-Err-clause-begun : goal.returns-in-Err-clause-begun
returns-in-Err-clause-begun g c =
    let m = c.args.machine.now in
    let n = c.run_start.new.machine in
    start_fails m.design m.order.processes (goes_on m c.requires.sound c.runs_once.ensures.starts c.runs_once.ensures.cycles c.runs_are_cut.ensures.go)
    (between n) (rows_left c.args.reader.now (g.F.Files.rest c.args.files.now)) c.args.output.now c.run_start.new.output (g.S.Sink.written c.args.out.now)
    (g.S.Sink.written c.run_start.new.out) (end_seen n.end) (state_stays m n c.in-Err.ensures.same c.in-Err.ensures.sound)
    (told_fit m.design.design c.args.reader.now (g.F.Files.rest c.args.files.now) c.requires.goes_on
    (c.requires.widths c.requires.sound.can_run.valid.inputs.differ))
    c.in-Err.ensures.part
