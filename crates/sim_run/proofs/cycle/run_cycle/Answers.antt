use Rattle.cycle_run.specs.Ends.{end_seen}
use Rattle.simulator.specs.Machines.{between, text_of}
use Rattle.sim_run.proofs.CycleLemmas.{cycle_fails, cycle_runs}
use Rattle.sim_run.proofs.cycle.run_cycle.Goals as goal

pub returns-in-Ok-clause-ran : goal.returns-in-Ok-clause-ran
returns-in-Ok-clause-ran g c =
    let m = c.args.machine.now in
    let n = c.cycle-end.new.self in
    cycle_runs m.design (between m) (between n) c.args.output.now (g.S.Sink.written c.args.out.now) (g.S.Sink.written c.add.new.sink)
    c.args.row.now.values (text_of n) (end_seen c.cycle-end.result) c.add.new.self c.cycle-end.ensures.run
    (rw c.line.ensures at c.in-Ok.ensures.keeps)

pub returns-in-Err-clause-part : goal.returns-in-Err-clause-part
returns-in-Err-clause-part g c =
    let m = c.args.machine.now in
    let n = c.cycle-end.new.self in
    cycle_fails m.design (between m) (between n) c.args.output.now (g.S.Sink.written c.args.out.now) (g.S.Sink.written c.add.new.sink)
    c.args.row.now.values (text_of n) (end_seen n.end) (rw (← c.cycle-end.ensures.end) at c.cycle-end.ensures.run)
    (rw c.line.ensures at c.in-Err.ensures.part)
