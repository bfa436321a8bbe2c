use Rattle.std.proofs.Common.{◌≡◌, ◌∙◌, refl, arith, rules}
use Rattle.circuit_run.specs.Ends.{goes}
use Rattle.cycle_run.specs.Ends.{end_seen}
use Rattle.cycle_run.specs.declared.end.CycleEnd.TheVariants as cycle_end
use Rattle.simulator.specs.Machines.{between}
use Rattle.sim_run.proofs.CycleLemmas.{end_flags, none_run, row_fails, row_flags, turn_runs}
use Rattle.sim_run.proofs.row.run_row.Goals as goal

pub loop-turn-init : goal.loop-turn-init
loop-turn-init g c = record {
  ran = none_run c.args.machine.now.design (between c.args.machine.now) c.args.output.now (g.S.Sink.written c.args.out.now);
  sound = c.requires.sound;
  same = record { design = refl; order = refl };
  started = c.requires.started;
  going = c.requires.goes;
  cycles = omega arith;
  faults = refl;
}

pub returns-in-Ok : goal.returns-in-Ok
returns-in-Ok g c =
    let m = c.args.machine.now in
    let i = c.loop-turn.invariant in
    let other : c.in-Ok.end ≡ cycle_end.Goes → ⊥ = search rules in
    record {
      ran = row_flags m.design (between m) (between c.loop-turn.machine) (between c.run_cycle.new.machine) c.args.row.now.values c.args.row.now.repeat
          c.loop-turn._turn c.args.output.now c.loop-turn.output (g.S.Sink.written c.args.out.now) (g.S.Sink.written c.loop-turn.out)
          (g.S.Sink.written c.run_cycle.new.out) c.loop-turn-test.true i.ran (end_seen c.in-Ok.end) c.run_cycle.new.output
          (end_flags c.in-Ok.end other) (rw i.same.design at c.in-Ok.ensures.ran);
      part = tt;
      cause = rw i.faults at c.in-Ok.ensures.cause;
      sound = c.in-Ok.ensures.sound;
      same = record { design = c.in-Ok.ensures.same.design ∙ i.same.design; order = c.in-Ok.ensures.same.order ∙ i.same.order };
      started = c.in-Ok.ensures.started;
      cycles = λ is. absurd (other is);
      end = c.in-Ok.ensures.end;
    }

pub returns-in-Err-clause-part : goal.returns-in-Err-clause-part
returns-in-Err-clause-part g c =
    let m = c.args.machine.now in
    row_fails m.design (between m) (between c.loop-turn.machine) (between c.run_cycle.new.machine) c.args.row.now.values c.args.row.now.repeat
    c.loop-turn._turn c.args.output.now c.loop-turn.output (g.S.Sink.written c.args.out.now) (g.S.Sink.written c.loop-turn.out)
    (g.S.Sink.written c.run_cycle.new.out) c.loop-turn-test.true c.loop-turn.invariant.ran (end_seen c.run_cycle.new.machine.end)
    (rw c.loop-turn.invariant.same.design at c.in-Err.ensures.part)

pub loop-turn-preserved : goal.loop-turn-preserved
loop-turn-preserved g c =
    let m = c.args.machine.now in
    let i = c.loop-turn.invariant in
    record {
      ran = turn_runs m.design (between m) (between c.loop-turn.machine) (between c.run_cycle.new.machine) c.args.row.now.values c.args.row.now.repeat
          c.loop-turn._turn c.args.output.now c.loop-turn.output (g.S.Sink.written c.args.out.now) (g.S.Sink.written c.loop-turn.out)
          (g.S.Sink.written c.run_cycle.new.out) c.loop-turn-test.true i.ran goes c.run_cycle.new.output
          (rw (i.same.design, c.in-Ok-Goes.field-0-is) at c.in-Ok-Goes.ensures.ran);
      sound = c.in-Ok-Goes.ensures.sound;
      same = record { design = c.in-Ok-Goes.ensures.same.design ∙ i.same.design; order = c.in-Ok-Goes.ensures.same.order ∙ i.same.order };
      started = c.in-Ok-Goes.ensures.started;
      going = c.in-Ok-Goes.ensures.end ∙ c.in-Ok-Goes.field-0-is;
      cycles = omega (arith, i.cycles, c.in-Ok-Goes.ensures.cycles);
      faults = c.in-Ok-Goes.ensures.cause.kept ∙ i.faults;
    }
