use Rattle.std.proofs.Common.{◌∙◌, refl}
use Rattle.cycle_run.specs.Ends.{end_seen}
use Rattle.stimulus.specs.Streaming.{rows_left}
use Rattle.simulator.specs.Machines.{between}
use Rattle.sim_run.proofs.RowLemmas.{ends_behind, none_come, row_comes}
use Rattle.sim_run.proofs.rows.run_rows.Goals as goal

pub rows-init : goal.rows-init
rows-init g c = record {
  come = none_come c.args.machine.now.design (between c.args.machine.now) (rows_left c.args.reader.now (g.F.Files.rest c.args.files.now)) c.args.output.now
      (g.S.Sink.written c.args.out.now);
  stands = λ text stands. stands;
  sound = c.requires.sound;
  same = record { design = refl; order = refl };
  started = c.requires.started;
  going = c.requires.goes;
  going_on = c.requires.goes_on;
  cycles = c.requires.cycles;
  room = c.requires.room;
  layout = refl;
  held = refl;
  quiet = refl;
  calm = refl;
}

pub returns-in-Some-clause-end : goal.returns-in-Some-clause-end
returns-in-Some-clause-end g c =
    let m = c.args.machine.now in
    ends_behind m.design (between m) (between c.rows.machine) (between c.run_next.new.machine) (end_seen c.run_next.new.machine.end)
    (rows_left c.args.reader.now (g.F.Files.rest c.args.files.now)) (rows_left c.rows.reader (g.F.Files.rest c.rows.files))
    c.args.output.now c.rows.output c.run_next.new.output
    (g.S.Sink.written c.args.out.now) (g.S.Sink.written c.rows.out) (g.S.Sink.written c.run_next.new.out) c.rows.invariant.come c.in-Some.end
    (rw c.rows.invariant.same.design at c.in-Some.ensures.end)

pub rows-preserved : goal.rows-preserved
rows-preserved g c =
    let m = c.args.machine.now in
    let i = c.rows.invariant in
    let e = c.in_default.ensures in
    record {
      come = row_comes m.design (between m) (between c.rows.machine) (between c.run_next.new.machine) c.run_next.new.row
          (rows_left c.args.reader.now (g.F.Files.rest c.args.files.now)) (rows_left c.rows.reader (g.F.Files.rest c.rows.files))
          (rows_left c.run_next.new.reader (g.F.Files.rest c.run_next.new.files))
          c.args.output.now c.rows.output c.run_next.new.output (g.S.Sink.written c.args.out.now) (g.S.Sink.written c.rows.out)
          (g.S.Sink.written c.run_next.new.out) i.come e.told (rw i.same.design at e.ran);
      stands = λ text stands. e.stands text (i.stands text stands);
      sound = e.sound;
      same = record { design = e.same.design ∙ i.same.design; order = e.same.order ∙ i.same.order };
      started = e.started;
      going = e.going;
      going_on = e.going_on;
      cycles = e.counted;
      room = e.room;
      layout = e.layout ∙ i.layout;
      held = e.held ∙ i.held;
      quiet = e.quiet ∙ i.quiet;
      calm = e.calm ∙ i.calm;
    }
