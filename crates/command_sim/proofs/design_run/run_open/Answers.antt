use Rattle.std.proofs.Common.{refl, ap, ◌∙◌, subst, Option}
use Rattle.cov_port.specs.Files.{Names}
use Rattle.circuit_run.specs.Ends.{goes}
use Rattle.cycle_run.specs.Ends.{end_seen}
use Rattle.design_tree.specs.declared.instrumented.Instrumented.{Instrumented}
use Rattle.command_ending.specs.World.{world}
use Rattle.simulator.specs.Machines.{IsSound}
use Rattle.sim_frame.specs.Asked.{seen}
use Rattle.sim_frame.specs.RunEnds.{is_stop}
use Rattle.sim_frame.proofs.EndLemmas.{cut_part, ended_leaves, ended_spares, refused_ends}
use Rattle.sim_frame.proofs.HeadLemmas.{few_spares, other_spares}
use Rattle.sim_frame.proofs.LeaveLemmas.{put_failed_leaves, read_failed_leaves}
use Rattle.sim_frame.proofs.RunLemmas.{ended_is, refused_few, refused_is, runs_on}
use Rattle.command_sim.proofs.WholeLemmas.{fault_is_other, whole_told}
use Rattle.command_sim.proofs.design_run.run_open.Goals as goal

-- ---- the run is at its end

pub returns-in-Ended-clause-leaves : goal.returns-in-Ended-clause-leaves
returns-in-Ended-clause-leaves g c =
    let asked = seen c.args.asked.now in
    let x = c.args.design.now in
    let old = world (g.F.Files.held c.args.files.now) (g.F.Files.faults c.args.files.now) (g.O.Sink.written c.args.out.now) (g.O.Sink.faults c.args.out.now) in
    let mid = world (g.F.Files.held c.run_stimulus.new.files) (g.F.Files.faults c.run_stimulus.new.files) (g.O.Sink.written c.run_stimulus.new.out)
    (g.O.Sink.faults c.run_stimulus.new.out) in
    let ended = rw (c.requires.design, c.requires.room.output) at c.in-Ended.ensures.ended in
    let stored = rw (c.requires.room.data_name, c.counts.ensures, c.was_stopped.ensures) at c.store_run.ensures in
    ended_leaves asked old mid _ (is_stop (end_seen c.in-Ended.end)) ended.text c.run_stimulus.new.output _ c.store_run.result
    (record {
      held = c.in-Ended.ensures.held;
      unharmed = record { files = c.in-Ended.ensures.causes.0; out = c.in-Ended.ensures.causes.1 };
      output = ended.printed;
    })
    (ended_is asked x c.args.run.now.reader (g.F.Files.rest c.args.files.now) (g.F.Files.held c.args.files.now) (end_seen c.in-Ended.end) ended.text
    c.run_stimulus.new.machine.counts c.requires.holds c.requires.begun ended.run (whole_told c.in-Ended.end _ c.in-Ended.ensures.whole)) stored

pub returns-in-Ended-clause-sparing : goal.returns-in-Ended-clause-sparing
returns-in-Ended-clause-sparing g c =
    ended_spares (seen c.args.asked.now) (g.F.Files.held c.args.files.now) c.was_stopped.result _ _ _ _ _ c.store_run.result _ c.store_run.ensures

-- ---- a row is refused

pub returns-in-Refused-clause-leaves : goal.returns-in-Refused-clause-leaves
returns-in-Refused-clause-leaves g c =
    let asked = seen c.args.asked.now in
    let x = c.args.design.now in
    let old = world (g.F.Files.held c.args.files.now) (g.F.Files.faults c.args.files.now) (g.O.Sink.written c.args.out.now) (g.O.Sink.faults c.args.out.now) in
    let mid = world (g.F.Files.held c.run_stimulus.new.files) (g.F.Files.faults c.run_stimulus.new.files) (g.O.Sink.written c.run_stimulus.new.out)
    (g.O.Sink.faults c.run_stimulus.new.out) in
    let ran = rw (c.requires.design, c.requires.room.output) at c.in-Refused.ensures.refused in
    let behind = rw (c.refused.ensures, c.requires.lines) at c.end_with.ensures in
    refused_ends asked old mid _ c.in-Refused.fault ran.text c.run_stimulus.new.output c.end_with.result c.in-Refused.ensures.of_text
    (record {
      held = c.in-Refused.ensures.held;
      unharmed = record { files = c.in-Refused.ensures.causes.0; out = c.in-Refused.ensures.causes.1 };
      output = ran.printed;
    })
    (refused_is asked x c.args.run.now.reader (g.F.Files.rest c.args.files.now) (g.F.Files.held c.args.files.now) c.in-Refused.fault ran.text
    c.run_stimulus.new.machine.counts c.requires.holds c.requires.begun ran.run c.in-Refused.ensures.fault) refl refl behind

pub returns-in-Refused-clause-sparing : goal.returns-in-Refused-clause-sparing
returns-in-Refused-clause-sparing g c =
    few_spares (seen c.args.asked.now) (g.F.Files.held c.args.files.now) c.end_with.result _
    (refused_few (seen c.args.asked.now) c.args.design.now c.args.run.now.reader (g.F.Files.rest c.args.files.now) (g.F.Files.held c.args.files.now)
    c.in-Refused.fault _ c.requires.holds c.requires.begun c.in-Refused.ensures.fault c.in-Refused.ensures.frugal)

-- ---- a call fails

pub returns-in-ReadFailed-clause-leaves : goal.returns-in-ReadFailed-clause-leaves
returns-in-ReadFailed-clause-leaves g c =
    let asked = seen c.args.asked.now in
    let x = c.args.design.now in
    let cut = rw (c.requires.design, c.requires.room.output) at c.in-ReadFailed.ensures.begun in
    rw (c.read_failed.ensures, c.requires.lines)
    (read_failed_leaves asked _ _ c.in-ReadFailed.ensures.causes.0 c.in-ReadFailed.ensures.causes.1
    (cut_part asked x cut.text _ _ c.in-ReadFailed.ensures.held
    (runs_on asked x c.args.run.now.reader (g.F.Files.rest c.args.files.now) (g.F.Files.held c.args.files.now) cut.text c.requires.holds
    c.requires.begun cut.run) cut.part))

pub returns-in-ReadFailed-clause-sparing : goal.returns-in-ReadFailed-clause-sparing
returns-in-ReadFailed-clause-sparing g c =
    other_spares (seen c.args.asked.now) (g.F.Files.held c.args.files.now) c.read_failed.result _
    (fault_is_other c.read_failed.result _ c.read_failed.ensures)

pub returns-in-PutFailed-clause-leaves : goal.returns-in-PutFailed-clause-leaves
returns-in-PutFailed-clause-leaves g c =
    let asked = seen c.args.asked.now in
    let x = c.args.design.now in
    let cut = rw (c.requires.design, c.requires.room.output) at c.in-PutFailed.ensures.begun in
    put_failed_leaves asked _ _ c.in-PutFailed.ensures.causes.1 c.in-PutFailed.ensures.causes.0
    (cut_part asked x cut.text _ _ c.in-PutFailed.ensures.held
    (runs_on asked x c.args.run.now.reader (g.F.Files.rest c.args.files.now) (g.F.Files.held c.args.files.now) cut.text c.requires.holds
    c.requires.begun cut.run) cut.part)
