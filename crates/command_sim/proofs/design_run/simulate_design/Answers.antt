use Rattle.command_ending.proofs.StopLemmas.{stopping_leaves}
use Rattle.sim_answer.specs.SimPromise.{sim_promise}
use Rattle.sim_frame.specs.Asked.{seen}
use Rattle.command_sim.proofs.design_run.simulate_design.Goals as goal

pub returns-in-Err-open_stimulus-clause-leaves : goal.returns-in-Err-open_stimulus-clause-leaves
returns-in-Err-open_stimulus-clause-leaves g c =
    stopping_leaves (sim_promise (seen c.args.asked.now)) (g.F.Files.held c.args.files.now) (g.F.Files.held c.open_stimulus.new.files) _ _
    (g.O.Sink.written c.args.out.now) (g.O.Sink.faults c.args.out.now) c.in-Err-open_stimulus.ending c.in-Err-open_stimulus.ensures.held
    c.in-Err-open_stimulus.ensures.err
