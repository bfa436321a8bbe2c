use Rattle.command_ending.proofs.StopLemmas.{stopping_leaves}
use Rattle.sim_answer.specs.SimPromise.{sim_promise}
use Rattle.sim_frame.specs.Asked.{seen}
use Rattle.sim_frame.proofs.DesignLemmas.{untaken_sim}
use Rattle.sim_frame.proofs.HeadLemmas.{other_spares}
use Rattle.sim_files.proofs.DesignLemmas.{untaken_is_other}
use Rattle.sim_files.proofs.command.simulate.Goals as goal

pub returns-in-Err-clause-leaves : goal.returns-in-Err-clause-leaves
returns-in-Err-clause-leaves g c =
    stopping_leaves (sim_promise (seen c.args.asked.now)) (g.F.Files.held c.args.files.now) (g.F.Files.held c.take_design.new.files) _ _
    (g.O.Sink.written c.args.out.now) (g.O.Sink.faults c.args.out.now) c.in-Err.ending c.in-Err.ensures.held
    (untaken_sim (seen c.args.asked.now) (g.F.Files.held c.args.files.now) _ _ c.in-Err.ending c.in-Err.ensures.err)

pub returns-in-Err-clause-sparing : goal.returns-in-Err-clause-sparing
returns-in-Err-clause-sparing g c =
    other_spares (seen c.args.asked.now) (g.F.Files.held c.args.files.now) c.in-Err.ending _
    (untaken_is_other c.args.asked.now.design.now (g.F.Files.held c.args.files.now) _ _ c.in-Err.ending c.in-Err.ensures.err)

pub returns-in-Ok-clause-leaves : goal.returns-in-Ok-clause-leaves
returns-in-Ok-clause-leaves g c = rw (c.in-Ok.ensures.held, c.in-Ok.ensures.ok_quiet) at c.simulate_text.ensures.leaves

pub returns-in-Ok-clause-sparing : goal.returns-in-Ok-clause-sparing
returns-in-Ok-clause-sparing g c = rw (c.in-Ok.ensures.held) at c.simulate_text.ensures.sparing
