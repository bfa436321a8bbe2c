use Rattle.std.proofs.Common.{refl}
use Rattle.command_ending.proofs.StopLemmas.{stopping_leaves}
use Rattle.sim_answer.specs.SimPromise.{sim_promise}
use Rattle.sim_frame.specs.Asked.{seen}
use Rattle.sim_frame.proofs.HeadLemmas.{other_spares}
use Rattle.sim_files.proofs.DesignLemmas.{design_stops, holds_design, refused_is_other}
use Rattle.sim_files.proofs.command.simulate_text.Goals as goal

pub simulate_design-requires-clause-can : goal.simulate_design-requires-clause-can
simulate_design-requires-clause-can g c = record {
  valid = c.in-Ok.ensures.design.valid;
  flows = c.in-Ok.ensures.flows.0;
  is_order = c.in-Ok.ensures.flows.1;
  reads = c.in-Ok.ensures.reads;
}

pub simulate_design-requires-clause-holds : goal.simulate_design-requires-clause-holds
simulate_design-requires-clause-holds g c =
    holds_design (g.F.Files.held c.args.files.now) c.args.asked.now.design.now c.args.text.now c.in-Ok.design c.requires.within c.in-Ok.ensures.design
    c.in-Ok.ensures.flows.0 c.requires.holds

pub returns-in-Err-clause-leaves : goal.returns-in-Err-clause-leaves
returns-in-Err-clause-leaves g c =
    stopping_leaves (sim_promise (seen c.args.asked.now)) (g.F.Files.held c.args.files.now) (g.F.Files.held c.args.files.now) _ _
    (g.O.Sink.written c.args.out.now) (g.O.Sink.faults c.args.out.now) c.design_ending.result refl
    (design_stops (seen c.args.asked.now) c.args.text.now c.in-Err.fault (g.F.Files.held c.args.files.now) _ _ c.design_ending.result refl
    c.requires.within c.in-Err.ensures.fault c.requires.holds c.design_ending.ensures)

pub returns-in-Err-clause-sparing : goal.returns-in-Err-clause-sparing
returns-in-Err-clause-sparing g c =
    other_spares (seen c.args.asked.now) (g.F.Files.held c.args.files.now) c.design_ending.result _
    (refused_is_other c.args.asked.now.design.now c.in-Err.fault c.design_ending.result c.design_ending.ensures)
