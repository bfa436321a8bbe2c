use Rattle.std.proofs.Common.{refl}
use Rattle.command_ending.specs.Stops.{wants_memory}
use Rattle.sim_frame.specs.Asked.{seen}
use Rattle.sim_frame.proofs.HeadLemmas.{unopened_spares, unopened_stops}
use Rattle.sim_frame.proofs.stimulus_head.open_stimulus.Goals as goal

pub returns-in-Err-clause-err : goal.returns-in-Err-clause-err
returns-in-Err-clause-err g c = wants_memory refl

pub returns-clause-err : goal.returns-clause-err
returns-clause-err g c =
    unopened_stops (seen c.args.asked.now) c.args.design.now (g.F.Files.held c.args.files.now) _ _ c.in-Err-open_input.ending c.requires.holds
    c.in-Err-open_input.ensures.err

pub returns-clause-sparing : goal.returns-clause-sparing
returns-clause-sparing g c =
    unopened_spares (seen c.args.asked.now) c.args.design.now (g.F.Files.held c.args.files.now) _ _ c.in-Err-open_input.ending _
    c.in-Err-open_input.ensures.err
