use Rattle.sim_frame.proofs.DesignLemmas.{long_stops, untaken_stops}
use Rattle.sim_frame.proofs.design_text.take_design.Goals as goal

pub returns-in-Ok-clause-err : goal.returns-in-Ok-clause-err
returns-in-Ok-clause-err g c =
    long_stops (g.F.Files.held c.args.files.now) c.args.name.now c.in-Ok.text _ _ c.over_limit.result c.in-Ok.ensures.ok_quiet
    (rw c.most-most.ensures at c.in-Ok.ensures.ok) (rw (c.len.ensures, c.most-most.ensures) at c.if-len-most.true) c.over_limit.ensures

pub returns-in-Err-clause-err : goal.returns-in-Err-clause-err
returns-in-Err-clause-err g c = untaken_stops (g.F.Files.held c.args.files.now) c.args.name.now _ _ c.in-Err.ending c.in-Err.ensures.err
