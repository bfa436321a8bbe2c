use Rattle.sim_frame.specs.Asked.{seen}
use Rattle.sim_frame.proofs.HeadLemmas.{begins, head_spares, head_stops}
use Rattle.sim_frame.proofs.stimulus_head.read_head.Goals as goal

pub returns-in-Ok-clause-begun : goal.returns-in-Ok-clause-begun
returns-in-Ok-clause-begun g c =
    begins (seen c.args.asked.now) c.args.design.now (g.F.Files.held c.args.files.now) (g.F.Files.rest c.args.files.now)
    (g.F.Files.rest c.header.new.files) c.in-Ok.reader c.requires.opened c.in-Ok.ensures.rows c.in-Ok.ensures.stands

pub returns-in-Err-clause-err : goal.returns-in-Err-clause-err
returns-in-Err-clause-err g c =
    head_stops (seen c.args.asked.now) c.args.design.now (g.F.Files.held c.args.files.now) (g.F.Files.rest c.args.files.now) _ _ c.in-Err.fault
    c.head_ending.result c.requires.opened c.requires.holds c.in-Err.ensures.fault c.in-Err.ensures.fault_quiet
    (λ same. c.in-Err.ensures.failed (let is = c.in-Err.is in cc)) (rw c.requires.lines at c.head_ending.ensures)

pub returns-in-Err-clause-sparing : goal.returns-in-Err-clause-sparing
returns-in-Err-clause-sparing g c =
    head_spares (seen c.args.asked.now) c.args.design.now (g.F.Files.held c.args.files.now) (g.F.Files.rest c.args.files.now)
    (g.F.Files.rest c.header.new.files) c.in-Err.fault c.head_ending.result c.requires.opened c.requires.holds c.in-Err.ensures.fault
    c.in-Err.ensures.frugal (rw c.requires.lines at c.head_ending.ensures)
