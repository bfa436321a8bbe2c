use Rattle.counted_copy.specs.Carried.{carried_by}
use Rattle.counted_copy.proofs.CountedProcesses as processes
use Rattle.counted_copy.proofs.process.counted_process.Goals as goal

pub returns-in_ok-body-in-Assign : goal.returns-in_ok-body-in-Assign
returns-in_ok-body-in-Assign c =
    processes.assignment_counted (carried_by c.args.carriers.now) c.args.arm c.args.process.now c.in_ok-body-in-Assign.body c.in-Assign.is
    c.requires.uncounted c.in_ok-body-in-Assign.ensures

pub returns-in_ok-body-in-Cover : goal.returns-in_ok-body-in-Cover
returns-in_ok-body-in-Cover c =
    processes.cover_counted (carried_by c.args.carriers.now) c.args.arm c.args.process.now c.in_ok-body-in-Cover.body c.in-Cover.is
    c.in_ok-body-in-Cover.ensures
