use Rattle.std.proofs.Common.{length, take, sym, subst, refl, ◌+◌}
use Rattle.counted_circuit.specs.Inserted.{AreCountedProcesses}
use Rattle.counted_copy.specs.Carried.{carried_by}
use Rattle.counted_copy.proofs.CountedProcesses as processes
use Rattle.counted_copy.proofs.design.counted_processes.Goals as goal

pub loop-process-init : goal.loop-process-init
loop-process-init c = processes.none_yet (carried_by c.args.carriers.now) c.new-copies.result c.new-copies.ensures

pub counted_process-requires-clause-uncounted : goal.counted_process-requires-clause-uncounted
counted_process-requires-clause-uncounted c =
    processes.uncounted_at c.requires refl c.loop-process.process-index c.process-item.result c.loop-process-test.true c.process-item.is

pub counted_process-requires-clause-room : goal.counted_process-requires-clause-room
counted_process-requires-clause-room c =
    processes.room_at (carried_by c.args.carriers.now) c.args.processes.now c.loop-process.copies c.loop-process.next (length c.args.carriers.now)
    c.loop-process.process-index c.process-item.result c.loop-process-test.true c.process-item.is c.loop-process.invariant c.requires

pub loop-process-preserved : goal.loop-process-preserved
loop-process-preserved c =
    subst (λ ts. AreCountedProcesses (carried_by c.args.carriers.now) 0 (take (c.loop-process.process-index + 1) c.args.processes.now) ts
    c.in_ok-counted.counted.next) (sym c.in_ok-push.ensures.ok)
    (processes.processes_next (carried_by c.args.carriers.now) 0 c.loop-process.next c.in_ok-counted.counted.next c.loop-process.process-index
    c.args.processes.now c.loop-process.copies c.process-item.result c.in_ok-counted.counted.process c.loop-process-test.true c.process-item.is
    c.loop-process.invariant c.in_ok-counted.ensures)

pub returns : goal.returns
returns c =
    processes.all_processes (carried_by c.args.carriers.now) c.args.processes.now c.loop-process.copies c.loop-process.next (length c.args.carriers.now)
    c.loop-process.process-index c.loop-process-test.false c.loop-process.invariant c.requires
