use Rattle.std.proofs.Common.{take}
use Rattle.counted_circuit.specs.Inserted.{AreCountedProcesses}
use Rattle.counted_copy.specs.Carried.{carried_by}
use Rattle.counted_copy.proofs.design.counted_processes.Given as goal

abbrev pub invariant-loop-process : goal.invariant-loop-process
invariant-loop-process l = AreCountedProcesses (carried_by l.carriers) 0 (take l.process-index l.processes) l.copies l.next
