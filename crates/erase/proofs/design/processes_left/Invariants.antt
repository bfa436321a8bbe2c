use Rattle.std.proofs.Common.{◌≡◌, take, map}
use Rattle.counted_circuit.specs.Erased.{erased_process}
use Rattle.erase.proofs.design.processes_left.Given as goal

abbrev pub invariant-loop-process : goal.invariant-loop-process
invariant-loop-process l = l.left ≡ map erased_process (take l.process-index l.processes)
