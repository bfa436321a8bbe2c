use Rattle.std.proofs.Common.{[], length, map, take}
use Rattle.std.specs.Prelude.{flat_map}
use Rattle.circuit_run.specs.Lists.{total}
use Rattle.counted_circuit.specs.Balance.{forks_from}
use Rattle.arm_rows.specs.Rows.{Adds, arms_of_process, sorts_of_process}
use Rattle.arm_rows.proofs.design.arm_rows.Given as goal

abbrev pub invariant-loop-process : goal.invariant-loop-process
invariant-loop-process l = Adds (total (map arms_of_process (take l.process-index l.design.processes)))
    (flat_map sorts_of_process (take l.process-index l.design.processes)) (forks_from 0 (take l.process-index l.design.processes)) [] l.rows
