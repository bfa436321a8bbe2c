use Rattle.std.proofs.Common.{take}
use Rattle.flat_clocks.specs.Handings.{AreInputs}
use Rattle.flat_clocks.proofs.handing.inputs_of.Given as goal

abbrev pub invariant-loop-port : goal.invariant-loop-port
invariant-loop-port l = AreInputs (take l.port-index l.ports) l.table
