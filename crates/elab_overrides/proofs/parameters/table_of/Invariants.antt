use Rattle.std.proofs.Common.{take}
use Rattle.elab_overrides.specs.Overrides.{AreAmong}
use Rattle.elab_overrides.proofs.parameters.table_of.Given as goal

abbrev pub invariant-loop-name : goal.invariant-loop-name
invariant-loop-name l = AreAmong (take l.name-index l.names) l.table
