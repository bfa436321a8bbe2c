use Rattle.std.proofs.Common.{take}
use Rattle.flat_scopes.specs.Frames.{IsTableOf}
use Rattle.flat_scopes.proofs.scope.table_of.Given as goal

abbrev pub invariant-loop-name : goal.invariant-loop-name
invariant-loop-name l = IsTableOf (take l.name-index l.declared) l.table
