use Rattle.std.proofs.Common.{take}
use Rattle.elab_names.specs.DeclaredNames.{IsTableOf}
use Rattle.elab_names.proofs.scope_names.table_of.Given as goal

abbrev pub invariant-loop-name : goal.invariant-loop-name
invariant-loop-name l = IsTableOf (take l.name-index l.declared) l.table
