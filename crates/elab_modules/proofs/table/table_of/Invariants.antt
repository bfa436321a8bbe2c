use Rattle.std.proofs.Common.{take}
use Rattle.scope_meaning.specs.ScopeTrees.{modules}
use Rattle.elab_modules.specs.Tables.{IsTable}
use Rattle.elab_modules.proofs.table.table_of.Given as goal

abbrev pub invariant-loop-number : goal.invariant-loop-number
invariant-loop-number l = IsTable l.files (modules (take l.number l.files)) l.all
