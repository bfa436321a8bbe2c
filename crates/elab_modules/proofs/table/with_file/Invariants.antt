use Rattle.std.proofs.Common.{◌≡◌, List, ◌++◌, Some, take}
use Rattle.std.specs.Prelude.{slice_get}
use Rattle.vlog_tree.specs.declared.module.Module.{Module}
use Rattle.vlog_tree.specs.declared.module.SourceFile.{SourceFile}
use Rattle.elab_modules.specs.Tables.{IsTable}
use Rattle.elab_modules.proofs.table.with_file.Given as goal

abbrev pub invariant-loop-index : goal.invariant-loop-index
invariant-loop-index l = (files : List SourceFile) (ms : List Module) → IsTable files ms l.fn.table → slice_get files l.number ≡ Some l.file
    → IsTable files (ms ++ take l.index l.modules) l.all
