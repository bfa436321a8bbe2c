-- The names of loops in a statement that may be there.
use Rattle.std.specs.Prelude.{[], Option, Some, None}
use Rattle.vlog_tree.specs.declared.statement.Stmt.{Stmt}
use Rattle.flat_source_meaning.specs.Names.{NameList}
use Rattle.flat_source_meaning.specs.Variables.{loop_names}

abbrev pub names_of_other : Option Stmt → NameList
names_of_other (Some other) = loop_names other
names_of_other None = []
