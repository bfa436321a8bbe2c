-- What the code says of what a name means.
use Rattle.std.specs.Prelude.{ℕ, Bool, true, false, List, Option, Some, None}
use Rattle.scope_table.specs.declared.table.ScopeTable.{ScopeTable}
use Rattle.flat_declared.specs.declared.declared.DeclaredKind.{DeclaredKind}
use Rattle.flat_declared.specs.declared.declared.DeclaredKind.TheVariants as kind
use Rattle.flat_scopes.specs.declared.scope.NameMeaning.{NameMeaning}
use Rattle.flat_scopes.specs.declared.scope.NameMeaning.TheVariants as means
use Rattle.flat_reach.specs.Reach.{has}

-- a constant or a variable
abbrev pub has_value_by : Option NameMeaning → Bool
has_value_by (Some (means.Constant v)) = true
has_value_by (Some (means.Variable s k)) = true
has_value_by _ = false

-- a variable that is in a table
abbrev pub in_table : ScopeTable Unit → List ℕ → Option NameMeaning → Bool
in_table table name (Some (means.Variable s k)) = has table s name
in_table table name _ = false

-- what a process may write, and what an assignment may
abbrev pub process_writes : DeclaredKind → Bool
process_writes kind.OutputReg = true
process_writes kind.Reg = true
process_writes kind.Integer = true
process_writes _ = false

abbrev pub assignment_writes : DeclaredKind → Bool
assignment_writes kind.OutputWire = true
assignment_writes kind.Wire = true
assignment_writes _ = false

-- what is meant may be written; what has no value is refused before
abbrev pub may_write_by : (DeclaredKind → Bool) → Option NameMeaning → Bool
may_write_by f (Some (means.Variable s k)) = f k
may_write_by f (Some (means.Constant v)) = false
may_write_by f _ = true
