-- What a table of scopes holds.
use Rattle.std.specs.Prelude.{ℕ, ◌==◌, List, slice_get, Option, Some, None, if◌then◌else◌}
use Rattle.name_table.specs.declared.table.NameTable.{NameTable}
use Rattle.name_table.specs.Tables.{value_of, only}
use Rattle.scope_table.specs.declared.table.ScopeTable.{ScopeTable}

-- the value of a name, where there is a table
abbrev pub value_there : {V : Type 0} → Option (NameTable V) → List ℕ → Option V
value_there (Some table) name = value_of table name
value_there None name = None

-- the value of a name in the table of a number
abbrev pub value_at : {V : Type 0} → List (NameTable V) → ℕ → List ℕ → Option V
value_at tables scope name = value_there (slice_get tables scope) name

-- the value of a name of a scope in a table
abbrev pub value_in : {V : Type 0} → ScopeTable V → ℕ → List ℕ → Option V
value_in table = value_at table.tables.items

-- the value of a name of a scope where one alone has this value
abbrev pub only_in : {V : Type 0} → ℕ → List ℕ → V → ℕ → List ℕ → Option V
only_in scope name value s q = if s == scope then only name value q else None
