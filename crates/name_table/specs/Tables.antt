-- What a table holds.
use Rattle.std.specs.Prelude.{ℕ, List, Option, Some, None, if◌then◌else◌}
use Rattle.std.specs.Str.{bytes_eq}
use Rattle.std.specs.Map.{lookup}
use Rattle.name_table.specs.declared.table.NameTable.{NameTable}

-- the value of a name in a table
abbrev pub value_of : {V : Type 0} → NameTable V → List ℕ → Option V
value_of table name = lookup (λ key. bytes_eq name key.items) table.values.entries

-- the value of a name where one name alone has this value
abbrev pub only : {V : Type 0} → List ℕ → V → List ℕ → Option V
only name value other = if bytes_eq other name then Some value else None
