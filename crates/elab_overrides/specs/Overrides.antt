-- What the parameters of a module and the values of an instance stand for in the code.
use Rattle.std.specs.Prelude.{◌≡◌, ℕ, Bool, ◌||◌, not, List, map, is_some}
use Rattle.std.specs.List.{list_any}
use Rattle.vlog_tree.specs.declared.item.NamedConn.{NamedConn}
use Rattle.scope_meaning.specs.Declared.{is_in}
use Rattle.scope_meaning.specs.Overrides.{has_twice}
use Rattle.name_table.specs.declared.table.NameTable.{NameTable}
use Rattle.name_table.specs.Tables.{value_of}
use Rattle.elab_overrides.specs.declared.parameters.Parameters.{Parameters}

-- the table has these names
abbrev pub AreAmong : List (List ℕ) → NameTable Unit → Type 0
AreAmong names table = (name : List ℕ) → is_some (value_of table name) ≡ is_in name names

-- they have these names
pub record AreParameters (names : List (List ℕ)) (p : Parameters) : Type 0 where
  pub in_order : p.names ≡ names
  pub among : AreAmong names p.among

-- values by name name something else, or something twice
abbrev pub are_bad_named : List (List ℕ) → List NamedConn → Bool
are_bad_named names cs = list_any (λ c. not (is_in c.name names)) cs || has_twice (map (λ c. c.name) cs)
