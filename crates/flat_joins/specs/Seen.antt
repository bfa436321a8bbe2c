-- What pairs and connections of the code stand for.
use Rattle.std.specs.Prelude.{◌≡◌, ℕ, List, Option}
use Rattle.std.specs.List.{find}
use Rattle.std.specs.Option.{option_copied}
use Rattle.std.specs.Str.{bytes_eq}
use Rattle.std.specs.Borrow.{Bor}
use Rattle.vlog_tree.specs.declared.expression.Expr.{Expr}
use Rattle.scope_meaning.specs.Constants.{option_of}
use Rattle.flat_source_meaning.specs.Joins.{Join}
use Rattle.name_table.specs.declared.table.NameTable.{NameTable}
use Rattle.name_table.specs.Tables.{value_of}
use Rattle.flat_joins.specs.declared.pair.Pair.{Pair}
use Rattle.flat_joins.specs.declared.join.Joined.{Joined}

-- names with expressions
abbrev pub Pairs : Type 0
Pairs = List (List ℕ × Expr)

-- a name and an expression
abbrev pub pair_seen : Pair → List ℕ × Expr
pair_seen p = (p.name.now, p.expr.now)

-- a port and an expression
abbrev pub join_seen : Joined → Join
join_seen j = record { port = j.port.now; expr = j.expr.now }

-- the table has the first expression of each of these names
abbrev pub IsTableOf : Pairs → NameTable (Bor Expr) → Type 0
IsTableOf all table = (q : List ℕ)
    → option_copied (value_of table q) ≡ option_of (λ (x : List ℕ × Expr). x.1) (find (λ (x : List ℕ × Expr). bytes_eq q x.0) all)
