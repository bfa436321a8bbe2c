use Rattle.std.proofs.Common.{◌≡◌, ◌-◌, ℕ, List, vec_len}
use Rattle.scope_table.specs.Tables.{value_at}
use Rattle.scope_table.proofs.table.grow.Given as goal

abbrev pub invariant-tables : goal.invariant-tables
invariant-tables g l = (s : ℕ) (q : List ℕ) → value_at l.tables.items s q ≡ value_at l.initial.tables.items s q

abbrev pub decreases-tables : goal.decreases-tables
decreases-tables g l = l.count - vec_len l.tables
