use Rattle.std.proofs.Common.{◌≡◌, ◌≤◌, ℕ, length}
use Rattle.row_lists.specs.Lists.{list_at}
use Rattle.scope_rows.specs.Rows.{rows_from}
use Rattle.scope_rows.proofs.tree.rows_of.Given as goal

abbrev pub invariant-loop-scope : goal.invariant-loop-scope
invariant-loop-scope l =
    (l.rows ≡ rows_from l.initial.constants l.initial.items 0 l.yielded)
    × ((k : ℕ) → length l.yielded ≤ k → list_at l.constants k ≡ list_at l.initial.constants k)
    × ((k : ℕ) → length l.yielded ≤ k → list_at l.items k ≡ list_at l.initial.items k)
