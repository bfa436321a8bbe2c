use Rattle.std.proofs.Common.{◌≡◌, ◌||◌, ℕ, List, take}
use Rattle.std.specs.List.{list_any}
use Rattle.flat_reach.specs.Reach.{has}
use Rattle.flat_loop_variables.specs.Turned as spec
use Rattle.flat_loop_variables.proofs.turned.put_names.Given as goal

abbrev pub invariant-loop-name : goal.invariant-loop-name
invariant-loop-name l = (s : ℕ) (n : List ℕ) → has l.table s n
    ≡ (has l.initial.table s n || list_any (spec.means_integer_at l.scopes.scopes.items l.at s n) (take l.name-index l.names))
