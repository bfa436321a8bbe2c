use Rattle.std.proofs.Common.{◌≡◌, ◌||◌, ℕ, List, take}
use Rattle.std.specs.List.{list_any}
use Rattle.flat_reach.specs.Reach.{has}
use Rattle.flat_loop_variables.specs.Turned as spec
use Rattle.flat_loop_variables.proofs.turned.loop_variables.Given as goal

abbrev pub invariant-loop-spot : goal.invariant-loop-spot
invariant-loop-spot l = (s : ℕ) (n : List ℕ) → has l.table s n
    ≡ (has l.initial.table s n || list_any (spec.turns_over l.scopes.scopes.items s n) (take l.spot-index l.spots))
