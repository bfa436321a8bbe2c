-- Private: the variables that a process writes.
use Rattle.std.specs.Prelude.{ℕ, List, ◌++◌, map}
use Rattle.flow_uses.specs.declared.uses.Uses.{Uses}

abbrev pub named_by : Uses → List ℕ
named_by u = map (λ s. s.var) u.sets ++ map (λ s. s.var) u.defers
