use Rattle.std.proofs.Common.{◌≡◌, map, take}
use Rattle.flat_source_meaning.specs.Variables.{integer_variable}
use Rattle.flat_variables.proofs.declared.integers.Given as goal

abbrev pub invariant-loop-name : goal.invariant-loop-name
invariant-loop-name l = l.all ≡ map (integer_variable l.scope) (take l.name-index l.names)
