use Rattle.std.proofs.Common.{◌≡◌, ◌++◌, map, take}
use Rattle.elab_overrides.proofs.parameters.with_names.Given as goal

abbrev pub invariant-loop-parameter : goal.invariant-loop-parameter
invariant-loop-parameter l = l.all ≡ l.fn.names ++ map (λ p. p.name.name) (take l.parameter-index l.declared)
