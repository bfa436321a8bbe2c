use Rattle.std.proofs.Common.{◌≡◌, map, take}
use Rattle.cov_types.specs.declared.kind.VarKind.TheVariants as kind
use Rattle.flat_source_meaning.specs.Variables.{variable}
use Rattle.flat_variables.specs.Sizes.{span_of}
use Rattle.flat_variables.proofs.declared.with_wires.Given as goal

abbrev pub invariant-loop-wire : goal.invariant-loop-wire
invariant-loop-wire l = l.all ≡ map (λ w. variable l.scope kind.Wire l.signed (span_of l.fn.size) w.name 0) (take l.wire-index l.names)
