use Rattle.std.proofs.Common.{take}
use Rattle.std.specs.List.{list_all}
use Rattle.flat_source_meaning.specs.FixedParts as spec
use Rattle.flat_fixed.specs.Checks.{Checks}
use Rattle.flat_fixed.proofs.fixed.+fixed.Given as goal

abbrev pub invariant-fixed_parts-loop-part : goal.invariant-fixed_parts-loop-part
invariant-fixed_parts-loop-part g l = Checks (list_all (spec.has_constants (g.N.Names.environment l.names)) (take l.part-index l.parts)) l.all
