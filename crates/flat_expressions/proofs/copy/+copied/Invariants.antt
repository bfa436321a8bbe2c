use Rattle.std.proofs.Common.{take}
use Rattle.std.specs.List.{flat_map}
use Rattle.flat_meaning.specs.FlatForm.{AreFlat}
use Rattle.flat_source_meaning.specs.Names.{names_in}
use Rattle.flat_expressions.specs.Copies.{Copied, lacks}
use Rattle.flat_expressions.proofs.copy.+copied.Given as goal

abbrev pub invariant-flat_parts-loop-part : goal.invariant-flat_parts-loop-part
invariant-flat_parts-loop-part g l =
    Copied (λ v. AreFlat (g.N.Resolves.vars l.names) (g.N.Resolves.environment l.names) (take l.part-index l.parts) v.items)
    (lacks (g.N.Resolves.environment l.names) (flat_map names_in (take l.part-index l.parts))) l.all
