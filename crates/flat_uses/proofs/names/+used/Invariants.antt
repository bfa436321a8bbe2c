use Rattle.std.proofs.Common.{◌≡◌, take}
use Rattle.std.specs.List.{flat_map, list_any}
use Rattle.flat_source_meaning.specs.Names.{names_in}
use Rattle.flat_uses.proofs.names.+used.Given as goal

abbrev pub invariant-any_in_parts-loop-part : goal.invariant-any_in_parts-loop-part
invariant-any_in_parts-loop-part g l = l.any ≡ list_any (g.T.NameTest.holds l.asked) (flat_map names_in (take l.part-index l.parts))
