use Rattle.std.proofs.Common.{◌≡◌, take}
use Rattle.std.specs.List.{flat_map, list_any}
use Rattle.flat_source_meaning.specs.Targets.{target_names}
use Rattle.flat_uses.proofs.targets.+written.Given as goal

abbrev pub invariant-any_target_in-loop-part : goal.invariant-any_target_in-loop-part
invariant-any_target_in-loop-part g l = l.any ≡ list_any (g.T.NameTest.holds l.asked) (flat_map target_names (take l.part-index l.parts))
