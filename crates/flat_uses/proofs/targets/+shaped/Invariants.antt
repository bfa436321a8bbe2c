use Rattle.std.proofs.Common.{◌≡◌, take}
use Rattle.std.specs.List.{list_all}
use Rattle.flat_source_meaning.specs.Targets.{is_target}
use Rattle.flat_uses.proofs.targets.+shaped.Given as goal

abbrev pub invariant-are_targets-loop-part : goal.invariant-are_targets-loop-part
invariant-are_targets-loop-part l = l.all ≡ list_all is_target (take l.part-index l.parts)
