use Rattle.std.proofs.Common.{◌≡◌, take}
use Rattle.design_copies.proofs.part.copy_targets.Given as goal

abbrev pub invariant-loop-target : goal.invariant-loop-target
invariant-loop-target l = l.copies ≡ take l.target-index l.targets
