use Rattle.std.proofs.Common.{◌≡◌, take}
use Rattle.flow_hubs.specs.Kept.{first_of}
use Rattle.flow_hubs.proofs.answer.first.Given as goal

abbrev pub invariant-loop-x : goal.invariant-loop-x
invariant-loop-x l = l.kept.items ≡ first_of l.count (take l.x-index l.vertices)
