use Rattle.std.proofs.Common.{◌≡◌, fold, take, None}
use Rattle.flat_names.specs.Loops.{or_value}
use Rattle.flat_names.proofs.loops.loop_value.Given as goal

abbrev pub invariant-loop-one : goal.invariant-loop-one
invariant-loop-one l = l.found ≡ fold (or_value l.name) None (take l.one-index l.loops)
