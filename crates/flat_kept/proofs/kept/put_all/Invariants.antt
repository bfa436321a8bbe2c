use Rattle.std.specs.List.{filter}
use Rattle.flat_kept.specs.Kept as spec
use Rattle.flat_kept.proofs.kept.put_all.Given as goal

abbrev pub invariant-loop-var : goal.invariant-loop-var
invariant-loop-var l = spec.IsMore (filter (spec.is_kept l.apart.clocks.now l.apart.loops.now) l.yielded) l.initial.kept l.kept
