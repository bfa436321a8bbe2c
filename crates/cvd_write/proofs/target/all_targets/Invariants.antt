use Rattle.std.proofs.Common.{◌≡◌, ◌++◌, drop}
use Rattle.std.specs.List.{flat_map}
use Rattle.cvd_text.specs.Targets.{target_tokens}
use Rattle.cvd_write.specs.Writing.{spaced}
use Rattle.cvd_write.proofs.target.all_targets.Given as goal

abbrev pub invariant-loop-one : goal.invariant-loop-one
invariant-loop-one l = l.out ++ spaced (flat_map target_tokens (drop l.one-index l.targets)) ≡ l.initial.out ++ spaced (flat_map target_tokens l.targets)
