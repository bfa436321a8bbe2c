use Rattle.std.proofs.Common.{◌≡◌, take}
use Rattle.std.specs.List.{flat_map}
use Rattle.elab_names.specs.Arms.{arm_names}
use Rattle.flat_declared.proofs.declared.names_of_arms.Given as goal

abbrev pub invariant-loop-arm : goal.invariant-loop-arm
invariant-loop-arm l = l.all ≡ flat_map arm_names (take l.arm-index l.arms)
