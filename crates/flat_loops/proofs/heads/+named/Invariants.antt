use Rattle.std.proofs.Common.{◌≡◌, ◌++◌, take}
use Rattle.std.specs.List.{flat_map}
use Rattle.vlog_tree.specs.declared.statement.CaseArm.{out-CaseArm}
use Rattle.flat_source_meaning.specs.Variables.{loop_names}
use Rattle.flat_loops.proofs.heads.+named.Given as goal

abbrev pub invariant-with_block-loop-one : goal.invariant-with_block-loop-one
invariant-with_block-loop-one l = l.all ≡ l.fn.before ++ flat_map loop_names (take l.one-index l.body)

abbrev pub invariant-with_arms-loop-arm : goal.invariant-with_arms-loop-arm
invariant-with_arms-loop-arm l = l.all ≡ l.fn.before ++ flat_map (λ arm. loop_names (out-CaseArm arm).body) (take l.arm-index l.arms)
