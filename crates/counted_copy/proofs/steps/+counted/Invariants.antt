use Rattle.std.proofs.Common.{take}
use Rattle.counted_circuit.specs.Inserted.{ArmsAreCounted}
use Rattle.counted_copy.specs.Carried.{carried_by}
use Rattle.counted_copy.specs.Blocks.{IsCountedBlock}
use Rattle.counted_copy.proofs.steps.+counted.Given as goal

abbrev pub invariant-counted_arms-loop-arm : goal.invariant-counted_arms-loop-arm
invariant-counted_arms-loop-arm l = ArmsAreCounted (carried_by l.carriers) l.first (take l.arm-index l.arms) l.copies l.next

abbrev pub invariant-counted_block-loop-step : goal.invariant-counted_block-loop-step
invariant-counted_block-loop-step l = IsCountedBlock (carried_by l.carriers) l.arm (take l.step-index l.steps) l.copies l.next
