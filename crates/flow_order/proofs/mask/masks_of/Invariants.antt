use Rattle.std.proofs.Common.{◌≡◌, map, take}
use Rattle.flow_order.specs.Masks.{mask_of}
use Rattle.flow_order.proofs.mask.masks_of.Given as goal

abbrev pub invariant-loop-span : goal.invariant-loop-span
invariant-loop-span l = l.masks.items ≡ map mask_of (take l.span-index l.spans)
