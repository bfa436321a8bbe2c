use Rattle.std.proofs.Common.{ℕ, ◌<◌, get_or}
use Rattle.flow_order.specs.declared.mask.WordMask.{WordMask}
use Rattle.flow_order.specs.Orders.{MaskHasChanged, reads_for}
use Rattle.flow_order.proofs.change.active.Given as goal

abbrev pub invariant-loop-mask : goal.invariant-loop-mask
invariant-loop-mask l = (k : ℕ) → k < l.mask-index → (d : WordMask) → MaskHasChanged (get_or (reads_for l.order l.p) k d) l.now l.before → ⊥
