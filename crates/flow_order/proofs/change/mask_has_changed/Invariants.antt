use Rattle.std.proofs.Common.{◌≡◌, ℕ, ◌<◌, ◌≤◌, bit_and, bit_xor, get_or}
use Rattle.circuit_run.specs.States.{held}
use Rattle.flow_order.proofs.change.mask_has_changed.Given as goal

abbrev pub invariant-loop-word : goal.invariant-loop-word
invariant-loop-word l = (w : ℕ) → l.mask.word ≤ w → w < l.word
    → bit_and (bit_xor (get_or (held l.now l.mask.var).words w 0) (get_or (held l.before l.mask.var).words w 0)) l.mask.mask ≡ 0
