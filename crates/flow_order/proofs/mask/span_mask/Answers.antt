use Rattle.std.proofs.Common.{◌≡◌, ◌-◌, ◌≤◌, ◌^◌, arith}
use Rattle.std.proofs.Math.Pow.{pow_mono}
use Rattle.flow_order.proofs.mask.span_mask.Goals as goal

pub overflow_sub-result : goal.overflow_sub-result
overflow_sub-result c = let more : 2 ^ c.args.span.place ≤ 2 ^ c.args.span.place_end = pow_mono c.requires.places in
    omega (arith, more, c.ones.ensures, c.ones-2.ensures)
