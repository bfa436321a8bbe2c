use Rattle.std.proofs.Common.{arith}
use Rattle.design_state.proofs.Places.{below_fits}
use Rattle.design_state.proofs.position.position_of.Goals as goal

pub overflow_add-result : goal.overflow_add-result
overflow_add-result c =
    let low = c.from-low.result in
    omega (
      arith,
      c.not-below.ensures.value,
      below_fits c.args.value.width c.args.value.bits low c.args.value.at_least c.args.value.at_most (c.is_negative.ensures.0 c.if-is_negative.true)
          (omega (arith, c.from-low.ensures, c.ranges.low)),
    )
