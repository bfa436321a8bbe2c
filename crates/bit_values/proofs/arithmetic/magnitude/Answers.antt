use Rattle.std.proofs.Common.{arith, ◌≤◌, ◌-◌, ◌^◌, ◌∙◌}
use Rattle.bit_values.proofs.Widths.{neg_high}
use Rattle.bit_values.proofs.arithmetic.magnitude.Goals as goal

pub returns-then-is_negative : goal.returns-then-is_negative
returns-then-is_negative c =
    let top : 2 ^ (c.args.a.width - 1) ≤ c.args.a.bits = omega arith in
    c.neg.ensures.value ∙ neg_high c.args.a.width c.args.a.bits c.args.a.fits top
