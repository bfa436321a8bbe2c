use Rattle.std.proofs.Common.{arith, ◌≤◌, ◌-◌, ◌^◌}
use Rattle.bit_values.proofs.Widths.{extend_high}
use Rattle.bit_values.proofs.size.extend.Goals as goal

pub returns-then-is_negative-clause-value : goal.returns-then-is_negative-clause-value
returns-then-is_negative-clause-value c =
    let top : 2 ^ (c.args.a.width - 1) ≤ c.args.a.bits = omega arith in
    let filled = extend_high c.args.a.width c.args.width c.args.a.bits c.args.a.fits c.requires.at_least top in
    grind (arith, filled)
