use Rattle.std.proofs.Common.{arith, ◌≤◌, ◌-◌, ◌^◌}
use Rattle.bit_values.proofs.Widths.{sar_high}
use Rattle.bit_values.proofs.shift.sar.Goals as goal

pub returns-then-is_negative-clause-value : goal.returns-then-is_negative-clause-value
returns-then-is_negative-clause-value c =
    let top : 2 ^ (c.args.a.width - 1) ≤ c.args.a.bits = omega arith in
    let filled = sar_high c.args.a.width c.args.a.bits c.args.by.bits c.args.a.fits top in
    grind (arith, filled)
