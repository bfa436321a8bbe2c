use Rattle.std.proofs.Common.{arith}
use Rattle.bit_values.proofs.Widths.{shr_out}
use Rattle.bit_values.proofs.shift.shr.Goals as goal

pub returns-then-by-ge128-clause-value : goal.returns-then-by-ge128-clause-value
returns-then-by-ge128-clause-value c = let out = shr_out c.args.a.bits c.args.by.bits c.args.a.width c.args.a.fits (omega arith) in grind (arith, out)
