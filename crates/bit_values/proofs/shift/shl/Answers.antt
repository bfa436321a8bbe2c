use Rattle.std.proofs.Common.{arith, ◌∙◌, ◌*◌, ◌^◌}
use Rattle.bit_values.proofs.Widths.{mod_wide, shl_out}
use Rattle.bit_values.proofs.shift.shl.Goals as goal

pub returns-then-by-ge128-clause-value : goal.returns-then-by-ge128-clause-value
returns-then-by-ge128-clause-value c = let out = shl_out c.args.a.bits c.args.by.bits c.args.a.width (omega arith) in grind (arith, out)

pub returns-clause-value : goal.returns-clause-value
returns-clause-value c = c.reduced-2.ensures.value ∙ mod_wide (c.args.a.bits * 2 ^ c.args.by.bits) c.args.a.width c.args.a.at_most
