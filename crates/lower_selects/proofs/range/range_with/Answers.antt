use Rattle.lower_selects.proofs.Widths.{value_of}
use Rattle.lower_selects.proofs.range.range_with.Goals as goal

pub returns-in-Ok : goal.returns-in-Ok
returns-in-Ok c = λ m n h k. c.range.ensures m n h (value_of n c.args.low _ c.in-Ok.is k)
