use Rattle.lower_selects.proofs.Widths.{value_of}
use Rattle.lower_selects.proofs.range.range_of.Goals as goal

pub returns-in-Ok : goal.returns-in-Ok
returns-in-Ok c = λ m n h k. c.range_with.ensures m n (value_of m c.args.high _ c.in-Ok.is h) k
