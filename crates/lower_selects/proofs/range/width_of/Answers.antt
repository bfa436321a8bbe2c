use Rattle.source_meaning.specs.Meaning.{fixed_integer}
use Rattle.lower_selects.proofs.Widths.{value_of}
use Rattle.lower_selects.proofs.range.width_of.Goals as goal

pub returns-in-Ok : goal.returns-in-Ok
returns-in-Ok c = λ m h. c.sized.ensures (fixed_integer m) (c.count.ensures m (value_of m c.args.value _ c.in-Ok.is h))
