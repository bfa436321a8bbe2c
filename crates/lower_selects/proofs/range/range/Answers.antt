use Rattle.lower_selects.specs.Places.{numbers}
use Rattle.lower_selects.proofs.Widths.{range_gives}
use Rattle.lower_selects.proofs.range.range.Goals as goal

pub returns : goal.returns
returns c = λ m n h k.
    range_gives m n c.sized.result c.args.low c.beside.result c.beside.ensures (c.sized.ensures (numbers m n) (c.distance.ensures m n h k)) k
