use Rattle.std.proofs.Common.{arith}
use Rattle.lower_selects.proofs.Places.{down_reads, down_fails}
use Rattle.lower_selects.proofs.place.read_down.Goals as goal

pub returns-then-low-gt-HIGHEST : goal.returns-then-low-gt-HIGHEST
returns-then-low-gt-HIGHEST c = λ vars i n room g h k. absurd (omega arith)

pub returns-in-Ok : goal.returns-in-Ok
returns-in-Ok c = λ vars i n room g h k.
    down_reads vars c.args.low i n c.args.from c.width_of-width.result c.both-all.result _ _ c.begin.result c.kept.result
    g c.both-all.ensures c.in-Ok.is h (c.width_of-width.ensures _ k) c.begin.ensures c.kept.ensures (omega arith)

pub returns-in-Err : goal.returns-in-Err
returns-in-Err c = λ vars i n room g h k.
    down_fails vars c.args.low i n c.args.from c.width_of-width.result c.both-all.result _
    g c.both-all.ensures c.in-Err.is h (c.width_of-width.ensures _ k)
