use Rattle.lower_selects.proofs.Places.{up_reads, up_fails}
use Rattle.lower_selects.proofs.place.read_up.Goals as goal

pub returns-in-Ok : goal.returns-in-Ok
returns-in-Ok c = λ vars i n g h k.
    up_reads vars c.args.low i n c.args.from c.width_of-width.result c.both-all.result _ c.begin.result c.kept.result
    g c.both-all.ensures c.in-Ok.is h (c.width_of-width.ensures _ k) c.begin.ensures c.kept.ensures

pub returns-in-Err : goal.returns-in-Err
returns-in-Err c = λ vars i n g h k.
    up_fails vars c.args.low i n c.args.from c.width_of-width.result c.both-all.result _
    g c.both-all.ensures c.in-Err.is h (c.width_of-width.ensures _ k)
