use Rattle.lower_selects.proofs.Objects.{part_reads, part_fails}
use Rattle.lower_selects.proofs.object.read_part.Goals as goal

pub returns-in-Ok : goal.returns-in-Ok
returns-in-Ok c = λ vars v s h sound vector g.
    part_reads vars c.args.var v s c.args.place _ c.part.result c.kept.result h sound vector c.in-Ok.is g c.part.ensures c.kept.ensures

pub returns-in-Err : goal.returns-in-Err
returns-in-Err c = λ vars v s h sound vector g. part_fails vars c.args.var v s c.args.place _ h sound vector c.in-Err.is g
