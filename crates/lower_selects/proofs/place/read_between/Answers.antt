use Rattle.lower_selects.proofs.Places.{between_reads, between_fails}
use Rattle.lower_selects.proofs.place.read_between.Goals as goal

pub returns-in-Ok : goal.returns-in-Ok
returns-in-Ok c = λ vars h l a b g k.
    between_reads vars c.args.low h l c.range_of-all.result _ c.begin_at.result c.kept.result a b
    c.in-Ok.is (c.range_of-all.ensures _ _ g k) c.begin_at.ensures c.kept.ensures

pub returns-in-Err : goal.returns-in-Err
returns-in-Err c = λ vars h l a b g k.
    between_fails vars c.args.low h l c.range_of-all.result _ a b c.in-Err.is (c.range_of-all.ensures _ _ g k)
