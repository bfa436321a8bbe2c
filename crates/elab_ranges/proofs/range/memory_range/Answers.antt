use Rattle.elab_ranges.proofs.Ranges.{memory_fails, memory_reads}
use Rattle.elab_ranges.proofs.range.memory_range.Goals as goal

pub returns-in-Ok : goal.returns-in-Ok
returns-in-Ok g c = λ known here.
    memory_reads known c.args.range.now c.read_bound-high.result c.read_bound-low.result c.both_bounds-all.result _ c.words_between.result
    c.both_bounds-all.ensures c.in-Ok.is
    c.words_between.ensures (c.read_bound-high.ensures known here) (c.read_bound-low.ensures known here)

pub returns-in-Err : goal.returns-in-Err
returns-in-Err g c = λ known here.
    memory_fails known c.args.range.now c.read_bound-high.result c.read_bound-low.result c.both_bounds-all.result _ c.both_bounds-all.ensures c.in-Err.is
    (c.read_bound-high.ensures known here) (c.read_bound-low.ensures known here)
