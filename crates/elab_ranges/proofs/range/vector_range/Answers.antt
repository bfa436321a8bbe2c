use Rattle.elab_ranges.proofs.Ranges.{vector_fails, vector_reads}
use Rattle.elab_ranges.proofs.range.vector_range.Goals as goal

pub returns-in-Ok-clause-value : goal.returns-in-Ok-clause-value
returns-in-Ok-clause-value g c = λ known here.
    vector_reads known c.args.range.now c.read_bound-high.result c.read_bound-low.result c.both_bounds-all.result _ c.between.result
    c.both_bounds-all.ensures c.in-Ok.is
    c.between.ensures.value (c.read_bound-high.ensures known here) (c.read_bound-low.ensures known here)

pub returns-in-Err-clause-value : goal.returns-in-Err-clause-value
returns-in-Err-clause-value g c = λ known here.
    vector_fails known c.args.range.now c.read_bound-high.result c.read_bound-low.result c.both_bounds-all.result _ c.both_bounds-all.ensures c.in-Err.is
    (c.read_bound-high.ensures known here) (c.read_bound-low.ensures known here)
