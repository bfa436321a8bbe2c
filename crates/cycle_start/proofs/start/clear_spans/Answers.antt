use Rattle.std.proofs.Common.{slice_index_or}
use Rattle.std.proofs.lemmas.List.{get_or_default}
use Rattle.cycle_start.proofs.Clearing.{no_span, next_span}
use Rattle.cycle_start.proofs.start.clear_spans.Goals as goal

pub loop-span-preserved : goal.loop-span-preserved
loop-span-preserved c =
    let spans = c.args.spans.now in
    let i = c.loop-span.span-index in
    let x = slice_index_or spans i no_span in
    next_span c.args.design.now spans i x c.args.state.now c.loop-span.state c.clear_span.new.state c.loop-span-test.true
    (get_or_default spans i no_span x c.loop-span-test.true) c.loop-span.invariant c.clear_span.ensures
