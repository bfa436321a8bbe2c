use Rattle.flat_kept.proofs.Steps.{is_clock, is_loop}
use Rattle.flat_kept.proofs.kept.put_kept.Goals as goal

pub returns-then-is_clock : goal.returns-then-is_clock
returns-then-is_clock c =
    is_clock c.args.apart.clocks.now c.args.apart.loops.now c.args.var _ c.as_slice-name.result.now c.contains-is_clock.result c.as_slice-name.ensures
    c.contains-is_clock.ensures c.if-is_clock.true

pub returns-then-is_loop : goal.returns-then-is_loop
returns-then-is_loop c =
    is_loop c.args.apart.clocks.now c.args.apart.loops.now c.args.var _ c.as_slice-name.result.now c.contains-is_loop.result c.as_slice-name.ensures
    c.contains-is_loop.ensures c.if-is_loop.true
