use Rattle.std.proofs.Common.{ap, ◌∙◌, refl}
use Rattle.vlog_tree.specs.declared.statement.StmtKind.{out-StmtKind}
use Rattle.vlog_tree.specs.declared.statement.StmtKind.TheVariants as s
use Rattle.flat_lines.proofs.Stopping.{stop_stops, block_stops, loop_stops, one_stops, one_goes_on, none_stops, other_goes_on}
use Rattle.flat_lines.proofs.stop.+statement_stops.Goals as goal

pub any_stops-returns-then-has_stop : goal.any_stops-returns-then-has_stop
any_stops-returns-then-has_stop t c = (
  λ h. refl,
  λ is. one_stops c.args.parts.now c.loop-part.part-index c.part-item.result c.loop-part-test.true c.part-item.is
      (c.has_stop.ensures.1 c.if-has_stop.true),
)

pub any_stops-loop-part-preserved : goal.any_stops-loop-part-preserved
any_stops-loop-part-preserved t c =
    one_goes_on c.args.parts.now c.loop-part.part-index c.part-item.result c.has_stop.result c.loop-part-test.true c.part-item.is c.if-has_stop.false
    c.has_stop.ensures c.loop-part.invariant

pub any_stops-returns : goal.any_stops-returns
any_stops-returns t c = none_stops c.args.parts.now c.loop-part.part-index c.loop-part-test.false c.loop-part.invariant

pub has_stop-returns-in-Stop : goal.has_stop-returns-in-Stop
has_stop-returns-in-Stop t c = stop_stops c.args.of.now (ap out-StmtKind c.in-Stop.is ∙ s.outs-Stop)

pub has_stop-returns-in-Block : goal.has_stop-returns-in-Block
has_stop-returns-in-Block t c =
    block_stops c.args.of.now c.in-Block.body c.as_slice.result.now c.in-Block.last c.any_stops.result (ap out-StmtKind c.in-Block.is ∙ s.outs-Block _ _)
    c.as_slice.ensures c.any_stops.ensures

pub has_stop-returns-in-For : goal.has_stop-returns-in-For
has_stop-returns-in-For t c =
    loop_stops c.args.of.now c.in-For.name c.in-For.step_name c.in-For.from c.in-For.test c.in-For.step c.in-For.body c.get.result.now c.has_stop.result
    (ap out-StmtKind c.in-For.is ∙ s.outs-For _ _ _ _ _ _) c.get.ensures c.has_stop.ensures

pub has_stop-returns-in_default : goal.has_stop-returns-in_default
has_stop-returns-in_default t c = other_goes_on c.args.of.now c.in_default.not-Stop c.in_default.not-Block c.in_default.not-For
