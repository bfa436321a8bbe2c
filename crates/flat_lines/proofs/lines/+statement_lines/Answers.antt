use Rattle.std.proofs.Common.{ap, ◌∙◌}
use Rattle.vlog_tree.specs.declared.statement.StmtKind.{out-StmtKind}
use Rattle.vlog_tree.specs.declared.statement.StmtKind.TheVariants as s
use Rattle.flat_lines.proofs.Direct.{empty_gains, block_gains, loop_gains, single_gains, is_single, more_gains}
use Rattle.flat_lines.proofs.lines.+statement_lines.Goals as goal

pub put_all-loop-part-preserved : goal.put_all-loop-part-preserved
put_all-loop-part-preserved t c =
    more_gains c.args.parts.now c.loop-part.part-index c.part-item.result c.args.lines.now.items c.loop-part.lines.items c.put_lines.new.lines.items
    c.loop-part-test.true c.part-item.is c.loop-part.invariant c.in_ok-put_lines.ensures

pub put_lines-returns-in-Empty : goal.put_lines-returns-in-Empty
put_lines-returns-in-Empty t c = empty_gains c.args.of.now c.args.lines.now.items (ap out-StmtKind c.in-Empty.is ∙ s.outs-Empty)

pub put_lines-returns-in_ok-put_all-in-Block : goal.put_lines-returns-in_ok-put_all-in-Block
put_lines-returns-in_ok-put_all-in-Block t c =
    block_gains c.args.of.now c.in-Block.body c.as_slice.result.now c.in-Block.last c.args.lines.now.items c.put_all.new.lines.items
    (ap out-StmtKind c.in-Block.is ∙ s.outs-Block _ _) c.as_slice.ensures c.in_ok-put_all-in-Block.ensures

pub put_lines-returns-in_ok-put_lines-in-For : goal.put_lines-returns-in_ok-put_lines-in-For
put_lines-returns-in_ok-put_lines-in-For t c =
    loop_gains c.args.of.now c.in-For.name c.in-For.step_name c.in-For.from c.in-For.test c.in-For.step c.in-For.body c.get.result.now
    c.args.lines.now.items c.push.new.self.items c.put_lines.new.lines.items (ap out-StmtKind c.in-For.is ∙ s.outs-For _ _ _ _ _ _) c.get.ensures
    c.in_ok-push-in-For.ensures.items c.in_ok-put_lines-in-For.ensures

pub put_lines-returns-in_ok-push-in_default : goal.put_lines-returns-in_ok-push-in_default
put_lines-returns-in_ok-push-in_default t c =
    let is = is_single c.args.of.now c.in_default.not-Empty c.in_default.not-Block c.in_default.not-For in
    single_gains c.args.of.now c.args.lines.now.items c.push-in_default.new.self.items is.0 is.1 c.in_ok-push-in_default.ensures.items
