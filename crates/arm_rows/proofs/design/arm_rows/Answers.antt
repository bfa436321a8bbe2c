use Rattle.arm_rows.proofs.Whole as whole
use Rattle.arm_rows.proofs.design.arm_rows.Goals as goal

pub loop-process-preserved : goal.loop-process-preserved
loop-process-preserved c =
    whole.next_process c.args.design.now.processes c.as_slice-process-items.result.now c.loop-process.process-index c.process-item.result c.loop-process.rows
    c.put_process.new.rows c.as_slice-process-items.ensures c.loop-process-test.true c.process-item.is c.loop-process.invariant c.in_ok-put_process.ensures

pub returns : goal.returns
returns c =
    whole.finished c.args.design.now c.as_slice-process-items.result.now c.loop-process.process-index c.loop-process.rows c.as_slice-process-items.ensures
    c.loop-process-test.false c.loop-process.invariant
