use Rattle.std.proofs.Common.{refl}
use Rattle.arm_rows.proofs.StepRows as steps
use Rattle.arm_rows.proofs.Whole as whole
use Rattle.arm_rows.proofs.design.put_process.Goals as goal

pub returns-in_default : goal.returns-in_default
returns-in_default c =
    whole.adds_body c.args.process.now c.args.rows.now c.put_steps.new.rows c.args.process.now.kind refl c.in_default.not-Assign c.in_default.not-Cover
    c.len-number.result c.push-in_default.new.self c.len-number.ensures c.in_ok-push-in_default.ensures.ok
    (steps.of_steps c.as_slice.result.now c.args.process.now.body c.len-number.result c.push-in_default.new.self c.put_steps.new.rows c.as_slice.ensures
    c.in_ok-put_steps-in_default.ensures)
