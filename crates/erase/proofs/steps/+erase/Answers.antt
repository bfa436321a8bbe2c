use Rattle.std.proofs.Common.{◌∙◌, ap, map}
use Rattle.std.specs.Prelude.{flat_map}
use Rattle.counted_circuit.specs.Erased.{erased}
use Rattle.erase.specs.Arms.{arm_without_counts}
use Rattle.erase.proofs.Left as left
use Rattle.erase.proofs.steps.+erase.Goals as goal

pub arm_left-returns : goal.arm_left-returns
arm_left-returns t c = left.arm_left c.args.arm.now.items c.in_ok-items.items c.args.arm.now.body c.in_ok-body.body
    (c.in_ok-items.ensures ∙ c.as_slice.ensures) (c.in_ok-body.ensures ∙ ap (flat_map erased) c.as_slice-2.ensures)

pub step_left-returns-in_ok-no-in-If : goal.step_left-returns-in_ok-no-in-If
step_left-returns-in_ok-no-in-If t c =
    left.if_left c.args.step.now c.in-If.test c.in_ok-test-in-If.test c.in-If.yes c.in_ok-yes-in-If.yes c.in-If.no c.in_ok-no-in-If.no c.in-If.is
    c.in_ok-test-in-If.ensures
    (c.in_ok-yes-in-If.ensures ∙ ap (flat_map erased) c.as_slice-in-If.ensures)
    (c.in_ok-no-in-If.ensures ∙ ap (flat_map erased) c.as_slice-in-If-2.ensures)

pub step_left-returns-in_ok-rest-in-Case : goal.step_left-returns-in_ok-rest-in-Case
step_left-returns-in_ok-rest-in-Case t c =
    left.case_left c.args.step.now c.in-Case.on c.in_ok-on-in-Case.on c.in-Case.arms c.in_ok-arms-in-Case.arms c.in-Case.rest c.in_ok-rest-in-Case.rest
    c.in-Case.is c.in_ok-on-in-Case.ensures
    (c.in_ok-arms-in-Case.ensures ∙ ap (map arm_without_counts) c.as_slice-in-Case.ensures)
    (c.in_ok-rest-in-Case.ensures ∙ ap (flat_map erased) c.as_slice-in-Case-2.ensures)
