use Rattle.std.proofs.Common.{◌∙◌, arith}
use Rattle.design_state.proofs.Places.{select_past, select_before, select_up}
use Rattle.design_state.proofs.position.selected.Goals as goal

pub returns-then-at-ge128-clause-value : goal.returns-then-at-ge128-clause-value
returns-then-at-ge128-clause-value c = rw c.in-At.is (c.low_bits.ensures.value
    ∙ select_past c.args.width c.args.of.bits c.in-At.at (omega arith) c.if-at-ge128.true)

pub returns-then-before-ge127-clause-value : goal.returns-then-before-ge127-clause-value
returns-then-before-ge127-clause-value c = rw c.in-Before.is (c.low_bits-then-before-ge127.ensures.value
    ∙ select_before c.args.width c.args.of.bits c.in-Before.before c.requires.most c.if-before-ge127.true)

pub returns-in-Before-clause-value : goal.returns-in-Before-clause-value
returns-in-Before-clause-value c = rw c.in-Before.is (c.low_bits-in-Before.ensures.value
    ∙ select_up c.args.width c.args.of.bits c.in-Before.before c.requires.most)
