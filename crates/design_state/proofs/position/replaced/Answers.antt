use Rattle.std.proofs.Common.{arith}
use Rattle.design_state.proofs.Places.{replace_past, replace_before}
use Rattle.design_state.proofs.position.replaced.Goals as goal

pub returns-then-at-from-clause-value : goal.returns-then-at-from-clause-value
returns-then-at-from-clause-value c = rw c.in-At.is
    (replace_past c.args.word.width c.args.word.bits c.in-At.at c.args.part.width c.args.part.bits c.args.word.fits (omega (arith, c.if-at-from.true)))

pub returns-then-before-ge127-clause-value : goal.returns-then-before-ge127-clause-value
returns-then-before-ge127-clause-value c = rw c.in-Before.is
    (replace_before c.args.word.width c.args.word.bits c.in-Before.before c.args.part.width c.args.part.bits c.args.word.fits c.args.part.at_most
    c.if-before-ge127.true)
