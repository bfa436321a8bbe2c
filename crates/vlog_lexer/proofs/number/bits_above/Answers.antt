use Rattle.std.proofs.Common.{arith, sym, ◌∙◌}
use Rattle.vlog_lexer.proofs.NumberLemmas.{first-digit, no-digit}
use Rattle.vlog_lexer.proofs.number.bits_above.Goals as goal

pub returns-then-is_free-clause-value : goal.returns-then-is_free-clause-value
returns-then-is_free-clause-value c =
    sym (first-digit c.args.digits.now c.loop-digit.digit-index _ _ c.loop-digit-test.true c.if-digit-ne95.true (sym c.if-is_free.true
    ∙ c.is_free.ensures) c.loop-digit.invariant)

pub returns-else-is_free-clause-value : goal.returns-else-is_free-clause-value
returns-else-is_free-clause-value c =
    sym (first-digit c.args.digits.now c.loop-digit.digit-index _ _ c.loop-digit-test.true c.if-digit-ne95.true (sym c.if-is_free.false
    ∙ c.is_free.ensures) c.loop-digit.invariant)

pub returns-clause-value : goal.returns-clause-value
returns-clause-value c = no-digit c.args.digits.now c.loop-digit.digit-index _ (omega arith) c.loop-digit.invariant
