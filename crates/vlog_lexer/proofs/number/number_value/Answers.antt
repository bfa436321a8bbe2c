use Rattle.std.proofs.Common.{arith}
use Rattle.vlog_lexer.proofs.NumberLemmas.{value-done, value-on, value-start, value-stop}
use Rattle.vlog_lexer.proofs.number.number_value.Goals as goal

pub loop-digit-init : goal.loop-digit-init
loop-digit-init c = record { small = omega arith; same = value-start c.args.base c.args.digits.now }

pub returns-in-None : goal.returns-in-None
returns-in-None c =
    value-stop c.args.base c.loop-digit.value c.args.digits.now c.loop-digit.digit-index _ c.requires c.loop-digit-test.true c.in-None.ensures.value
    c.loop-digit.invariant.same

pub loop-digit-preserved : goal.loop-digit-preserved
loop-digit-preserved c = record {
  small = c.in-Some.ensures.small;
  same = value-on c.args.base c.loop-digit.value c.in-Some.more c.args.digits.now c.loop-digit.digit-index _ c.loop-digit-test.true c.in-Some.ensures.value
      c.loop-digit.invariant.same;
}

pub returns : goal.returns
returns c = value-done c.args.base c.loop-digit.value c.args.digits.now c.loop-digit.digit-index _ c.loop-digit.invariant.small (omega arith)
    c.loop-digit.invariant.same
