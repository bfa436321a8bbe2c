use Rattle.std.proofs.Common.{ℕ, ◌%◌, ◌^◌, arith, ap, ◌∙◌}
use Rattle.vlog_lexer.specs.Numbers.{free_digit}
use Rattle.vlog_lexer.proofs.NumberLemmas.{free-done, free-on, free-start, left}
use Rattle.vlog_lexer.proofs.number.free_bits.Goals as goal

pub loop-digit-init : goal.loop-digit-init
loop-digit-init c = record {
  small = c.bits_above-bits.ensures.small;
  same = ap (λ (n : ℕ). left (free_digit c.args.base) c.args.base n c.args.digits.now % 2 ^ 128) c.bits_above-bits.ensures.value
      ∙ ap (λ (n : ℕ). n % 2 ^ 128) (free-start c.args.base c.args.digits.now);
}

pub loop-digit-preserved : goal.loop-digit-preserved
loop-digit-preserved c = record {
  small = c.with_free-bits.ensures.small;
  same = free-on c.args.base c.loop-digit.bits c.with_free-bits.result c.args.digits.now c.loop-digit.digit-index _ c.loop-digit-test.true
      c.with_free-bits.ensures.value c.loop-digit.invariant.same;
}

pub returns : goal.returns
returns c = free-done c.args.base c.loop-digit.bits c.args.digits.now c.loop-digit.digit-index _ c.loop-digit.invariant.small (omega arith)
    c.loop-digit.invariant.same
