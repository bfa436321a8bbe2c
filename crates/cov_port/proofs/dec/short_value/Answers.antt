use Rattle.std.proofs.Common.{arith, add-one, ◌≡◌, ◌+◌, ◌*◌, ◌^◌, ◌≤◌, ◌∷◌, ℕ, List, length, drop, get_or, ap, sym, ◌∙◌}
use Rattle.std.proofs.Math.Seq.{drop-cons}
use Rattle.cov_port.specs.Decimal.{value_of}
use Rattle.cov_port.proofs.DecimalLemmas.{digit_more, place_more, nineteen_fit, digits_more}
use Rattle.cov_port.proofs.dec.short_value.Goals as goal

pub loop-byte-preserved : goal.loop-byte-preserved
loop-byte-preserved c =
    let text = c.args.text.now in
    let i = c.loop-byte.byte-index in
    let v = c.loop-byte.value in
    let b = get_or text i 0 in
    let rest = drop (i + 1) text in
    let next : drop i text ≡ b ∷ rest = rw add-one (drop-cons text i 0 c.loop-byte-test.true) in
    let nine : c.from.result ≤ 9 = omega (arith, c.is_digit.ensures.high (c.if-not-is_digit.false)) in
    record {
      value = ap (λ (n : ℕ). (10 * v + n) * 10 ^ length rest + value_of rest) c.from.ensures
          ∙ (digit_more v b rest ∙ (ap (λ (t : List ℕ). v * 10 ^ length t + value_of t) (sym next) ∙ c.loop-byte.invariant.value));
      small = place_more v c.from.result i c.loop-byte.invariant.small nine;
      digits = c.loop-byte.invariant.digits ∙ digits_more text i c.loop-byte-test.true (sym c.is_digit.ensures.test ∙ c.if-not-is_digit.false);
    }

pub overflow_mul-value : goal.overflow_mul-value
overflow_mul-value c =
    let i = c.loop-byte.byte-index in
    record { fits = nineteen_fit _ (i + 1) (omega (arith, place_more c.loop-byte.value 0 i c.loop-byte.invariant.small (omega arith))) (omega arith) }

pub overflow_add-value : goal.overflow_add-value
overflow_add-value c =
    let i = c.loop-byte.byte-index in
    let nine : c.from.result ≤ 9 = omega (arith, c.is_digit.ensures.high (c.if-not-is_digit.false)) in
    record { fits = nineteen_fit _ (i + 1) (place_more c.loop-byte.value c.from.result i c.loop-byte.invariant.small nine) (omega arith) }
