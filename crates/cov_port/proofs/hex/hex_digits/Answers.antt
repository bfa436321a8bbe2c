use Rattle.std.proofs.Common.{arith, add-one, ◌≡◌, ◌+◌, ◌*◌, ◌^◌, ◌<◌, ◌≤◌, ◌∷◌, ℕ, List, true, Some, None, length, drop, get_or, ap, sym, ◌∙◌}
use Rattle.std.proofs.Math.Seq.{drop-cons}
use Rattle.cov_port.specs.Hexadecimal.{hex_digit, hex_digit_value, hex_value, is_hex_digit}
use Rattle.cov_port.proofs.HexLemmas.{digit_is, hex_digits_more, hex_fit, hex_more, hex_place_more}
use Rattle.cov_port.proofs.hex.hex_digits.Goals as goal

pub loop-byte-preserved : goal.loop-byte-preserved
loop-byte-preserved c =
    let text = c.args.text.now in
    let i = c.loop-byte.byte-index in
    let v = c.loop-byte.value in
    let b = get_or text i 0 in
    let rest = drop (i + 1) text in
    let next : drop i text ≡ b ∷ rest = rw add-one (drop-cons text i 0 c.loop-byte-test.true) in
    let digit = digit_is b c.in-Some.digit (sym c.in-Some.ensures.value) in
    let same : c.from.result ≡ c.in-Some.digit = c.from.ensures in
    record {
      value = ap (λ (n : ℕ). (16 * v + n) * 16 ^ length rest + hex_value rest) same
          ∙ (hex_more v b c.in-Some.digit rest digit.1 ∙ (ap (λ (t : List ℕ). v * 16 ^ length t + hex_value t) (sym next) ∙ c.loop-byte.invariant.value));
      small = hex_place_more v c.from.result i c.loop-byte.invariant.small (omega (arith, same, c.in-Some.ensures.most));
      digits = c.loop-byte.invariant.digits ∙ hex_digits_more text i c.loop-byte-test.true digit.0;
    }

pub overflow_mul-value : goal.overflow_mul-value
overflow_mul-value c =
    let i = c.loop-byte.byte-index in
    record { fits = hex_fit _ (i + 1) (omega (arith, hex_place_more c.loop-byte.value 0 i c.loop-byte.invariant.small (omega arith))) (omega arith) }

pub overflow_add-value : goal.overflow_add-value
overflow_add-value c =
    let i = c.loop-byte.byte-index in
    record {
      fits = hex_fit _ (i + 1)
          (hex_place_more c.loop-byte.value c.from.result i c.loop-byte.invariant.small (omega (arith, c.from.ensures, c.in-Some.ensures.most))) (omega arith);
    }
