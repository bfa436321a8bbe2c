use Rattle.std.proofs.Common.{◌≡◌, ◌∙◌, ap, sym, subst, ◌+◌, ◌-◌, ◌*◌, ◌^◌, ◌≤◌, inr, arith}
use Rattle.piece_text.proofs.DigitLaws.{one_power_more, power_grows}
use Rattle.piece_text.proofs.digit.digit_count.Goals as goal

pub overflow_mul-power : goal.overflow_mul-power
overflow_mul-power c =
    let k = c.loop-count.count in
    let e : c.loop-count.power * c.args.base ≡ c.args.base ^ k = ap (λ m. m * c.args.base) c.loop-count.invariant.power
    ∙ one_power_more c.args.base k c.loop-count.invariant.some in
    let le : k ≤ c.args.most - 1 = omega arith in
    omega (arith, e, power_grows c.args.base k (c.args.most - 1) c.requires.base le, c.requires.fits)

pub loop-count-preserved : goal.loop-count-preserved
loop-count-preserved c =
    let k = c.loop-count.count in
    let e : c.loop-count.power * c.args.base ≡ c.args.base ^ k = ap (λ m. m * c.args.base) c.loop-count.invariant.power
    ∙ one_power_more c.args.base k c.loop-count.invariant.some in
    let back : k + 1 - 1 ≡ k = omega arith in
    record {
      power = e ∙ ap (λ j. c.args.base ^ j) (sym back);
      least = inr (subst (λ j. c.args.base ^ j ≤ c.args.number) (sym back) (subst (λ m. m ≤ c.args.number) e c.if-number-power.false));
      some = omega arith;
    }
