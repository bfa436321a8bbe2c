use Rattle.std.proofs.Common.{◌≡◌, ◌∙◌, ap, sym, subst, ℕ, ◌+◌, ◌-◌, ◌/◌, ◌%◌, ◌^◌, ◌<◌, ◌∷◌, [], ◌++◌, append_assoc, arith}
use Rattle.std.proofs.lemmas.Grind.{common_steps}
use Rattle.circuit_run.specs.Digits.{digit, digits}
use Rattle.piece_text.proofs.DigitLaws.{next_digit, base_pos, one_power_less}
use Rattle.piece_text.proofs.digit.put_digits.Goals as goal

pub nonzero_div-number : goal.nonzero_div-number
nonzero_div-number c =
    let p = c.loop-above.invariant.power c.loop-above-test.true in
    subst (λ m. 0 < m) (sym p) (base_pos c.args.base (c.args.count - 1 - c.loop-above.above) c.requires.base)

pub loop-above-preserved : goal.loop-above-preserved
loop-above-preserved c =
    let base = c.args.base in
    let n = c.args.number in
    let done = c.loop-above.above in
    let left : ℕ = c.args.count - 1 - done in
    let p = c.loop-above.invariant.power c.loop-above-test.true in
    let here : c.args.count - done ≡ left + 1 = omega arith in
    let next : c.args.count - (done + 1) ≡ left = omega arith in
    let d : c.digit_of.result ≡ digit (n / base ^ left % base) = c.digit_of.ensures ∙ ap (λ m. digit (n / m % base)) p in
    record {
      items = c.put.ensures.items ∙ ap (λ xs. xs ++ c.digit_of.result ∷ []) (c.loop-above.invariant.items
          ∙ ap (λ k. c.args.out.now.items ++ digits base done (n / base ^ k)) here)
          ∙ ap (λ x. (c.args.out.now.items ++ digits base done (n / base ^ (left + 1))) ++ x ∷ []) d
          ∙ append_assoc c.args.out.now.items (digits base done (n / base ^ (left + 1))) (digit (n / base ^ left % base) ∷ [])
          ∙ ap (λ l. c.args.out.now.items ++ l) (sym (next_digit base done left n) ∙ ap (λ k. digits base (done + 1) (n / base ^ k)) (sym next));
      power = λ lt.
          let more : left ≡ (c.args.count - 1 - (done + 1)) + 1 = omega (arith, lt) in
          ap (λ m. m / base) (p ∙ ap (λ k. base ^ k) more) ∙ one_power_less base (c.args.count - 1 - (done + 1)) c.requires.base;
      room = grind (arith, common_steps, c.loop-above.invariant.room);
      capacity = omega (arith, c.loop-above.invariant.capacity, c.put.ensures.capacity);
    }
