use Rattle.std.proofs.Common.{◌≡◌, ℕ, ◌+◌, ◌-◌, ◌*◌, ◌^◌, ◌∷◌, List, map, drop, get_or, ap, sym, ◌∙◌, arith, add-one}
use Rattle.std.proofs.Math.Nat.{add-mul}
use Rattle.std.proofs.Math.Seq.{drop-cons}
use Rattle.std.specs.List.{list_all}
use Rattle.std.specs.Int.Digits.{number_from_digits_after}
use Rattle.std.proofs.lemmas.Int.Digits.{number_after_ge}
use Rattle.cvd_cursor.specs.Numerals.{is_digit, worth}
use Rattle.cvd_cursor.proofs.Digits.{first_of, worth_small}
use Rattle.cvd_cursor.proofs.numeral.value.Goals as goal

pub returns-then-value-ge-MOST-clause-large : goal.returns-then-value-ge-MOST-clause-large
returns-then-value-ge-MOST-clause-large c =
    let text = c.args.word.now in
    let base = c.args.base in
    let i = c.loop-byte.byte-index in
    let v = c.loop-byte.value in
    let b = get_or text i 0 in
    let rest = drop (i + 1) text in
    let next : drop i text ≡ b ∷ rest = rw add-one (drop-cons text i 0 c.loop-byte-test.true) in
    let small = worth_small base b (first_of (is_digit base b) _ (sym (ap (list_all (is_digit base)) next) ∙ c.loop-byte.invariant.digits)) in
    let whole = sym (ap (λ (l : List ℕ). number_from_digits_after base v (map worth l)) next) ∙ c.loop-byte.invariant.value in
    let least = number_after_ge base (v * base + worth b) (map worth rest) (omega arith) in
    let k = v - 2 ^ 124 in
    let same : v ≡ 2 ^ 124 + k = omega arith in
    let product = ap (λ n. n * base) same ∙ add-mul (2 ^ 124) k base in
    omega arith
