-- A value repeated once, and once more.
use Rattle.std.proofs.Common.{◌≡◌, ◌∙◌, sym, ap, refl, ℕ, suc, ◌+◌, ◌*◌, ◌^◌, add-one, arith}
use Rattle.bit_values.specs.Values as value
use Rattle.design_meaning.specs.Values.{repeated}

next : (w n k : ℕ) → repeated w n (suc k) ≡ value.concat w (repeated w n k) n
unfolding repeated
next w n k = refl

none : (w n : ℕ) → repeated w n 0 ≡ 0
unfolding repeated
none w n = refl

pub repeated_once : (w n : ℕ) → n ≡ repeated w n 1
repeated_once w n = sym (next w n 0 ∙ ap (λ k. value.concat w k n) (none w n) ∙ below (2 ^ w))
  where
    below : (m : ℕ) → 0 * m + n ≡ n
    below m = omega arith

pub repeated_more : (w n k : ℕ) → value.concat w (repeated w n k) n ≡ repeated w n (k + 1)
repeated_more w n k = sym (ap (repeated w n) (add-one k) ∙ next w n k)
