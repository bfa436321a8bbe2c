-- How many bits constants say that a select has.
use Rattle.std.proofs.Common.{◌≡◌, ◌∙◌, sym, ap, refl, subst, ℕ, zero, suc, ◌+◌, ◌-◌, ◌≤◌, ◌<◌, Bool, true, false, Result, Ok, Err, arith, rules}
use Rattle.std.proofs.Common.{ℤ, pos, negsuc, ◌+ℤ◌, ◌-ℤ◌, ◌≤ℤ◌, int_le}
use Rattle.std.specs.Prelude.{nat_le}
use Rattle.std.proofs.lemmas.Bool.{leb-true, leb-false}
use Rattle.std.proofs.lemmas.Int.{ints}
use Rattle.source_meaning.specs.Meaning.{Meaning, at_least_0}
use Rattle.elab_constants.specs.declared.fault.ConstantFault.{ConstantFault}
use Rattle.flat_constants.specs.declared.span.Span.{Span}
use Rattle.flat_constants.specs.declared.span.Span.TheVariants as span
use Rattle.flat_constants.specs.declared.value.FixedValue.{FixedValue}
use Rattle.flat_constants.specs.Spans.{IsSpan}
use Rattle.flat_constants.specs.Values.{IsValue, GivesValue}
use Rattle.lower_nodes.specs.declared.fault.ExpressionFault.{ExpressionFault}
use Rattle.lower_nodes.specs.declared.fault.ExpressionFault.TheVariants.{BadSelect, WidthPast128, NoMemory}
use Rattle.lower_nodes.proofs.Flags.{other_fault}
use Rattle.lower_selects.specs.declared.width.Width.{Width}
use Rattle.lower_selects.specs.Places.{GivesWidth, GivesRange, IsRange, numbers}
use Rattle.lower_selects.specs.Widths.{IsWidth, beside}

at_least_1 : (k : ℕ) → 1 ≤ k → int_le (pos 1) (pos k) ≡ true
at_least_1 k h = search (rules)

within : (k : ℕ) → k ≤ 128 → nat_le k 128 ≡ true
within k h = grind (arith)

past : (k : ℕ) → 129 ≤ k → nat_le k 128 ≡ false
past k h = grind (arith)

-- ---- widths

pub below : (z : ℤ) (s : Span) → s ≡ span.Below1 → IsSpan z s → GivesWidth z (Err BadSelect)
below z s i h = let P : Span → Type 0 = IsSpan z in subst P i h

bits : (z : ℤ) (k : ℕ) (r : Result Width ExpressionFault) → IsSpan z (span.Bits k) → IsWidth k r → GivesWidth z r
bits z k (Ok w) h e =
    (ap (int_le (pos 1)) h.0 ∙ at_least_1 k h.1, ap (λ y. nat_le (at_least_0 y) 128) h.0 ∙ within k h.2, h.0 ∙ ap pos (sym e))
bits z k (Err f) h e = absurd (e h.1 h.2)

pub some : (z : ℤ) (s : Span) (k : ℕ) (r : Result Width ExpressionFault) → s ≡ span.Bits k → IsSpan z s → IsWidth k r → GivesWidth z r
some z s k r i h e = let P : Span → Type 0 = IsSpan z in bits z k r (subst P i h) e

many : (z : ℤ) → IsSpan z span.Past128 → GivesWidth z (Err WidthPast128)
many z h = (ap (int_le (pos 1)) h.1 ∙ at_least_1 h.0 (has_one h.0 h.2), ap (λ y. nat_le (at_least_0 y) 128) h.1 ∙ past h.0 h.2)
  where
    has_one : (k : ℕ) → 129 ≤ k → 1 ≤ k
    has_one k h = omega arith

pub above : (z : ℤ) (s : Span) → s ≡ span.Past128 → IsSpan z s → GivesWidth z (Err WidthPast128)
above z s i h = let P : Span → Type 0 = IsSpan z in many z (subst P i h)

-- the value that was read
pub value_of : (m : Meaning) (y : Result FixedValue ConstantFault) (v : FixedValue) → y ≡ Ok v → GivesValue m y → IsValue m v
value_of m y v i h = let P : Result FixedValue ConstantFault → Type 0 = GivesValue m in subst P i h

-- ---- ranges

pub range_gives : (high low : Meaning) (w : Result Width ExpressionFault) (from : FixedValue) (r : Result (Width × FixedValue) ExpressionFault)
    → r ≡ beside w from → GivesWidth (numbers high low) w → IsValue low from → GivesRange high low r
range_gives high low (Ok w) from r i h k =
    let P : Result (Width × FixedValue) ExpressionFault → Type 0 = GivesRange high low in
    subst P (sym i) (h.0, h.1, record { width = h.2; value = k })
range_gives high low (Err f) from r i h k =
    let P : Result (Width × FixedValue) ExpressionFault → Type 0 = GivesRange high low in
    let n = numbers high low in
    subst P (sym i) (other_fault (λ (w : Width). n ≡ pos w.bits) (IsRange high low) (int_le (pos 1) n) (nat_le (at_least_0 n) 128) f h)

-- no more than 0 is below 1
below_1 : (z : ℤ) → z ≤ℤ pos 0 → int_le (pos 1) z ≡ false
below_1 (pos n) h = let e : n ≡ 0 = omega (arith, ints) in ap (λ k. int_le (pos 1) (pos k)) e
below_1 (negsuc n) h = refl

up_from : (low high : ℕ) → low ≤ high → ((pos high -ℤ pos low) +ℤ pos 1) ≡ pos ((high - low) + 1)
up_from low high h = omega (arith, ints)

none_up : (low high : ℕ) → high < low → ((pos high -ℤ pos low) +ℤ pos 1) ≤ℤ pos 0
none_up low high h = omega (arith, ints)

over_zero : (low high : ℕ) → ((pos high -ℤ negsuc low) +ℤ pos 1) ≡ pos ((high + low) + 2)
over_zero low high = omega (arith, ints)

none_down : (low high : ℕ) → ((negsuc high -ℤ pos low) +ℤ pos 1) ≤ℤ pos 0
none_down low high = omega (arith, ints)

exchanged : (high low : ℕ) → ((negsuc high -ℤ negsuc low) +ℤ pos 1) ≡ ((pos low -ℤ pos high) +ℤ pos 1)
exchanged high low = omega (arith, ints)

-- one number is no more than another exactly where there is one from it up to the other
order_up : (a b : ℕ) (t : Bool) → nat_le b a ≡ t → nat_le b a ≡ int_le (pos 1) ((pos a -ℤ pos b) +ℤ pos 1)
order_up a b true e =
    let h : b ≤ a = leb-true b a e in
    e ∙ sym (ap (int_le (pos 1)) (up_from b a h) ∙ at_least_1 ((a - b) + 1) (omega arith))
order_up a b false e = let h : a < b = leb-false b a e in e ∙ sym (below_1 ((pos a -ℤ pos b) +ℤ pos 1) (none_up b a h))

order_over : (a b : ℕ) → true ≡ int_le (pos 1) ((pos a -ℤ negsuc b) +ℤ pos 1)
order_over a b = sym (ap (int_le (pos 1)) (over_zero b a) ∙ at_least_1 ((a + b) + 2) (omega arith))

order_down : (a b : ℕ) → false ≡ int_le (pos 1) ((negsuc a -ℤ pos b) +ℤ pos 1)
order_down a b = sym (below_1 ((negsuc a -ℤ pos b) +ℤ pos 1) (none_down b a))

pub order_is : (high low : ℤ) → int_le low high ≡ int_le (pos 1) ((high -ℤ low) +ℤ pos 1)
order_is (pos a) (pos b) = order_up a b (nat_le b a) refl
order_is (pos a) (negsuc b) = order_over a b
order_is (negsuc a) (pos b) = order_down a b
order_is (negsuc a) (negsuc b) = order_up b a (nat_le a b) refl ∙ ap (int_le (pos 1)) (sym (exchanged a b))
