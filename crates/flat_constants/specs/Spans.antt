-- How many bits or copies an integer says that there are.
use Rattle.std.specs.Prelude.{◌≡◌, ◌≤◌, ℕ, Bool, true, false, ℤ, pos, negsuc, int_le}
use Rattle.flat_constants.specs.declared.span.Span.{Span}
use Rattle.flat_constants.specs.declared.span.Span.TheVariants as span

-- an integer from whether it is below 0
abbrev pub integer_of : Bool → ℕ → ℤ
integer_of true n = negsuc n
integer_of false n = pos n

-- below 1, from 1 to 128, or above 128
abbrev pub IsSpan : ℤ → Span → Type 0
IsSpan z span.Below1 = int_le (pos 1) z ≡ false
IsSpan z (span.Bits k) = (z ≡ pos k) × (1 ≤ k) × (k ≤ 128)
IsSpan z span.Past128 = (k : ℕ) × (z ≡ pos k) × (129 ≤ k)
