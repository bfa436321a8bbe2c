-- Numbers of bits.
use Rattle.std.specs.Prelude.{◌≡◌, ◌≤◌, ℕ, Result, Ok, Err}
use Rattle.source_meaning.specs.Meaning.{Meaning}
use Rattle.flat_constants.specs.declared.value.FixedValue.{FixedValue}
use Rattle.flat_constants.specs.Values.{IsValue}
use Rattle.lower_nodes.specs.declared.fault.ExpressionFault.{ExpressionFault}
use Rattle.lower_selects.specs.declared.width.Width.{Width}
use Rattle.lower_selects.specs.Places.{GivesRange}

-- so many bits, where that is from 1 to 128
abbrev pub IsWidth : ℕ → Result Width ExpressionFault → Type 0
IsWidth bits (Ok w) = w.bits ≡ bits
IsWidth bits (Err f) = 1 ≤ bits → bits ≤ 128 → ⊥

-- a width beside a constant
abbrev pub beside : Result Width ExpressionFault → FixedValue → Result (Width × FixedValue) ExpressionFault
beside (Ok w) low = Ok (w, low)
beside (Err f) low = Err f

-- from one value up to another
abbrev pub IsRangeOf : FixedValue → FixedValue → Result (Width × FixedValue) ExpressionFault → Type 0
IsRangeOf high low r = (m n : Meaning) → IsValue m high → IsValue n low → GivesRange m n r
