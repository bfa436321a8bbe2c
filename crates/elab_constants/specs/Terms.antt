-- The value of a term at the size and sign of a context (IEEE 1364-2005, 5.4 and 5.5).
use Rattle.std.specs.Prelude.{ℕ, Bool, if◌then◌else◌, nat_lt, bit_and, bit_or, bit_xor}
use Rattle.bit_values.specs.Values as value
use Rattle.source_meaning.specs.Operators.{quotient, remainder, filled_shift}
use Rattle.elab_constants.specs.declared.term.Arithmetic.{Arithmetic}
use Rattle.elab_constants.specs.declared.term.Arithmetic.TheVariants as arithmetic
use Rattle.elab_constants.specs.declared.term.Shift.{Shift}
use Rattle.elab_constants.specs.declared.term.Shift.TheVariants as shift
use Rattle.elab_constants.specs.declared.term.Term.{Term, Term-F, fold-Term}
use Rattle.elab_constants.specs.declared.term.Term.TheOpen as t

-- a value of a size at another size: extended by the context's sign, or truncated
abbrev pub at_size : ℕ → ℕ → Bool → ℕ → ℕ
at_size size n by_sign x = if nat_lt size n then value.extend size n by_sign x else (if nat_lt n size then value.truncate n x else x)

abbrev pub arithmetic_value : Arithmetic → ℕ → Bool → ℕ → ℕ → ℕ
arithmetic_value arithmetic.Add n by_sign x y = value.add n x y
arithmetic_value arithmetic.Subtract n by_sign x y = value.sub n x y
arithmetic_value arithmetic.Multiply n by_sign x y = value.mul n x y
arithmetic_value arithmetic.Divide n by_sign x y = quotient n by_sign x y
arithmetic_value arithmetic.Remainder n by_sign x y = remainder n by_sign x y
arithmetic_value arithmetic.And n by_sign x y = bit_and x y
arithmetic_value arithmetic.Or n by_sign x y = bit_or x y
arithmetic_value arithmetic.Xor n by_sign x y = bit_xor x y
arithmetic_value arithmetic.Xnor n by_sign x y = value.not n (bit_xor x y)

abbrev pub shift_value : Shift → ℕ → Bool → ℕ → ℕ → ℕ
shift_value shift.Left n by_sign x by = value.shl n x by
shift_value shift.Right n by_sign x by = value.shr x by
shift_value shift.Arithmetic n by_sign x by = filled_shift n by_sign x by

abbrev pub layer_value : ℕ → Bool → Term-F ℕ → ℕ
layer_value n by_sign (t.Number of) = at_size of.width n by_sign of.bits
layer_value n by_sign (t.Negative x) = value.neg n x
layer_value n by_sign (t.Complement x) = value.not n x
layer_value n by_sign (t.Arithmetic op x y) = arithmetic_value op n by_sign x y
layer_value n by_sign (t.Shift op x by) = shift_value op n by_sign x by.bits

-- the value of a term in a context
abbrev pub term_value : ℕ → Bool → Term → ℕ
term_value n by_sign = fold-Term ℕ (layer_value n by_sign)
