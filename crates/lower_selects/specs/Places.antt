-- What reading a select gives: how many bits it has and where the lowest is, or the first thing that is refused in it.
use Rattle.std.specs.Prelude.{◌≡◌, ◌+◌, ◌-◌, ℕ, nat_le, Bool, true, ◌&&◌, List, Result, ℤ, pos, int_le, ◌+ℤ◌, ◌-ℤ◌}
use Rattle.elab_types.specs.declared.flat_source.FlatVar.{FlatVar}
use Rattle.elab_types.specs.declared.flat_expression.FlatSelect.{FlatSelect}
use Rattle.design_tree.specs.declared.typed.Typed.TheVariants as t
use Rattle.source_meaning.specs.Meaning.{Meaning, fixed_integer, at_least_0}
use Rattle.source_meaning.specs.Selects.{width_of}
use Rattle.flat_meaning.specs.Faults.{has_bits}
use Rattle.flat_meaning.proofs.Meanings.{selection_of}
use Rattle.flat_constants.specs.declared.value.FixedValue.{FixedValue}
use Rattle.flat_constants.specs.Values.{IsValue}
use Rattle.typed_form.specs.TypedExpressions.{IsPosition, index}
use Rattle.lower_meaning.proofs.CheckFolds.{check_select}
use Rattle.lower_forms.specs.declared.sized.SizedForm.{SizedForm}
use Rattle.lower_nodes.specs.declared.fault.ExpressionFault.{ExpressionFault}
use Rattle.lower_nodes.specs.Operators.{own}
use Rattle.lower_nodes.specs.Reads.{Gives}
use Rattle.lower_selects.specs.declared.width.Width.{Width}
use Rattle.lower_selects.specs.declared.position.Position.{Position}

-- as many bits as an integer says: at least 1, and no more than 128
abbrev pub GivesWidth : ℤ → Result Width ExpressionFault → Type 0
GivesWidth z = Gives (int_le (pos 1) z) (nat_le (at_least_0 z) 128) (λ w. z ≡ pos w.bits)

-- how many numbers there are from one constant up to another
abbrev pub numbers : Meaning → Meaning → ℤ
numbers high low = (fixed_integer high -ℤ fixed_integer low) +ℤ pos 1

-- that many bits, and the lower constant
pub record IsRange (high low : Meaning) (p : Width × FixedValue) : Type 0 where
  pub width : numbers high low ≡ pos p.0.bits
  pub value : IsValue low p.1

abbrev pub GivesRange : Meaning → Meaning → Result (Width × FixedValue) ExpressionFault → Type 0
GivesRange high low = Gives (int_le (pos 1) (numbers high low)) (nat_le (at_least_0 (numbers high low)) 128) (IsRange high low)

-- so many bits from what an expression says on
pub record Begins (low bits : ℕ) (of : SizedForm) (p : Position) : Type 0 where
  pub width : p.width.bits ≡ bits
  pub at : p.at ≡ index low of.signed (own of)

-- so many bits from a number on
pub record BeginsAt (low bits : ℕ) (from : FixedValue) (p : Position) : Type 0 where
  pub width : p.width.bits ≡ bits
  pub at : p.at ≡ index low from.signed (t.Number from.value.width from.value.bits)

-- its width and its position, where the lowest bit of all has a declared number
pub record IsPlace (vars : List FlatVar) (low : ℕ) (s : FlatSelect) (p : Position) : Type 0 where
  pub width : p.width.bits ≡ width_of (selection_of vars s)
  pub place : IsPosition vars low s p.width.bits p.at

-- it can be and has bits, and no size is past 128
abbrev pub Places : List FlatVar → ℕ → FlatSelect → Result Position ExpressionFault → Type 0
Places vars low s =
    let c = check_select vars s in
    Gives (c.selects && has_bits c.selection) (c.sizes && nat_le (width_of c.selection) 128) (IsPlace vars low s)
