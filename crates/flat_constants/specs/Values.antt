-- The value of a part that has to be a constant.
use Rattle.std.specs.Prelude.{◌≡◌, false, Result, Ok, Err}
use Rattle.vlog_tree.specs.declared.expression.Expr.{Expr}
use Rattle.source_meaning.specs.Meaning.{Meaning, fixed_value}
use Rattle.scope_meaning.specs.Constants.{read, is_wrong}
use Rattle.lower_meaning.specs.Constants.{nameless}
use Rattle.elab_constants.specs.declared.sized.SizedTerm.{SizedTerm}
use Rattle.elab_constants.specs.Sized.{IsSized}
use Rattle.elab_constants.specs.declared.fault.ConstantFault.{ConstantFault}
use Rattle.elab_constants.specs.declared.fault.ConstantFault.TheVariants as fault
use Rattle.flat_constants.specs.declared.value.FixedValue.{FixedValue}

-- it has the size, sign and value that an expression has by itself
pub record IsValue (m : Meaning) (v : FixedValue) : Type 0 where
  pub width : v.value.width ≡ m.size
  pub signed : v.signed ≡ m.signed
  pub number : v.value.bits ≡ fixed_value m

-- that value, or want of memory
abbrev pub GivesValue : Meaning → Result FixedValue ConstantFault → Type 0
GivesValue m (Ok v) = IsValue m v
GivesValue m (Err fault.NoMemory) = Unit {0}
GivesValue m (Err fault.NotConstant) = ⊥
GivesValue m (Err fault.BadSelect) = ⊥
GivesValue m (Err fault.WidthPast128) = ⊥

-- a term of that size, sign and value, or want of memory
abbrev pub GivesTerm : Meaning → Result SizedTerm ConstantFault → Type 0
GivesTerm m (Ok t) = IsSized m t
GivesTerm m (Err fault.NoMemory) = Unit {0}
GivesTerm m (Err fault.NotConstant) = ⊥
GivesTerm m (Err fault.BadSelect) = ⊥
GivesTerm m (Err fault.WidthPast128) = ⊥

-- a source expression is a constant of this meaning where names stand for nothing
pub record IsRightAs (y : Expr) (m : Meaning) : Type 0 where
  pub right : is_wrong (read nameless y).wrong ≡ false
  pub means : (read nameless y).meaning ≡ m
