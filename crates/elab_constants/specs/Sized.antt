-- What a term with its size and sign stands for.
use Rattle.std.specs.Prelude.{◌≡◌, ℕ, ◌≤◌, Bool, [], Result, Ok, Err}
use Rattle.source_meaning.specs.Meaning.{Meaning, in_size}
use Rattle.elab_constants.specs.declared.fault.ConstantFault.{ConstantFault}
use Rattle.elab_constants.specs.declared.fault.ConstantFault.TheVariants as fault
use Rattle.elab_constants.specs.declared.sized.SizedTerm.{SizedTerm}
use Rattle.elab_constants.specs.Terms.{term_value}

-- It has the size and sign of an expression, and its value in each context that has no fewer bits.
pub record IsSized (m : Meaning) (t : SizedTerm) : Type 0 where
  pub size : t.size ≡ m.size
  pub signed : t.signed ≡ m.signed
  pub values : (n : ℕ) (by_sign : Bool) → m.size ≤ n → term_value n by_sign t.term ≡ m.value [] n by_sign

-- it is a number of this size and sign
pub record IsNumberOf (width number : ℕ) (reading : Bool) (t : SizedTerm) : Type 0 where
  pub size : t.size ≡ width
  pub signed : t.signed ≡ reading
  pub values : (n : ℕ) (by_sign : Bool) → width ≤ n → term_value n by_sign t.term ≡ in_size width n by_sign number

-- such a term is made; nothing but want of memory hinders it
abbrev pub MakesSized : Meaning → Result SizedTerm ConstantFault → Type 0
MakesSized m (Ok t) = IsSized m t
MakesSized m (Err fault.NoMemory) = Unit {0}
MakesSized m (Err fault.NotConstant) = ⊥
MakesSized m (Err fault.BadSelect) = ⊥
MakesSized m (Err fault.WidthPast128) = ⊥
