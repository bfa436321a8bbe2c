-- What the values of an instance stand for.
use Rattle.std.specs.Prelude.{ℕ, List, [], ◌∷◌, Option, Some, None, Result, Ok, Err}
use Rattle.std.specs.List.{filter_map}
use Rattle.vlog_tree.specs.declared.expression.Expr.{Expr}
use Rattle.vlog_tree.specs.declared.item.NamedConn.{NamedConn}
use Rattle.source_meaning.specs.Meaning.{Meaning}
use Rattle.scope_meaning.specs.Constants.{Names}
use Rattle.scope_meaning.specs.Scope.{Given}
use Rattle.scope_meaning.specs.Overrides.{given_to, given_of, in_order, with_value}
use Rattle.elab_constants.specs.declared.fault.ConstantFault.{ConstantFault}
use Rattle.elab_constants.specs.declared.fault.ConstantFault.TheVariants as fault
use Rattle.elab_constants.specs.declared.sized.SizedTerm.{SizedTerm}
use Rattle.elab_constants.specs.Sized.{IsSized}
use Rattle.name_table.specs.Tables.{value_of}
use Rattle.elab_overrides.specs.declared.given.Givens.{Givens}

-- a value that is there stands for the meaning that is there
abbrev pub IsGiven : Option Meaning → Option SizedTerm → Type 0
IsGiven (Some m) (Some t) = IsSized m t
IsGiven None None = Unit {0}
IsGiven (Some m) None = ⊥
IsGiven None (Some t) = ⊥

-- the code's values are these
abbrev pub AreGiven : List Given → Givens → Type 0
AreGiven given g = (name : List ℕ) → IsGiven (given_to given name) (value_of g.values name)

-- nothing but want of memory hinders it
abbrev pub IsStored : {A : Type 0} → (A → Type 0) → Result A ConstantFault → Type 0
IsStored is (Ok a) = is a
IsStored is (Err fault.NoMemory) = Unit {0}
IsStored is (Err fault.NotConstant) = ⊥
IsStored is (Err fault.BadSelect) = ⊥
IsStored is (Err fault.WidthPast128) = ⊥

-- a value of a name that may be there
abbrev pub given_at : Option (List ℕ) → Meaning → List Given
given_at (Some name) m = record { name = name; value = m } ∷ []
given_at None m = []

-- values in order, and by name
abbrev pub given_in_order : Names → List (List ℕ) → List Expr → List Given
given_in_order known names es = filter_map (given_of known) (in_order names es)

abbrev pub given_by_name : Names → List NamedConn → List Given
given_by_name known cs = filter_map (given_of known) (filter_map with_value cs)
