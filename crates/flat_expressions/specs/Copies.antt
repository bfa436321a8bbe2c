-- What copying an expression gives.
use Rattle.std.specs.Prelude.{◌≡◌, Bool, true, false, List, Result, Ok, Err}
use Rattle.std.specs.List.{list_any}
use Rattle.std.specs.Global.{Vec}
use Rattle.source_meaning.specs.Environment.{Named, variable, constant, unknown, Environment}
use Rattle.flat_source_meaning.specs.Names.{NameList}
use Rattle.flat_expressions.specs.declared.fault.CopyFault.{CopyFault}
use Rattle.flat_expressions.specs.declared.fault.CopyFault.TheVariants as fault

abbrev pub is_unknown : Named → Bool
is_unknown unknown = true
is_unknown _ = false

-- one of these names stands for nothing
abbrev pub lacks : Environment → NameList → Bool
lacks env = list_any (λ name. is_unknown (env.look name))

-- it is what was asked for, or a name is lacking; want of memory aside
abbrev pub Copied : {A : Type 0} → (A → Type 0) → Bool → Result A CopyFault → Type 0
Copied is lacking (Ok a) = is a
Copied is lacking (Err fault.NoMemory) = Unit {0}
Copied is lacking (Err fault.Unknown) = lacking ≡ true

-- ---- of the code

-- it is made; nothing but want of memory hinders it
abbrev pub Makes : {A : Type 0} → A → Result A CopyFault → Type 0
Makes a (Ok b) = b ≡ a
Makes a (Err fault.NoMemory) = Unit {0}
Makes a (Err fault.Unknown) = ⊥

-- the list is made
abbrev pub MakesList : {A : Type 0} → List A → Result (Vec A) CopyFault → Type 0
MakesList xs (Ok v) = v.items ≡ xs
MakesList xs (Err fault.NoMemory) = Unit {0}
MakesList xs (Err fault.Unknown) = ⊥

-- both, or the first fault
abbrev pub both : {A B : Type 0} → Result A CopyFault → Result B CopyFault → Result (A × B) CopyFault
both (Ok a) (Ok b) = Ok (a, b)
both (Ok a) (Err g) = Err g
both (Err f) other = Err f
