-- What names stand for in the head of a generate loop (IEEE 1364-2005, 12.4.1).
use Rattle.std.specs.Prelude.{◌≡◌, ℕ, Bool, true, false, if◌then◌else◌, List, [], ◌∷◌, Option, Some, None, Result, Ok, Err, ℤ, pos}
use Rattle.std.specs.Str.{bytes_eq}
use Rattle.bit_values.specs.Values as value
use Rattle.vlog_tree.specs.declared.expression.Expr.{Expr}
use Rattle.source_meaning.specs.Environment.{Named, constant, Environment}
use Rattle.scope_meaning.specs.Scope.{Frame, constants_at, with_genvar}
use Rattle.scope_meaning.specs.Heads.{genvar_value}
use Rattle.scope_meaning.specs.Wanted.{Wanted, want, or_zero}
use Rattle.elab_constants.specs.declared.names.ConstantValue.{ConstantValue}
use Rattle.elab_ranges.specs.declared.fault.RangeFault.{RangeFault}
use Rattle.elab_names.specs.Meanings.{environment_by}
use Rattle.elab_heads.specs.declared.pass.PassNames.{PassNames}

-- an integer as a genvar has it
pub record IsGenvarValue (n : ℤ) (v : ConstantValue) : Type 0 where
  pub width : v.value.width ≡ 32
  pub signed : v.signed ≡ true
  pub bits : v.value.bits ≡ value.modulo 32 n

-- the value is there where it is wanted
abbrev pub IsPassValue : Bool → ℤ → Option ConstantValue → Type 0
IsPassValue true n (Some v) = IsGenvarValue n v
IsPassValue false n None = Unit {0}
IsPassValue true n None = ⊥
IsPassValue false n (Some v) = ⊥

-- a name that has a value hides what it means outside
abbrev pub pass_or : Option ConstantValue → List ℕ → List ℕ → Named → Named
pass_or (Some v) name q outer = if bytes_eq q name then constant v.value.width v.signed v.value.bits else outer
pass_or None name q outer = outer

abbrev pub environment_of : PassNames → Environment
environment_of p = record { scope = 0; look = λ q. pass_or p.value p.name.now q ((environment_by p.outer.scopes.now).look q) }

-- the expressions of a head, where it is seen from these scopes
abbrev pub head_wanted : List Frame → List ℕ → Expr → Expr → Expr → List Wanted
head_wanted fs name from test step =
    let names = constants_at (with_genvar name (or_zero (genvar_value (constants_at fs) from)) fs) in
    want (constants_at fs) from ∷ want names test ∷ want names step ∷ []

abbrev pub value_or_zero : Result ℤ RangeFault → ℤ
value_or_zero (Ok n) = n
value_or_zero (Err f) = pos 0
