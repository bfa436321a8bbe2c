-- What names stand for at a place and in the passes around it, as the code has it.
use Rattle.std.specs.Prelude.{◌≡◌, ℕ, true, List, Option, Some, None}
use Rattle.elab_types.specs.declared.flat_source.FlatVar.{FlatVar}
use Rattle.source_meaning.specs.Environment.{Named, variable, constant, unknown, Environment}
use Rattle.flat_source_meaning.specs.Environments.{numbered}
use Rattle.elab_constants.specs.declared.names.ConstantValue.{ConstantValue}
use Rattle.scope_table.specs.declared.table.ScopeTable.{ScopeTable}
use Rattle.scope_table.specs.Tables.{value_in}
use Rattle.flat_scopes.specs.declared.place.PlaceInScope.{PlaceInScope}
use Rattle.flat_scopes.specs.declared.scope.NameMeaning.{NameMeaning}
use Rattle.flat_scopes.specs.declared.scope.NameMeaning.TheVariants as means
use Rattle.flat_scopes.specs.declared.scopes.SeenScopes.{SeenScopes}
use Rattle.flat_scopes.specs.Meanings.{meaning_by}
use Rattle.flat_names.specs.declared.loops.LoopValue.{LoopValue}
use Rattle.flat_names.specs.declared.inside.InsideNames.{InsideNames}
use Rattle.flat_names.specs.Loops.{loop_value}

-- what a name stands for that means this, its number among the variables being found in a table
abbrev pub stands_meant : List FlatVar → ScopeTable ℕ → List ℕ → NameMeaning → Named
stands_meant vars numbers name (means.Constant v) = constant v.value.width v.signed v.value.bits
stands_meant vars numbers name (means.Variable s k) = numbered vars (value_in numbers s name)
stands_meant vars numbers name means.Genvar = unknown
stands_meant vars numbers name means.NoValue = unknown

-- or nothing
abbrev pub stands_for : List FlatVar → ScopeTable ℕ → List ℕ → Option NameMeaning → Named
stands_for vars numbers name (Some m) = stands_meant vars numbers name m
stands_for vars numbers name None = unknown

-- where a loop turns over it, its value in the pass
abbrev pub in_loop : Option ℕ → Named → Named
in_loop (Some n) other = constant 32 true n
in_loop None other = other

abbrev pub environment_by : InsideNames → Environment
environment_by i = record {
  scope = i.at.scope;
  look = λ name.
      in_loop (loop_value i.loops.now name) (stands_for i.vars.now i.numbers.now name (meaning_by i.scopes.now.scopes.items i.at name));
}

-- the parts of names at a place
pub record IsMadeOf (scopes : SeenScopes) (at : PlaceInScope) (loops : List LoopValue) (i : InsideNames) : Type 0 where
  pub in_scopes : i.scopes.now ≡ scopes
  pub place : i.at ≡ at
  pub passes : i.loops.now ≡ loops

-- ---- of the code

-- it is the value of a loop variable
pub record IsLoopConstant (value : ℕ) (c : ConstantValue) : Type 0 where
  pub width : c.value.width ≡ 32
  pub signed : c.signed ≡ true
  pub bits : c.value.bits ≡ value
