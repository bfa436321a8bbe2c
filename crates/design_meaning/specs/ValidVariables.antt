-- Valid variables, inputs and outputs (docs/formats.md, "Design files"). Each condition is one line.
use Rattle.std.specs.Prelude.{◌≡◌, ◌≢◌, ℕ, ◌<◌, ◌≤◌, ◌^◌, ◌⊎◌, List, length, All, AllPairs, Contains, IsTrue}
use Rattle.cov_types.specs.declared.var.Var.{Var}
use Rattle.cov_types.specs.declared.kind.VarKind.TheVariants as var_kind
use Rattle.design_tree.specs.declared.design.Design.{Design}
use Rattle.design_meaning.specs.States.{var_of}
use Rattle.design_meaning.specs.Circuit.{input_vars}
use Rattle.design_meaning.specs.WellTyped.{is_width}
use Rattle.design_meaning.specs.Names.{is_name}

-- the start value is 0, or the variable is a reg of one word and the value has its width
abbrev pub HasStart : Var → Type 0
HasStart v = (v.start ≡ 0) ⊎ ((v.kind ≡ var_kind.Reg) × (v.words ≡ 1) × (v.start < 2 ^ v.width))

pub record IsVariable (v : Var) : Type 0 where
  pub wide : IsTrue (is_width v.width)
  pub some_words : 1 ≤ v.words
  pub few_words : v.words ≤ 65536
  pub starts : HasStart v

-- numbers ascend, so none stands twice
abbrev pub Ascend : List ℕ → Type 0
Ascend numbers = AllPairs (λ m n. m < n) numbers

-- the inputs are all variables of the kind of inputs, each of one word, with different names
pub record AreInputs (d : Design) : Type 0 where
  pub ascend : Ascend (input_vars d)
  pub stand : All (λ v. v < length d.vars) (input_vars d)
  pub single : All (λ v. (var_of d v).words ≡ 1) (input_vars d)
  pub only_inputs : All (λ v. (var_of d v).kind ≡ var_kind.Input) (input_vars d)
  pub all_inputs : (v : ℕ) → v < length d.vars → (var_of d v).kind ≡ var_kind.Input → Contains (input_vars d) v
  pub names : All (λ input. IsTrue (is_name input.name)) d.inputs
  pub differ : AllPairs (λ a b. a.name ≢ b.name) d.inputs

-- the outputs are variables of one word
pub record AreOutputs (d : Design) : Type 0 where
  pub ascend : Ascend d.outputs
  pub stand : All (λ v. v < length d.vars) d.outputs
  pub single : All (λ v. (var_of d v).words ≡ 1) d.outputs
