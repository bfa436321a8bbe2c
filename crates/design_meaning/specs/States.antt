-- States and bits of a design: those of its variables.
use Rattle.std.specs.Prelude.{ℕ}
use Rattle.cov_types.specs.declared.var.Var.{Var}
use Rattle.design_tree.specs.declared.design.Design.{Design}
use Rattle.circuit_run.specs.States.{State, Bit}
use Rattle.circuit_run.specs.States as circuit

-- a design's variable by its number
abbrev pub var_of : Design → ℕ → Var
var_of d = circuit.var_of d.vars

-- a bit that the design has
abbrev pub IsBitOf : Design → Bit → Type 0
IsBitOf d = circuit.IsBitOf d.vars

-- a state of a design holds words of each of its variables, and no others
abbrev pub IsStateOf : Design → State → Type 0
IsStateOf d = circuit.IsStateOf d.vars
