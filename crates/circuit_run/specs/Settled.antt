-- Settled states of a cycle (IEEE 1364-2005, 6.1 and 9.7.5: continuous assignments and `always @*`; the cycle: this
-- project's own). No order is named.
use Rattle.std.specs.Prelude.{◌≡◌, ℕ, false, List, map, All, slice_index}
use Rattle.cov_types.specs.declared.kind.VarKind.TheVariants as var_kind
use Rattle.circuit_run.specs.States.{Bit, State, bit, held, var_of, IsBitOf, IsStateOf}
use Rattle.circuit_run.specs.Kinds.{settles, is_comb}
use Rattle.circuit_run.specs.Circuits.{Circuit, is_driven, states_after}

-- a register bit: one of a `reg` that no combinational process drives
pub record IsRegisterBit {N : Type 0} (c : Circuit N) (b : Bit) : Type 0 where
  pub here : IsBitOf c.vars b
  pub of_reg : (var_of c.vars b.var).kind ≡ var_kind.Reg
  pub kept : is_driven is_comb c b ≡ false

-- an undriven bit: one of a wire that no assignment or combinational process drives
pub record IsUndrivenBit {N : Type 0} (c : Circuit N) (b : Bit) : Type 0 where
  pub here : IsBitOf c.vars b
  pub of_wire : (var_of c.vars b.var).kind ≡ var_kind.Wire
  pub undriven : is_driven settles c b ≡ false

-- what some inputs hold in a state, in their order
abbrev pub inputs_in : List ℕ → State → List ℕ
inputs_in inputs s = map (λ v. slice_index (held s v).words 0) inputs

-- a state agrees with registers r on the register bits, with values of the inputs, and has 0 on undriven bits
pub record AgreesWith {N : Type 0} (c : Circuit N) (r : State) (row : List ℕ) (s : State) : Type 0 where
  pub is_state : IsStateOf c.vars s
  pub registers : (b : Bit) → IsRegisterBit c b → bit s b ≡ bit r b
  pub inputs : inputs_in c.inputs s ≡ row
  pub undriven : (b : Bit) → IsUndrivenBit c b → bit s b ≡ 0

-- A state is settled for registers and values of the inputs where it agrees with both, and each assignment and each
-- combinational process that is run from it leaves it alone.
pub record IsSettled {N : Type 0} (c : Circuit N) (r : State) (row : List ℕ) (s : State) : Type 0 where
  pub agrees : AgreesWith c r row s
  pub still : All (λ after. after ≡ s) (states_after settles c s)
