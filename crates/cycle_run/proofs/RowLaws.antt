-- The state of a cycle before it is settled: registers with the values of a row.
use Rattle.std.proofs.Common.{◌≡◌, ◌≢◌, ◌∙◌, sym, ap, subst, refl, ℕ, false, List, inl, inr}
use Rattle.std.specs.Prelude.{IsTrue, slice_index}
use Rattle.std.specs.Int.{bit_at}
use Rattle.cov_types.specs.declared.kind.VarKind.TheVariants as var_kind
use Rattle.design_tree.specs.declared.design.Design.{Design}
use Rattle.circuit_run.specs.States.{State, Bit, bit, held}
use Rattle.circuit_run.specs.Kinds.{settles}
use Rattle.design_meaning.specs.States.{IsBitOf, IsStateOf, var_of}
use Rattle.design_meaning.specs.Settled.{IsUndrivenBit, IsSettled, Agrees, inputs_in}
use Rattle.design_meaning.specs.SettledLaws.{IsRow, after_all}
use Rattle.design_meaning.specs.Processes.{kind_of}
use Rattle.design_meaning.specs.Reach.{drives}
use Rattle.design_meaning.specs.Valid.{IsValidDesign}
use Rattle.design_meaning.specs.FlowFaults.{Flows}
use Rattle.design_meaning.specs.Orders.{IsOrder}
use Rattle.design_meaning.proofs.AgreeOutside.{not_input}
use Rattle.design_meaning.proofs.DrivenKinds.{drives_its_kind}
use Rattle.design_meaning.proofs.Theorem.{orders_settle}
use Rattle.cycle_parts.specs.Raised.{Raised}
use Rattle.cycle_settle.specs.Settling.{Follows}

-- nothing but inputs is changed
abbrev pub KeepsOthers : Design → State → State → Type 0
KeepsOthers d old new = (v : ℕ) → (var_of d v).kind ≢ var_kind.Input → held new v ≡ held old v

module _ (d : Design) (r t : State) (others : KeepsOthers d r t) where
  same_bit : (b : Bit) → (var_of d b.var).kind ≢ var_kind.Input → bit t b ≡ bit r b
  same_bit b ne = ap (λ h. bit_at (slice_index h.words b.word) b.place) (others b.var ne)

  pub agrees : (row : List ℕ) → IsStateOf d t → inputs_in d t ≡ row → ((b : Bit) → IsUndrivenBit d b → bit r b ≡ 0) → Agrees d r row t
  agrees row ht inputs none = record {
    is_state = ht;
    registers = λ b h. same_bit b (λ e. cc (h.of_reg, e));
    inputs = inputs;
    undriven = λ b h. same_bit b (λ e. cc (h.of_wire, e)) ∙ none b h;
  }

  -- no process drives an input
  driven_no_input : IsValidDesign d → (p : ℕ) (b : Bit) → IsTrue (drives d p b) → (var_of d b.var).kind ≢ var_kind.Input
  driven_no_input valid p b dp e = not_input (kind_of d p) (sym e ∙ drives_its_kind d p b valid dp)

  pub still_follows : IsValidDesign d → (before : State) (kept : List Raised) → Follows d before r kept → Follows d before t kept
  still_follows valid before kept f = record {
    still = f.still;
    alike = λ p b sp hb dp. same_bit b (driven_no_input valid p b dp) ∙ f.alike p b sp hb dp;
    raised = f.raised;
  }

pub row_settles : (d : Design) (order : List ℕ) (r t : State) (row : List ℕ) → IsValidDesign d → Flows d → IsOrder d order → IsStateOf d r → IsRow d row
    → KeepsOthers d r t → IsStateOf d t → inputs_in d t ≡ row → ((b : Bit) → IsUndrivenBit d b → bit r b ≡ 0) → IsSettled d r row (after_all d order t)
row_settles d order r t row valid flows io hr hrow others ht inputs none = orders_settle d order valid flows io r row t hr hrow
    (agrees d r t others row ht inputs none)
