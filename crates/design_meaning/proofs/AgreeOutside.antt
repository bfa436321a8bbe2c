-- States that agree with the same registers and inputs agree on each bit that no process settles.
use Rattle.std.proofs.Common.{◌≡◌, ◌∙◌, sym, ap, subst, refl, ℕ, zero, suc, ◌<◌, inl, inr, false, List, [], ◌∷◌, map, length, arith}
use Rattle.std.proofs.lemmas.Bool.{cases_Bool}
use Rattle.std.specs.Prelude.{IsTrue, All, Contains, slice_index, slice_index_or}
use Rattle.std.specs.Int.{bit_at}
use Rattle.cov_types.specs.declared.kind.VarKind.{VarKind}
use Rattle.cov_types.specs.declared.kind.VarKind.TheVariants as var_kind
use Rattle.cov_types.specs.declared.kind.ProcessKind.{ProcessKind}
use Rattle.cov_types.specs.declared.kind.ProcessKind.TheVariants as kind
use Rattle.design_tree.specs.declared.design.Design.{Design}
use Rattle.circuit_run.specs.States.{State, Bit, bit, held}
use Rattle.design_meaning.specs.States.{IsBitOf, var_of}
use Rattle.circuit_run.specs.Kinds.{settles, is_comb}
use Rattle.design_meaning.specs.Processes.{kind_of}
use Rattle.design_meaning.specs.Settled.{IsRegisterBit, IsUndrivenBit, inputs_in, Agrees}
use Rattle.design_meaning.specs.Reach.{drives}
use Rattle.design_meaning.specs.Circuit.{input_vars}
use Rattle.design_meaning.specs.ValidVariables.{AreInputs}
use Rattle.design_meaning.specs.ValidProcesses.{kind_written}
use Rattle.design_meaning.specs.Valid.{IsValidDesign}
use Rattle.design_meaning.specs.Orders.{IsOrder}
use Rattle.design_meaning.proofs.FlowFacts.{Settling}
use Rattle.design_meaning.proofs.OrderSettles.{NoneDrives}
use Rattle.design_meaning.proofs.Listed.{listed}
use Rattle.design_meaning.proofs.ByNumber.{none_driven}

-- ---- bits that no process settles

module _ (d : Design) (order : List ℕ) (o : IsOrder d order) where
  -- a bit that no assignment or combinational process drives
  pub none_drives : (b : Bit) → ((p : ℕ) → Settling d p → IsTrue (drives d p b) → ⊥) → (ps : List ℕ) → All (Settling d) ps → NoneDrives d b ps
  none_drives b h [] s = tt
  none_drives b h (p ∷ ps) s = (
    elim (cases_Bool (drives d p b)) [
      | inl dp ↦ absurd (h p (s zero p (omega arith)) dp)
      | inr n ↦ n
    ],
    none_drives b h ps (λ k e lt. s (suc k) e (omega (arith, lt))),
  )

  pub undriven_of : (b : Bit) → NoneDrives d b order → (p : ℕ) → Settling d p → IsTrue (drives d p b) → ⊥
  undriven_of b n p sp dp = absurd (cc (listed d order (λ q. drives d q b ≡ false) o n p sp, dp))

pub comb_settles : (k : ProcessKind) → IsTrue (is_comb k) → IsTrue (settles k)
comb_settles kind.Comb h = refl
comb_settles kind.Assign h = absurd cc
comb_settles kind.Clocked h = absurd cc
comb_settles kind.Initial h = absurd cc
comb_settles kind.Cover h = absurd cc

-- what settles and writes regs is combinational
pub reg_comb : (k : ProcessKind) → IsTrue (settles k) → var_kind.Reg ≡ kind_written k → IsTrue (is_comb k)
reg_comb kind.Comb s h = refl
reg_comb kind.Assign s h = absurd cc
reg_comb kind.Clocked s h = absurd cc
reg_comb kind.Initial s h = absurd cc
reg_comb kind.Cover s h = absurd cc

pub not_input : (k : ProcessKind) → var_kind.Input ≡ kind_written k → ⊥
not_input kind.Comb h = cc
not_input kind.Assign h = cc
not_input kind.Clocked h = cc
not_input kind.Initial h = cc
not_input kind.Cover h = cc

-- the value of the input with a number
pub input_at : (F : ℕ → ℕ) (vs : List ℕ) (k e : ℕ) → k < length vs → slice_index (map F vs) k ≡ F (slice_index_or vs k e)
input_at F [] k e lt = absurd (omega (arith, lt))
input_at F (v ∷ vs) zero e lt = refl
input_at F (v ∷ vs) (suc k) e lt = input_at F vs k e (omega (arith, lt))

pub inputs_of : (d : Design) → IsValidDesign d → AreInputs d
inputs_of d v = subst AreInputs v.2 v.1.inputs

-- equal inputs, equal words
pub same_input : (d : Design) → IsValidDesign d → (s t : State) → inputs_in d s ≡ inputs_in d t → (v : ℕ) → v < length d.vars
    → (var_of d v).kind ≡ var_kind.Input → slice_index (held s v).words 0 ≡ slice_index (held t v).words 0
same_input d valid s t h v lt k =
    let c : Contains (input_vars d) v = (inputs_of d valid).all_inputs v lt k in
    let F : State → ℕ → ℕ = λ s v. slice_index (held s v).words 0 in
    ap (F s) (sym c.2) ∙ sym (input_at (F s) (input_vars d) c.0 v c.1) ∙ ap (λ row. slice_index row c.0) h ∙ input_at (F t) (input_vars d) c.0 v c.1
    ∙ ap (F t) c.2

pub single : (d : Design) → IsValidDesign d → (b : Bit) → IsBitOf d b → (var_of d b.var).kind ≡ var_kind.Input → b.word ≡ 0
single d valid b hb k =
    let c : Contains (input_vars d) b.var = (inputs_of d valid).all_inputs b.var hb.of_variable k in
    let one : (var_of d b.var).words ≡ 1 = subst (λ v. (var_of d v).words ≡ 1) c.2 ((inputs_of d valid).single c.0 b.var c.1) in
    omega (arith, one, hb.of_word)

-- two states that agree with the same registers and inputs agree on each bit that no process settles
pub agree_base : (d : Design) → IsValidDesign d → (order : List ℕ) → IsOrder d order → (r : State) (row : List ℕ) (s t : State)
    → Agrees d r row s → Agrees d r row t → (b : Bit) → IsBitOf d b → NoneDrives d b order → bit s b ≡ bit t b
agree_base d valid order o r row s t sa ta b hb n = by_kind (var_of d b.var).kind refl
  where
    free : (p : ℕ) → Settling d p → IsTrue (drives d p b) → ⊥
    free = undriven_of d order o b n

    by_kind : (k : VarKind) → (var_of d b.var).kind ≡ k → bit s b ≡ bit t b
    by_kind var_kind.Reg e =
        let h : IsRegisterBit d b = record { here = hb; of_reg = e; kept = none_driven d is_comb b (λ p c dp. free p (comb_settles (kind_of d p) c) dp) } in
        sa.registers b h ∙ sym (ta.registers b h)
    by_kind var_kind.Wire e =
        let h : IsUndrivenBit d b = record { here = hb; of_wire = e; undriven = none_driven d settles b free } in
        sa.undriven b h ∙ sym (ta.undriven b h)
    by_kind var_kind.Input e =
        let zero_word : b.word ≡ 0 = single d valid b hb e in
        ap (λ w. bit_at (slice_index (held s b.var).words w) b.place) zero_word
        ∙ ap (λ n. bit_at n b.place) (same_input d valid s t (sa.inputs ∙ sym ta.inputs) b.var hb.of_variable e)
        ∙ ap (λ w. bit_at (slice_index (held t b.var).words w) b.place) (sym zero_word)
