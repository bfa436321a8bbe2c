-- What the edge leaves follows the settled state.
use Rattle.std.proofs.Common.{◌≡◌, ◌≢◌, ◌∙◌, sym, ap, subst, refl, ℕ, ◌<◌, ◌⊎◌, inl, inr, Bool, true, false, true≢false, not, ◌||◌, ◌&&◌, List, length, arith}
use Rattle.std.specs.Prelude.{IsTrue}
use Rattle.std.proofs.lemmas.Bool.{cases_Bool, cases_order}
use Rattle.cov_types.specs.declared.kind.VarKind.{VarKind}
use Rattle.cov_types.specs.declared.kind.VarKind.TheVariants as var_kind
use Rattle.cov_types.specs.declared.kind.ProcessKind.{ProcessKind}
use Rattle.cov_types.specs.declared.kind.ProcessKind.TheVariants as kind
use Rattle.design_tree.specs.declared.design.Design.{Design}
use Rattle.circuit_run.specs.States.{State, Bit, bit}
use Rattle.circuit_run.specs.Writes.{all_written}
use Rattle.circuit_run.specs.Kinds.{settles, is_initial, runs_at_edge}
use Rattle.design_meaning.specs.States.{IsBitOf, IsStateOf, var_of}
use Rattle.design_meaning.specs.Settled.{IsSettled, IsUndrivenBit}
use Rattle.design_meaning.specs.Processes.{kind_of}
use Rattle.design_meaning.specs.Reach.{drives}
use Rattle.design_meaning.specs.ValidProcesses.{kind_written}
use Rattle.design_meaning.specs.Valid.{IsValidDesign}
use Rattle.design_meaning.specs.Flow.{clash}
use Rattle.design_meaning.specs.FlowFaults.{Flows}
use Rattle.design_meaning.proofs.ByNumber.{still_from}
use Rattle.design_meaning.proofs.DrivenKinds.{drives_its_kind}
use Rattle.design_meaning.proofs.ListLaws.{or_true}
use Rattle.cycle_parts.specs.Raised.{Raised}
use Rattle.cycle_phases.specs.Phases.{turns}
use Rattle.cycle_phases.proofs.Leave.{phases_leave}
use Rattle.cycle_settle.specs.Settling.{AreRaised, Follows}

in_the_middle : (x y z : Bool) → y ≡ true → ((x || y) || z) ≡ true
in_the_middle x y z e = ap (λ b. (x || b) || z) e ∙ ap (λ b. b || z) (or_true x)

at_the_end : (x y z : Bool) → z ≡ true → ((x || y) || z) ≡ true
at_the_end x y z e = ap (λ b. (x || y) || b) e ∙ or_true (x || y)

never_both : (k : ProcessKind) → settles k ≡ true → runs_at_edge k ≡ true → ⊥
never_both kind.Assign s e = cc e
never_both kind.Comb s e = cc e
never_both kind.Clocked s e = cc s
never_both kind.Initial s e = cc s
never_both kind.Cover s e = cc s

-- no process at the edge drives a bit that an assignment or a combinational process drives
apart : (d : Design) → Flows d → (p q : ℕ) (b : Bit) → IsTrue (settles (kind_of d p)) → IsTrue (runs_at_edge (kind_of d q)) → IsBitOf d b
    → IsTrue (drives d p b) → IsTrue (drives d q b) → ⊥
apart d flows p q b sp eq hb dp dq = elim (cases_order p q) [
  | inl e ↦ never_both (kind_of d p) sp (ap (λ r. runs_at_edge (kind_of d r)) e ∙ eq)
  | inr o ↦ elim o [
    | inl less ↦ flows.one_driver q b.var (record {
      other = p;
      less = less;
      kinds = at_the_end (not (is_initial (kind_of d q)) && not (is_initial (kind_of d p))) (settles (kind_of d q)) (settles (kind_of d p)) sp;
      shared = b;
      of_variable = refl;
      here = hb;
      driven = dq;
      by_other = dp;
    })
    | inr more ↦ flows.one_driver p b.var (record {
      other = q;
      less = more;
      kinds = in_the_middle (not (is_initial (kind_of d p)) && not (is_initial (kind_of d q))) (settles (kind_of d p)) (settles (kind_of d q)) sp;
      shared = b;
      of_variable = refl;
      here = hb;
      driven = dp;
      by_other = dq;
    })
  ]
]

-- a kind of process that writes regs
abbrev pub WritesRegs : (ProcessKind → Bool) → Type 0
WritesRegs sort = (k : ProcessKind) → sort k ≡ true → kind_written k ≡ var_kind.Reg

pub edge_writes_regs : WritesRegs runs_at_edge
edge_writes_regs kind.Assign h = absurd cc
edge_writes_regs kind.Comb h = refl
edge_writes_regs kind.Clocked h = refl
edge_writes_regs kind.Initial h = refl
edge_writes_regs kind.Cover h = refl

pub start_writes_regs : WritesRegs is_initial
start_writes_regs kind.Assign h = absurd cc
start_writes_regs kind.Comb h = refl
start_writes_regs kind.Clocked h = refl
start_writes_regs kind.Initial h = refl
start_writes_regs kind.Cover h = refl

-- what processes that write regs leave has 0 on undriven wires where the state had
pub wires_stay : (d : Design) (sort : ProcessKind → Bool) → WritesRegs sort → (s : State) → IsValidDesign d → IsStateOf d s → ((b : Bit) → IsUndrivenBit d b
    → bit s b ≡ 0)
    → (b : Bit) → IsUndrivenBit d b → bit (all_written (turns sort d s).state (turns sort d s).updates) b ≡ 0
wires_stay d sort regs s valid hs none b h = phases_leave d sort s b valid hs h.here (λ p lt k. elim (cases_Bool (drives d p b)) [
  | inl dp ↦ absurd (wire_reg (sym h.of_wire ∙ drives_its_kind d p b valid dp ∙ regs (kind_of d p) k))
  | inr no' ↦ no'
]) ∙ none b h
  where
    wire_reg : var_kind.Wire ≡ var_kind.Reg → ⊥
    wire_reg e = cc e

pub edge_follows : (d : Design) (r s : State) (row : List ℕ) (kept : List Raised) → IsValidDesign d → Flows d → IsSettled d r row s → AreRaised d s kept
    → Follows d s (all_written (turns runs_at_edge d s).state (turns runs_at_edge d s).updates) kept
edge_follows d r s row kept valid flows h raised = record {
  still = still_from d s h.still;
  alike = λ p b sp hb dp. phases_leave d runs_at_edge s b valid h.agrees.is_state hb (λ q lt k. elim (cases_Bool (drives d q b)) [
    | inl dq ↦ absurd (apart d flows p q b sp k hb dp dq)
    | inr no' ↦ no'
  ]);
  raised = raised;
}
