-- Going through the processes of a design one after the other.
use Rattle.std.proofs.Common.{◌≡◌, sym, ap, subst, ℕ, ◌+◌, ◌<◌, ◌≤◌, inl, inr, List, length, get_or, arith}
use Rattle.std.specs.Prelude.{slice_index_or}
use Rattle.std.proofs.lemmas.List.{get_or_read}
use Rattle.std.proofs.lemmas.Bool.{cases_lt}
use Rattle.design_tree.specs.declared.design.Process.{Process}
use Rattle.design_tree.specs.declared.design.Design.{Design}
use Rattle.design_meaning.specs.Processes.{kind_of, no_process}
use Rattle.flow_uses.specs.declared.uses.Uses.{Uses}
use Rattle.flow_uses.specs.Uses.{AreUsesOf, no_uses}
use Rattle.design_meaning.specs.Flow.{Condition}
use Rattle.design_meaning.specs.FlowFaults.{Keeps, IsLeast}
use Rattle.flow_least.specs.First.{KeepsBefore}

module _ (Fails : Condition) (d : Design) where
  pub before_none : KeepsBefore Fails d 0
  before_none q w lt x = absurd (omega (arith, lt))

  pub before_more : (p : ℕ) → KeepsBefore Fails d p → ((w : ℕ) → Fails d p w → ⊥) → KeepsBefore Fails d (p + 1)
  before_more p h k q w lt x = elim (cases_lt q p) [
    | inl less ↦ h q w less x
    | inr more ↦ (let e : q ≡ p = omega (arith, lt, more) in k w (subst (λ q. Fails d q w) e x))
  ]

  pub before_all : (n p : ℕ) → n ≤ p → ((q w : ℕ) → n ≤ q → Fails d q w → ⊥) → KeepsBefore Fails d p → Keeps Fails d
  before_all n p le past h q w x = elim (cases_lt q p) [
    | inl less ↦ h q w less x
    | inr more ↦ past q w (omega (arith, le, more)) x
  ]

  pub first_is : (p v : ℕ) → KeepsBefore Fails d p → Fails d p v → ((w : ℕ) → w < v → Fails d p w → ⊥) → IsLeast Fails d p v
  first_is p v h x k = record { fails = x; least_process = h; least_variable = k }

-- ---- what code reads of a process

pub used_at : (d : Design) (us : List Uses) → length us ≡ length d.processes → ((p : ℕ) → p < length d.processes → AreUsesOf d p (slice_index_or us p no_uses))
    → (p : ℕ) (u : Uses) → p < length d.processes → u ≡ get_or us p u → AreUsesOf d p u
used_at d us many uses p u lt is = subst (AreUsesOf d p) (sym (get_or_read us p u (omega (arith, lt, many)) is no_uses)) (uses p lt)

pub kind_at : (d : Design) (p : ℕ) (x : Process) → p < length d.processes → x ≡ get_or d.processes p x → x.kind ≡ kind_of d p
kind_at d p x lt is = ap (λ (y : Process). y.kind) (get_or_read d.processes p x lt is no_process)
