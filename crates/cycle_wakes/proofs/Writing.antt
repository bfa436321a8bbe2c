-- Variables that are written as a whole.
use Rattle.std.proofs.Common.{◌≡◌, ◌≢◌, ◌∙◌, sym, ap, subst, refl, ℕ, ◌+◌, ◌<◌, ◌≤◌, inl, inr, Bool, true, false, List, length, set, arith}
use Rattle.std.specs.Prelude.{◌⊎◌, Contains, IsTrue, slice_index_or}
use Rattle.std.proofs.lemmas.Bool.{cases_lt, cases_eq}
use Rattle.std.proofs.lemmas.List.{get_or-set_same, get_or-set_other}
use Rattle.cov_types.specs.declared.var.Var.{Var}
use Rattle.circuit_run.specs.States.{var_of}
use Rattle.flow_marks.specs.declared.span.Span.{Span}
use Rattle.flow_uses.specs.declared.uses.Uses.{Uses}
use Rattle.flow_uses.specs.Uses.{no_uses}
use Rattle.cycle_wakes.specs.Sources.{HaveWhole, IsWhole, IsWritten, written_at}

-- where one is written more
pub one_written : (written old : List Bool) (vars : List Var) (spans : List Span) (span : Span) → Contains spans span → IsWhole span (var_of vars span.var)
    → ((v : ℕ) → IsTrue (written_at written v) → IsTrue (written_at old v) ⊎ HaveWhole vars spans v)
    → (v : ℕ) → IsTrue (written_at (set written span.var true) v) → IsTrue (written_at old v) ⊎ HaveWhole vars spans v
one_written written old vars spans span listed whole h v t = elim (cases_eq v span.var) [
  | inl e ↦ inr (record { span = span; listed = listed; of_variable = sym e; whole = subst (λ v. IsWhole span (var_of vars v)) (sym e) whole })
  | inr ne ↦ h v (sym (get_or-set_other written span.var v true false ne) ∙ t)
]
