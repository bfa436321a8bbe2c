-- Assignments run in no phase.
use Rattle.std.proofs.Common.{◌≡◌, ◌∙◌, sym, ap, subst, refl, true, false, true≢false, Bool, not, ℕ, ◌+◌, ◌<◌, ◌==◌, ◌||◌, List, inl, inr, arith}
use Rattle.std.specs.Prelude.{IsTrue}
use Rattle.std.proofs.lemmas.Bool.{cases_eq, eq-eqb, ne_eqb}
use Rattle.cov_types.specs.declared.kind.ProcessKind.{ProcessKind}
use Rattle.cov_types.specs.declared.kind.ProcessKind.TheVariants as kind
use Rattle.circuit_run.specs.Kinds.{is_assign}
use Rattle.place_marks.specs.Marked.{is_marked}
use Rattle.cycle_phases.specs.Phases.{runs_in}
use Rattle.cycle_phases.specs.declared.phase.Phase.{Phase}
use Rattle.cycle_phases.specs.declared.phase.Phase.TheVariants as phase

pub never_runs : (p : Phase) (k : ProcessKind) → IsTrue (is_assign k) → runs_in p k ≡ false
never_runs phase.Start kind.Assign h = refl
never_runs phase.Edge kind.Assign h = refl
never_runs p kind.Comb h = absurd cc
never_runs p kind.Clocked h = absurd cc
never_runs p kind.Initial h = absurd cc
never_runs p kind.Cover h = absurd cc

-- ---- what is so of each number below one that isn't marked

pub not_other : (b : Bool) → not b ≡ false → b ≡ true
not_other true h = refl
not_other false h = absurd (true≢false h)

pub one_marked : (A : ℕ → Type 0) (n : ℕ) (old new : List ℕ) → ((k : ℕ) → is_marked new k ≡ (n == k || is_marked old k))
    → ((p : ℕ) → p < n → is_marked old p ≡ false → A p) → (p : ℕ) → p < n + 1 → is_marked new p ≡ false → A p
one_marked A n old new marks h p lt un = elim (cases_eq n p) [
  | inl e ↦ absurd (true≢false (sym (marks p ∙ ap (λ b. b || is_marked old p) (eq-eqb n p e)) ∙ un))
  | inr ne ↦ h p (omega (arith, lt, ne)) (sym (ap (λ b. b || is_marked old p) (ne_eqb n p ne)) ∙ sym (marks p) ∙ un)
]

pub one_unmarked : (A : ℕ → Type 0) (n : ℕ) (marks : List ℕ) → A n → ((p : ℕ) → p < n → is_marked marks p ≡ false → A p) → (p : ℕ) → p < n + 1
    → is_marked marks p ≡ false → A p
one_unmarked A n marks a h p lt un = elim (cases_eq n p) [
  | inl e ↦ subst A e a
  | inr ne ↦ h p (omega (arith, lt, ne)) un
]
