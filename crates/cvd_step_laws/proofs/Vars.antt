-- What lines say looks at the variables of a design alone.
use Rattle.std.proofs.Common.{◌≡◌, ℕ, List, ap}
use Rattle.cov_types.specs.declared.kind.ProcessKind.{ProcessKind}
use Rattle.cov_types.specs.declared.var.Var.{Var}
use Rattle.design_tree.specs.declared.design.Design.{Design}
use Rattle.design_tree.specs.declared.design.Process.{Process}
use Rattle.design_tree.specs.declared.step.Step.{Step}
use Rattle.cvd_text.specs.Steps.{Around, lines_of_step, body_lines}
use Rattle.cvd_text.specs.Sections.{process_lines, output_line, toggle_line}
use Rattle.cvd_step_laws.specs.LineMarks.{with_vars}

abbrev around_in : Design → ℕ → ProcessKind → Around
around_in d counters kind = record { design = d; counters = counters; kind = kind }

module _ (d : Design) (vars : List Var) (same : d.vars ≡ vars) where
  pub steps_by_vars : (counters : ℕ) (kind : ProcessKind) → lines_of_step (around_in d counters kind) ≡ lines_of_step (around_in (with_vars vars) counters kind)
  steps_by_vars counters kind = ap (λ vs. lines_of_step (around_in (with_vars vs) counters kind)) same

  pub bodies_by_vars : (counters : ℕ) (kind : ProcessKind) (steps : List Step)
      → body_lines (around_in d counters kind) steps ≡ body_lines (around_in (with_vars vars) counters kind) steps
  bodies_by_vars counters kind steps = ap (λ vs. body_lines (around_in (with_vars vs) counters kind) steps) same

  pub processes_by_vars : (counters : ℕ) (p : Process) → process_lines d counters p ≡ process_lines (with_vars vars) counters p
  processes_by_vars counters p = ap (λ vs. process_lines (with_vars vs) counters p) same

  pub outputs_by_vars : output_line d ≡ output_line (with_vars vars)
  outputs_by_vars = ap (λ vs. output_line (with_vars vs)) same

  pub toggles_by_vars : (counters : ℕ) → toggle_line d counters ≡ toggle_line (with_vars vars) counters
  toggles_by_vars counters = ap (λ vs. toggle_line (with_vars vs) counters) same
