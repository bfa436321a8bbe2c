-- The sections whose lines add nothing.
use Rattle.std.proofs.Common.{ℕ, List, [], refl}
use Rattle.cov_types.specs.declared.var.Var.{Var}
use Rattle.design_tree.specs.declared.design.Input.{Input}
use Rattle.design_tree.specs.declared.instrumented.PointRow.{PointRow}
use Rattle.design_tree.specs.declared.instrumented.ToggleEntry.{ToggleEntry}
use Rattle.cvd_text.specs.Sections.{input_line, input_lines, output_line, output_lines, toggle_line, toggle_lines, point_line, point_lines}
use Rattle.std.specs.Prelude.{length}
use Rattle.cvd_step_laws.specs.LineMarks.{with_vars}
use Rattle.cvd_section_laws.proofs.Sections.{with_inputs, with_outputs}
use Rattle.cvd_read.proofs.Plain.{AddNothing, behind_add_nothing}

pub inputs_plain : (vars : List Var) (inputs : List Input) → AddNothing (input_lines (with_inputs vars inputs))
inputs_plain vars inputs = (refl, behind_add_nothing (input_line (with_vars vars) (length inputs)) (λ before x. refl) [] inputs)

pub outputs_plain : (vars : List Var) (outputs : List ℕ) → AddNothing (output_lines (with_outputs vars outputs))
outputs_plain vars outputs = (refl, behind_add_nothing (output_line (with_vars vars)) (λ before x. refl) [] outputs)

pub toggles_plain : (vars : List Var) (counters : ℕ) (toggles : List ToggleEntry) → AddNothing (toggle_lines (with_vars vars) counters toggles)
toggles_plain vars counters toggles = (refl, behind_add_nothing (toggle_line (with_vars vars) counters) (λ before x. refl) [] toggles)

pub points_plain : (counters : ℕ) (points : List PointRow) → AddNothing (point_lines counters points)
points_plain counters points = (refl, behind_add_nothing (point_line counters) (λ before x. refl) [] points)
