-- The section of outputs.
use Rattle.std.proofs.Common.{◌≡◌, ℕ, true, List, [], ◌++◌, length, refl}
use Rattle.std.specs.Prelude.{codes}
use Rattle.cov_types.specs.declared.var.Var.{Var}
use Rattle.spelling_laws.specs.Spelled.{Apart}
use Rattle.cvd_text.specs.Lines.{Line}
use Rattle.cvd_text.specs.Pieces.{Mark, fits}
use Rattle.cvd_text.specs.Sections.{heading, lines_behind, output_line, output_lines}
use Rattle.cvd_cursor.specs.Numerals.{number_tokens}
use Rattle.cvd_nodes.proofs.Fields.{apart_number}
use Rattle.cvd_sections.specs.Alone.{design_of, marks_alone, row_marks}
use Rattle.cvd_sections.proofs.Lists.{row}
use Rattle.cvd_sections.proofs.Lines.{apart_line}

module _ (vars : List Var) where
  abbrev pub each : ℕ → List ℕ → ℕ → Line
  each n before v = output_line (design_of vars [] []) before v

  abbrev pub section : List ℕ → List Mark
  section os = marks_alone (output_lines (design_of vars [] os))

  pub apart_rows : (s : ℕ × List ℕ) → Apart fits (row each s)
  apart_rows s = apart_line number_tokens (λ v. (each s.0 s.1 v).holds) apart_number

  pub alike : (os : List ℕ) → section os ≡ row_marks (heading (codes "outputs") (length os) true) ++ marks_alone (lines_behind (each (length os)) [] os)
  alike os = refl
