-- The section of toggle entries.
use Rattle.std.proofs.Common.{◌≡◌, ℕ, true, List, [], ◌++◌, length, refl}
use Rattle.std.specs.Prelude.{codes}
use Rattle.cov_types.specs.declared.var.Var.{Var}
use Rattle.design_tree.specs.declared.instrumented.ToggleEntry.{ToggleEntry}
use Rattle.spelling_laws.specs.Spelled.{Apart}
use Rattle.cvd_text.specs.Lines.{Line}
use Rattle.cvd_text.specs.Pieces.{Mark, fits}
use Rattle.cvd_text.specs.Sections.{heading, lines_behind, toggle_line, toggle_lines}
use Rattle.cvd_sections.specs.Alone.{design_of, marks_alone, row_marks}
use Rattle.cvd_sections.specs.Fields.{toggle_tokens}
use Rattle.cvd_sections.proofs.Lists.{row}
use Rattle.cvd_sections.proofs.Lines.{apart_line}
use Rattle.cvd_sections.proofs.Tokens.{apart_toggle}

abbrev pub some_toggle : ToggleEntry
some_toggle = record { var = 0; word = 0; bit = 0; counter = 0 }

module _ (vars : List Var) (counters : ℕ) where
  abbrev pub each : ℕ → List ToggleEntry → ToggleEntry → Line
  each n before t = toggle_line (design_of vars [] []) counters before t

  abbrev pub section : List ToggleEntry → List Mark
  section ts = marks_alone (toggle_lines (design_of vars [] []) counters ts)

  pub apart_rows : (s : ℕ × List ToggleEntry) → Apart fits (row each s)
  apart_rows s = apart_line toggle_tokens (λ t. (each s.0 s.1 t).holds) apart_toggle

  pub alike : (ts : List ToggleEntry) → section ts ≡ row_marks (heading (codes "toggles") (length ts) true)
      ++ marks_alone (lines_behind (each (length ts)) [] ts)
  alike ts = refl
