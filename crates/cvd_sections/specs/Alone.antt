-- Sections whose lines add nothing to what is limited, as marks.
use Rattle.std.specs.Prelude.{ℕ, List, [], ◌∷◌, ◌++◌, map, flat_map}
use Rattle.cov_types.specs.declared.var.Var.{Var}
use Rattle.design_tree.specs.declared.design.Design.{Design}
use Rattle.design_tree.specs.declared.design.Input.{Input}
use Rattle.cvd_text.specs.Lines.{Line}
use Rattle.cvd_text.specs.Pieces.{Mark, token, line_end}

-- the marks of a line that stands where its own conditions hold
abbrev pub row_marks : Line → List Mark
row_marks l = map token l.tokens ++ line_end l.holds ∷ []

abbrev pub marks_alone : List Line → List Mark
marks_alone ls = flat_map row_marks ls

-- variables with inputs and outputs, as a design
abbrev pub design_of : List Var → List Input → List ℕ → Design
design_of vars inputs outputs = record { vars = vars; inputs = inputs; outputs = outputs; processes = [] }
