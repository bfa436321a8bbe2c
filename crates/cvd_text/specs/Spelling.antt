-- The text of a design (docs/formats.md, "Design files").
use Rattle.std.specs.Prelude.{◌≡◌, ℕ, nat_le, true, IsTrue, List, [], ◌∷◌, ◌++◌, codes}
use Rattle.design_tree.specs.declared.instrumented.Instrumented.{Instrumented}
use Rattle.design_meaning.specs.Valid.{IsValid}
use Rattle.cvd_text.specs.Tokens.{word}
use Rattle.cvd_text.specs.Lines.{Line, line, lines_text, no_load, all_stand}
use Rattle.cvd_text.specs.Sections.{heading, var_lines, input_lines, output_lines, processes_lines, toggle_lines, point_lines}

-- the first line, and the last
abbrev pub first_line : Line
first_line = line (word (codes "CVD") ∷ word (codes "1") ∷ []) true

abbrev pub last_line : Line
last_line = line (word (codes "end") ∷ []) true

-- there are at most so many counters
abbrev pub most_counters : ℕ
most_counters = 4194304

-- the lines of a design, whatever its conditions
abbrev pub design_lines : Instrumented → List Line
design_lines x =
    first_line
    ∷ heading (codes "counters") x.counters (nat_le x.counters most_counters)
    ∷ var_lines x.design.vars
    ++ (input_lines x.design
    ++ (output_lines x.design
    ++ (processes_lines x.design x.counters
    ++ (toggle_lines x.design x.counters x.toggles
    ++ (point_lines x.counters x.points
    ++ last_line ∷ [])))))

-- the spelling of a design, whatever its conditions
abbrev pub spelling : Instrumented → List ℕ
spelling x = lines_text (design_lines x)

-- no line of the design breaks a condition; that this is so exactly of valid designs is a law
abbrev pub AllStand : Instrumented → Type 0
AllStand x = IsTrue (all_stand no_load (design_lines x))

-- the text is that of the design, which is valid
pub record Cvd (x : Instrumented) (text : List ℕ) : Type 0 where
  pub valid : IsValid x
  pub spelled : text ≡ spelling x
