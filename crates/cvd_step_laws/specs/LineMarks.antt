-- The marks of lines behind others, and of lists of tokens and of lines.
use Rattle.std.specs.Prelude.{List, [], ◌∷◌, map}
use Rattle.cov_types.specs.declared.var.Var.{Var}
use Rattle.design_tree.specs.declared.design.Design.{Design}
use Rattle.cvd_text.specs.Tokens.{Token}
use Rattle.cvd_text.specs.Lines.{Load, Line, added}
use Rattle.cvd_text.specs.Pieces.{Mark, token, marks_of}

-- what lines add up to, behind others
abbrev pub load_behind : Load → List Line → Load
load_behind before [] = before
load_behind before (l ∷ ls) = load_behind (added before l.load) ls

-- values of a list that are told by their tokens, whatever comes before them
abbrev pub each_tokens : {A : Type 0} → (A → List Token) → Unit {0} → A → List Mark
each_tokens tokens u x = map token (tokens x)

abbrev pub unchanged : {A : Type 0} → Unit {0} → A → Unit {0}
unchanged u x = u

-- values of a list that have lines, behind a load, and the load behind them
abbrev pub each_lines : {A : Type 0} → (A → List Line) → Load → A → List Mark
each_lines lines before x = marks_of before (lines x)

abbrev pub each_load : {A : Type 0} → (A → List Line) → Load → A → Load
each_load lines before x = load_behind before (lines x)

-- a design of these variables and nothing else
abbrev pub with_vars : List Var → Design
with_vars vars = record { vars = vars; inputs = []; outputs = []; processes = [] }
