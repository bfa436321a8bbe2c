-- The lines that an `if` and a `case` begin with, behind their first word.
use Rattle.std.specs.Prelude.{ℕ, List, ◌++◌, codes}
use Rattle.design_tree.specs.declared.typed.Typed.{Typed}
use Rattle.cvd_text.specs.Expressions.{tokens_of}
use Rattle.cvd_text.specs.Lines.{Load, stands}
use Rattle.cvd_text.specs.Pieces.{Mark}
use Rattle.cvd_text.specs.Steps.{Around, Spot}
use Rattle.cvd_cursor.specs.Numerals.{number_tokens}
use Rattle.cvd_cursor.specs.Reads.{marks, line_marks}
use Rattle.cvd_step_laws.specs.StepMarks.{this_word, begin_line, if_line, case_line, arm_line}

abbrev pub test_marks : Around → Load → Spot → (test : Typed) × Unit {0} → List Mark
test_marks around before at p = marks tokens_of p.0 ++ line_marks (stands before (if_line around at p.0)) p.1

abbrev pub case_marks : Around → Load → Spot → (n : ℕ) × ((on : Typed) × Unit {0}) → List Mark
case_marks around before at p = marks number_tokens p.0 ++ (marks tokens_of p.1.0 ++ line_marks (stands before (case_line around at p.0 p.1.0)) p.1.1)

-- the lines at the borders of blocks and arms
abbrev pub begin_marks : Load → ℕ → (word : Unit {0}) × Unit {0} → List Mark
begin_marks before deep p = marks (this_word (codes "begin")) p.0 ++ line_marks (stands before (begin_line deep)) p.1

abbrev pub arm_line_marks : Load → (word : Unit {0}) × ((n : ℕ) × Unit {0}) → List Mark
arm_line_marks before p = marks (this_word (codes "arm")) p.0 ++ (marks number_tokens p.1.0 ++ line_marks (stands before (arm_line p.1.0)) p.1.1)
