-- The lines that steps begin with: a value and the line's end.
use Rattle.std.proofs.Common.{◌≡◌, ℕ, Bool, List, [], ◌∷◌, ◌++◌, codes, sym, ap}
use Rattle.design_tree.specs.declared.typed.Typed.{Typed}
use Rattle.spelling_laws.specs.Spelled.{Apart}
use Rattle.spelling_laws.proofs.Fitting.{assoc}
use Rattle.spelling_laws.proofs.Then as after
use Rattle.spelling_laws.specs.Lists.{Many}
use Rattle.design_tree.specs.declared.step.Piece.{Piece}
use Rattle.design_tree.specs.declared.step.Target.{Target}
use Rattle.cvd_text.specs.Expressions.{tokens_of}
use Rattle.cvd_text.specs.Lines.{Load, stands}
use Rattle.cvd_text.specs.Pieces.{Mark, token, line_end, fits}
use Rattle.cvd_text.specs.Steps.{Around, Spot, Sort, assigning}
use Rattle.cvd_text.specs.Tokens.{number}
use Rattle.cvd_cursor.specs.Numerals.{number_tokens, hex_tokens}
use Rattle.cvd_cursor.specs.Reads.{marks}
use Rattle.cvd_step_laws.specs.StepMarks.{Assigned, assigned_marks, targets_marks, pieces_marks, this_word}
use Rattle.cvd_step_laws.proofs.PartsApart.{apart_word, apart_number, apart_hex, apart_value, apart_pieces}
use Rattle.cvd_nodes.proofs.Fields.{then_apart}
use Rattle.cvd_targets.specs.Lists.{Counted}
use Rattle.cvd_targets.specs.TargetParts.{Assignment, assignment_marks, counted_targets}
use Rattle.cvd_targets.specs.PieceParts.{counted_pieces}
use Rattle.cvd_targets.proofs.Assignments.{apart_counted}

-- ---- `set` and `later`

pub apart_assignment : Apart fits assignment_marks
apart_assignment = then_apart (Counted Target) Typed counted_targets (marks tokens_of) apart_counted apart_value

abbrev pub to_assigned : Assignment → Assigned
to_assigned p = (p.0.0, (p.0.1, (p.1, tt)))

abbrev pub from_assigned : Assigned → Assignment
from_assigned q = ((q.0, q.1.0), q.1.1.0)

module _ (around : Around) (before : Load) (at : Spot) (sort : Sort) (name : List ℕ) where
  abbrev pub assigned_flag : Assignment → Bool
  assigned_flag p = stands before (assigning around at sort name p.0.1.items p.1)

  pub assigned_alike_to : (p : Assignment)
      → assigned_marks around before at sort name (to_assigned p) ≡ assignment_marks p ++ line_end (assigned_flag p) ∷ []
  assigned_alike_to p =
      ap (λ l. token (number p.0.0) ∷ l) (sym (assoc (targets_marks p.0.0 p.0.1) (marks tokens_of p.1) (line_end (assigned_flag p) ∷ [])))

  pub assigned_alike : (q : Assigned)
      → assigned_marks around before at sort name q ≡ assignment_marks (from_assigned q) ++ line_end (assigned_flag (from_assigned q)) ∷ []
  assigned_alike q = assigned_alike_to (from_assigned q)

-- ---- `case`, `show`, `item`, `arm`

abbrev pub counted_value : (n : ℕ) × Typed → List Mark
counted_value p = marks number_tokens p.0 ++ marks tokens_of p.1

pub apart_counted_value : Apart fits counted_value
apart_counted_value = then_apart ℕ Typed (marks number_tokens) (marks tokens_of) apart_number apart_value

pub apart_counted_pieces : Apart fits counted_pieces
apart_counted_pieces p =
    after.apart_pair fits ℕ (Many Piece) (marks number_tokens) pieces_marks p.0 p.1 (apart_number p.0) (apart_pieces p.0 p.1)

abbrev pub Masked : Type 0
Masked = (mask : ℕ) × Typed

abbrev pub masked_marks : Masked → List Mark
masked_marks p = marks hex_tokens p.0 ++ marks tokens_of p.1

pub apart_masked : Apart fits masked_marks
apart_masked = then_apart ℕ Typed (marks hex_tokens) (marks tokens_of) apart_hex apart_value

abbrev pub Item : Type 0
Item = (word : Unit {0}) × Masked

abbrev pub item_value : Item → List Mark
item_value p = marks (this_word (codes "item")) p.0 ++ masked_marks p.1

pub apart_item_value : Apart fits item_value
apart_item_value = then_apart (Unit {0}) Masked (marks (this_word (codes "item"))) masked_marks (apart_word (codes "item")) apart_masked

abbrev pub ArmHead : Type 0
ArmHead = (word : Unit {0}) × ℕ

abbrev pub arm_value : ArmHead → List Mark
arm_value p = marks (this_word (codes "arm")) p.0 ++ marks number_tokens p.1

pub apart_arm_value : Apart fits arm_value
apart_arm_value = then_apart (Unit {0}) ℕ (marks (this_word (codes "arm"))) (marks number_tokens) (apart_word (codes "arm")) apart_number
