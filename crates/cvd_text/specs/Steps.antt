-- The lines of steps and of blocks (docs/formats.md, "Design files").
use Rattle.std.specs.Prelude.{ℕ, ◌+◌, ◌^◌, ◌==◌, ◌&&◌, ◌||◌, Bool, true, false, not, nat_le, nat_lt, List, [], ◌∷◌, ◌++◌, codes, length, map, flat_map}
use Rattle.std.specs.List.{list_all}
use Rattle.cov_types.specs.declared.kind.ProcessKind.{ProcessKind}
use Rattle.cov_types.specs.declared.kind.ProcessKind.TheVariants.{Assign, Comb, Cover}
use Rattle.design_tree.specs.declared.design.Design.{Design}
use Rattle.design_tree.specs.declared.step.Step.{Step, Step-F, fold-Step}
use Rattle.design_tree.specs.declared.step.Step.TheOpen as s
use Rattle.design_tree.specs.declared.step.StepItem.{StepItem}
use Rattle.design_tree.specs.declared.step.Target.{Target}
use Rattle.design_tree.specs.declared.typed.Typed.{Typed}
use Rattle.circuit_run.specs.Lists.{total}
use Rattle.design_meaning.specs.Widths.{width_of}
use Rattle.design_meaning.specs.Sizes.{nodes}
use Rattle.design_meaning.specs.Mentions.{piece_length}
use Rattle.cvd_text.specs.Tokens.{Token, word, number, hex}
use Rattle.cvd_text.specs.Lines.{Line, line}
use Rattle.cvd_text.specs.Expressions.{tokens_of}
use Rattle.cvd_text.specs.Targets.{is_expression, takes_value, target_tokens, piece_tokens, is_piece, piece_nodes, assigned_nodes}

-- what the steps of a process are written in: the variables of the design, the number of counters, and the kind of the process
pub record Around : Type 0 where
  pub design : Design
  pub counters : ℕ
  pub kind : ProcessKind

-- where in a process a step stands: how deep its block is, and how many steps of the block come before it
pub record Spot : Type 0 where
  pub deep : ℕ
  pub before : ℕ

abbrev pub spot : ℕ → ℕ → Spot
spot deep before = record { deep = deep; before = before }

-- what of a step decides where it may stand
pub data Sort : Type 0 where
  sets : Sort
  tests : Sort
  counts : Sort
  other : Sort
  -- `show`, `finish` and `stop`
  speaks : Sort

abbrev pub is_own_block : Spot → Bool
is_own_block at = at.deep == 1

-- An assignment is one `set` alone. A cover is one `if` with `count` steps alone. What is displayed, and what ends a run,
-- stands in clocked and initial processes alone.
abbrev pub may_stand : ProcessKind → Spot → Sort → Bool
may_stand Assign at sets = at.before == 0
may_stand Assign at _ = false
may_stand Cover at tests = is_own_block at && at.before == 0
may_stand Cover at counts = not (is_own_block at)
may_stand Cover at _ = false
may_stand Comb at speaks = false
may_stand _ at _ = true

-- the line that a step begins with
abbrev pub step_line : Around → Spot → Sort → List Token → Bool → ℕ → ℕ → Line
step_line around at sort tokens holds of shown = record {
  tokens = tokens;
  holds = may_stand around.kind at sort && holds;
  load = record { bits = 0; steps = 1; nodes = of; shown = shown };
}

-- a step's lines, by where it stands; an arm's, by the width of what the case compares and how deep the case stands
abbrev pub StepText : Type 0
StepText = Spot → List Line

abbrev pub ArmText : Type 0
ArmText = ℕ → ℕ → List Line

abbrev pub in_turn : Spot → List StepText → List Line
in_turn at [] = []
in_turn at (step ∷ steps) = step at ++ in_turn (spot at.deep (at.before + 1)) steps

-- the own block of an assignment or a cover isn't empty
abbrev pub may_be_empty : ProcessKind → Bool
may_be_empty Assign = false
may_be_empty Cover = false
may_be_empty _ = true

-- blocks are at most so deep
abbrev pub most_deep : ℕ
most_deep = 700

-- `begin`, the steps, `end`
abbrev pub block_lines : Around → ℕ → List StepText → List Line
block_lines around deep steps =
    line (word (codes "begin") ∷ []) (nat_le deep most_deep) ∷ in_turn (spot deep 0) steps
    ++ line (word (codes "end") ∷ []) (may_be_empty around.kind || nat_lt 1 deep || nat_lt 0 (length steps)) ∷ []

abbrev pub assigned_tokens : List Target → Typed → List Token
assigned_tokens targets value = number (length targets) ∷ flat_map target_tokens targets ++ tokens_of value

abbrev pub assigning : Around → Spot → Sort → List ℕ → List Target → Typed → Line
assigning around at sort name targets value =
    step_line around at sort (word name ∷ assigned_tokens targets value) (takes_value around.design around.kind targets value)
    (assigned_nodes targets value) 0

abbrev pub step_lines : Around → Step-F StepText ArmText → StepText
step_lines around (s.Set targets value) at = assigning around at sets (codes "set") targets value ∷ []
step_lines around (s.Later targets value) at = assigning around at other (codes "later") targets value ∷ []
step_lines around (s.If test left right) at =
    step_line around at tests (word (codes "if") ∷ tokens_of test) (is_expression around.design test && width_of around.design test == 1) (nodes test) 0
    ∷ block_lines around (at.deep + 1) left ++ block_lines around (at.deep + 1) right
step_lines around (s.Case on arms rest) at =
    step_line around at other (word (codes "case") ∷ number (length arms) ∷ tokens_of on) (is_expression around.design on) (nodes on) 0
    ∷ flat_map (λ arm. arm (width_of around.design on) at.deep) arms ++ block_lines around (at.deep + 1) rest
step_lines around (s.Show pieces) at =
    step_line around at speaks (word (codes "show") ∷ number (length pieces) ∷ flat_map piece_tokens pieces) (list_all (is_piece around.design) pieces)
    (total (map piece_nodes pieces)) (total (map (piece_length around.design) pieces)) ∷ []
step_lines around s.Finish at = step_line around at speaks (word (codes "finish") ∷ []) true 0 0 ∷ []
step_lines around s.Stop at = step_line around at speaks (word (codes "stop") ∷ []) true 0 0 ∷ []
step_lines around (s.Count counter) at = step_line around at counts (word (codes "count") ∷ number counter ∷ []) (nat_lt counter around.counters) 0 0 ∷ []

-- an item has the width of what is compared, and ones inside it
abbrev pub item_line : Around → ℕ → StepItem → Line
item_line around width item = record {
  tokens = word (codes "item") ∷ hex item.mask ∷ tokens_of item.value;
  holds = is_expression around.design item.value && width_of around.design item.value == width && nat_lt item.mask (2 ^ width);
  load = record { bits = 0; steps = 0; nodes = nodes item.value; shown = 0 };
}

abbrev pub arm_lines : Around → s.StepArm-F StepText ArmText → ArmText
arm_lines around arm width deep =
    line (word (codes "arm") ∷ number (length arm.items) ∷ []) true ∷ map (item_line around width) arm.items ++ block_lines around (deep + 1) arm.body

-- the lines of a step
abbrev pub lines_of_step : Around → Step → StepText
lines_of_step around = fold-Step StepText ArmText (step_lines around) (arm_lines around)

-- the lines of the block of a process
abbrev pub body_lines : Around → List Step → List Line
body_lines around steps = block_lines around 1 (map (lines_of_step around) steps)
