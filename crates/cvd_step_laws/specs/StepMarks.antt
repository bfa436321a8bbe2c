-- The marks of steps, arms and blocks, whole and in the parts that are read one behind the other.
use Rattle.std.specs.Prelude.{ℕ, ◌+◌, ◌==◌, ◌&&◌, ◌||◌, true, nat_le, nat_lt, List, [], ◌∷◌, ◌++◌, codes, map, length, flat_map}
use Rattle.std.specs.List.{list_all}
use Rattle.design_tree.specs.declared.step.Piece.{Piece}
use Rattle.design_tree.specs.declared.step.Step.{Step}
use Rattle.design_tree.specs.declared.step.StepArm.{StepArm, fold-StepArm}
use Rattle.design_tree.specs.declared.step.StepItem.{StepItem}
use Rattle.design_tree.specs.declared.step.Target.{Target}
use Rattle.design_tree.specs.declared.typed.Typed.{Typed}
use Rattle.circuit_run.specs.Lists.{total}
use Rattle.design_meaning.specs.Widths.{width_of}
use Rattle.design_meaning.specs.Sizes.{nodes}
use Rattle.design_meaning.specs.Mentions.{piece_length}
use Rattle.cvd_text.specs.Tokens.{Token, word, number}
use Rattle.cvd_text.specs.Lines.{Load, Line, line, added, stands}
use Rattle.cvd_text.specs.Pieces.{Mark, marks_of}
use Rattle.cvd_text.specs.Expressions.{tokens_of}
use Rattle.cvd_text.specs.Targets.{is_expression, target_tokens, piece_tokens, is_piece, piece_nodes}
use Rattle.cvd_text.specs.Steps.{Around, Spot, spot, Sort, sets, tests, counts, other, speaks, StepText, ArmText, step_line, assigning, step_lines, arm_lines}
use Rattle.cvd_text.specs.Steps.{lines_of_step, block_lines, item_line, may_be_empty, most_deep}
use Rattle.cvd_cursor.specs.Numerals.{number_tokens, hex_tokens}
use Rattle.cvd_cursor.specs.Reads.{marks, line_marks}
use Rattle.spelling_laws.specs.Lists.{Many, state_behind, many_marks, ended_marks}
use Rattle.cvd_step_laws.specs.LineMarks.{load_behind, each_tokens, unchanged, each_lines, each_load}

-- a word that has to stand there
abbrev pub this_word : List ℕ → Unit {0} → List Token
this_word text u = word text ∷ []

-- the marks of a list of targets, and of displayed pieces
abbrev pub targets_marks : (n : ℕ) → Many Target n → List Mark
targets_marks n = many_marks (each_tokens target_tokens) unchanged n tt

abbrev pub pieces_marks : (n : ℕ) → Many Piece n → List Mark
pieces_marks n = many_marks (each_tokens piece_tokens) unchanged n tt

-- ---- the whole

-- a step that stands there, behind lines that add up to this
abbrev pub step_marks : Around → Load → Spot → Step → List Mark
step_marks around before at one = marks_of before (lines_of_step around one at)

abbrev pub lines_of_arm : Around → StepArm → ArmText
lines_of_arm around = fold-StepArm StepText ArmText (step_lines around) (arm_lines around)

-- an arm of a case of this width that stands so deep
abbrev pub arm_lines_at : Around → ℕ → ℕ → StepArm → List Line
arm_lines_at around width deep arm = lines_of_arm around arm width deep

abbrev pub arm_marks : Around → ℕ → ℕ → Load → StepArm → List Mark
arm_marks around width deep = each_lines (arm_lines_at around width deep)

abbrev pub behind_arm : Around → ℕ → ℕ → Load → StepArm → Load
behind_arm around width deep = each_load (arm_lines_at around width deep)

abbrev pub item_lines_at : Around → ℕ → StepItem → List Line
item_lines_at around width item = item_line around width item ∷ []

abbrev pub item_marks : Around → ℕ → Load → StepItem → List Mark
item_marks around width = each_lines (item_lines_at around width)

abbrev pub behind_item : Around → ℕ → Load → StepItem → Load
behind_item around width = each_load (item_lines_at around width)

abbrev pub block_lines_at : Around → ℕ → List Step → List Line
block_lines_at around deep steps = block_lines around deep (map (lines_of_step around) steps)

abbrev pub block_marks : Around → Load → ℕ → List Step → List Mark
block_marks around before deep steps = marks_of before (block_lines_at around deep steps)

-- ---- first lines

abbrev pub if_line : Around → Spot → Typed → Line
if_line around at test =
    step_line around at tests (word (codes "if") ∷ tokens_of test) (is_expression around.design test && width_of around.design test == 1) (nodes test) 0

abbrev pub case_line : Around → Spot → ℕ → Typed → Line
case_line around at n on = step_line around at other (word (codes "case") ∷ number n ∷ tokens_of on) (is_expression around.design on) (nodes on) 0

abbrev pub show_line : Around → Spot → List Piece → Line
show_line around at pieces =
    step_line around at speaks (word (codes "show") ∷ number (length pieces) ∷ flat_map piece_tokens pieces) (list_all (is_piece around.design) pieces)
    (total (map piece_nodes pieces)) (total (map (piece_length around.design) pieces))

-- `finish` and `stop`
abbrev pub ending_line : Around → Spot → List ℕ → Line
ending_line around at name = step_line around at speaks (word name ∷ []) true 0 0

abbrev pub count_line : Around → Spot → ℕ → Line
count_line around at counter = step_line around at counts (word (codes "count") ∷ number counter ∷ []) (nat_lt counter around.counters) 0 0

abbrev pub begin_line : ℕ → Line
begin_line deep = line (word (codes "begin") ∷ []) (nat_le deep most_deep)

-- behind so many steps
abbrev pub end_line : Around → ℕ → ℕ → Line
end_line around deep count = line (word (codes "end") ∷ []) (may_be_empty around.kind || nat_lt 1 deep || nat_lt 0 count)

abbrev pub arm_line : ℕ → Line
arm_line n = line (word (codes "arm") ∷ number n ∷ []) true

-- ---- the steps of a block

-- how far a block is read: what the lines add up to, and how many of its steps there are
pub record Within : Type 0 where
  pub load : Load
  pub before : ℕ

abbrev pub within : Load → ℕ → Within
within load before = record { load = load; before = before }

abbrev pub block_step : Around → ℕ → Within → Step → List Mark
block_step around deep w one = step_marks around w.load (spot deep w.before) one

abbrev pub behind_step : Around → ℕ → Within → Step → Within
behind_step around deep w one = within (load_behind w.load (lines_of_step around one (spot deep w.before))) (w.before + 1)

abbrev pub block_end : Around → ℕ → Within → List Mark
block_end around deep w = marks_of w.load (end_line around deep w.before ∷ [])

-- the steps and the block's end
abbrev pub steps_marks : Around → ℕ → Within → List Step → List Mark
steps_marks around deep = ended_marks (block_step around deep) (behind_step around deep) (block_end around deep)

-- `begin`, the end of its line, the steps
abbrev pub Block : Type 0
Block = (begin : Unit {0}) × ((ended : Unit {0}) × List Step)

abbrev pub block_parts : Around → Load → ℕ → Block → List Mark
block_parts around before deep p =
    marks (this_word (codes "begin")) p.0 ++ (line_marks (stands before (begin_line deep)) p.1.0 ++ steps_marks around deep (within before 0) p.1.1)

-- ---- items and arms

-- `item`, the mask, the value, the end of the line
abbrev pub ItemParts : Type 0
ItemParts = (name : Unit {0}) × ((mask : ℕ) × ((value : Typed) × Unit {0}))

abbrev pub item_of : ℕ → Typed → StepItem
item_of mask value = record { mask = mask; value = value }

abbrev pub item_parts : Around → ℕ → Load → ItemParts → List Mark
item_parts around width before p =
    marks (this_word (codes "item")) p.0 ++ (marks hex_tokens p.1.0 ++ (marks tokens_of p.1.1.0
    ++ line_marks (stands before (item_line around width (item_of p.1.0 p.1.1.0))) p.1.1.1))

-- `arm`, how many items, the end of the line, the items, the block
abbrev pub ArmParts : Type 0
ArmParts = (name : Unit {0}) × ((n : ℕ) × ((ended : Unit {0}) × ((items : Many StepItem n) × List Step)))

abbrev pub items_marks : Around → ℕ → Load → (n : ℕ) → Many StepItem n → List Mark
items_marks around width before n = many_marks (item_marks around width) (behind_item around width) n before

abbrev pub behind_items : Around → ℕ → Load → List StepItem → Load
behind_items around width = state_behind (item_marks around width) (behind_item around width)

abbrev pub arm_parts : Around → ℕ → ℕ → Load → ArmParts → List Mark
arm_parts around width deep before p =
    marks (this_word (codes "arm")) p.0 ++ (marks number_tokens p.1.0 ++ (line_marks (stands before (arm_line p.1.0)) p.1.1.0
    ++ (items_marks around width before p.1.0 p.1.1.1.0 ++ block_marks around (behind_items around width before p.1.1.1.0.items) (deep + 1) p.1.1.1.1)))

-- ---- steps

-- the first word of a step
pub data StepHead : Type 0 where
  a_set : StepHead
  a_later : StepHead
  an_if : StepHead
  a_case : StepHead
  a_show : StepHead
  a_finish : StepHead
  a_stop : StepHead
  a_count : StepHead

abbrev pub step_word : StepHead → List ℕ
step_word a_set = codes "set"
step_word a_later = codes "later"
step_word an_if = codes "if"
step_word a_case = codes "case"
step_word a_show = codes "show"
step_word a_finish = codes "finish"
step_word a_stop = codes "stop"
step_word a_count = codes "count"

abbrev pub step_tokens : StepHead → List Token
step_tokens h = word (step_word h) ∷ []

-- how many targets, they, the value, the end of the line
abbrev pub Assigned : Type 0
Assigned = (n : ℕ) × ((targets : Many Target n) × ((value : Typed) × Unit {0}))

-- the test, the end of the line, both blocks
abbrev pub Tested : Type 0
Tested = (test : Typed) × ((ended : Unit {0}) × ((left : List Step) × List Step))

-- how many arms, what they are compared with, the end of the line, the arms, the block for no match
abbrev pub Chosen : Type 0
Chosen = (n : ℕ) × ((on : Typed) × ((ended : Unit {0}) × ((arms : Many StepArm n) × List Step)))

-- how many pieces, they, the end of the line
abbrev pub Shown : Type 0
Shown = (n : ℕ) × ((pieces : Many Piece n) × Unit {0})

abbrev pub StepParts : StepHead → Type 0
StepParts a_set = Assigned
StepParts a_later = Assigned
StepParts an_if = Tested
StepParts a_case = Chosen
StepParts a_show = Shown
StepParts a_finish = Unit {0}
StepParts a_stop = Unit {0}
StepParts a_count = (counter : ℕ) × Unit {0}

abbrev pub assigned_marks : Around → Load → Spot → Sort → List ℕ → Assigned → List Mark
assigned_marks around before at sort name p =
    marks number_tokens p.0 ++ (targets_marks p.0 p.1.0 ++ (marks tokens_of p.1.1.0
    ++ line_marks (stands before (assigning around at sort name p.1.0.items p.1.1.0)) p.1.1.1))

abbrev pub tested_marks : Around → Load → Spot → Tested → List Mark
tested_marks around before at p =
    let behind = added before (if_line around at p.0).load in
    marks tokens_of p.0 ++ (line_marks (stands before (if_line around at p.0)) p.1.0 ++ (block_marks around behind (at.deep + 1) p.1.1.0
    ++ block_marks around (load_behind behind (block_lines_at around (at.deep + 1) p.1.1.0)) (at.deep + 1) p.1.1.1))

abbrev pub arms_marks : Around → ℕ → ℕ → Load → (n : ℕ) → Many StepArm n → List Mark
arms_marks around width deep before n = many_marks (arm_marks around width deep) (behind_arm around width deep) n before

abbrev pub behind_arms : Around → ℕ → ℕ → Load → List StepArm → Load
behind_arms around width deep = state_behind (arm_marks around width deep) (behind_arm around width deep)

abbrev pub chosen_marks : Around → Load → Spot → Chosen → List Mark
chosen_marks around before at p =
    let behind = added before (case_line around at p.0 p.1.0).load in
    let width = width_of around.design p.1.0 in
    marks number_tokens p.0 ++ (marks tokens_of p.1.0 ++ (line_marks (stands before (case_line around at p.0 p.1.0)) p.1.1.0
    ++ (arms_marks around width at.deep behind p.0 p.1.1.1.0
    ++ block_marks around (behind_arms around width at.deep behind p.1.1.1.0.items) (at.deep + 1) p.1.1.1.1)))

abbrev pub shown_marks : Around → Load → Spot → Shown → List Mark
shown_marks around before at p =
    marks number_tokens p.0 ++ (pieces_marks p.0 p.1.0 ++ line_marks (stands before (show_line around at p.1.0.items)) p.1.1)

abbrev pub counted_marks : Around → Load → Spot → (counter : ℕ) × Unit {0} → List Mark
counted_marks around before at p = marks number_tokens p.0 ++ line_marks (stands before (count_line around at p.0)) p.1

abbrev pub step_parts : Around → Load → Spot → (h : StepHead) → StepParts h → List Mark
step_parts around before at a_set p = assigned_marks around before at sets (codes "set") p
step_parts around before at a_later p = assigned_marks around before at other (codes "later") p
step_parts around before at an_if p = tested_marks around before at p
step_parts around before at a_case p = chosen_marks around before at p
step_parts around before at a_show p = shown_marks around before at p
step_parts around before at a_finish u = line_marks (stands before (ending_line around at (codes "finish"))) u
step_parts around before at a_stop u = line_marks (stands before (ending_line around at (codes "stop"))) u
step_parts around before at a_count p = counted_marks around before at p

-- the first word of a step, and its parts
abbrev pub StepWhole : Type 0
StepWhole = (h : StepHead) × StepParts h

abbrev pub step_whole : Around → Load → Spot → StepWhole → List Mark
step_whole around before at p = marks step_tokens p.0 ++ step_parts around before at p.0 p.1
