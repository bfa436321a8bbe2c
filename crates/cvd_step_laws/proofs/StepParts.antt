-- Blocks, items, arms and steps are spelled by their parts.
use Rattle.std.proofs.Common.{◌≡◌, ℕ, ◌+◌, List, [], ◌∷◌, ◌++◌, map, length, refl, sym, ◌∙◌, ap, arith, append_assoc}
use Rattle.std.specs.Prelude.{flat_map, codes}
use Rattle.std.proofs.lemmas.List.{length-map}
use Rattle.std.proofs.lemmas.List.Folds.{flat_map-map}
use Rattle.design_tree.specs.declared.step.Step.{Step, Step-F, out-Step, roll-Step, roll-out-Step}
use Rattle.design_tree.specs.declared.step.Step.TheVariants as step
use Rattle.design_tree.specs.declared.step.Step.TheOpen as s
use Rattle.design_tree.specs.declared.step.StepArm.{StepArm, roll-StepArm, roll-out-StepArm}
use Rattle.design_tree.specs.declared.step.StepItem.{StepItem}
use Rattle.design_tree.specs.declared.typed.Typed.{Typed}
use Rattle.design_tree.specs.declared.typed.Typed.TheVariants as typed
use Rattle.design_meaning.proofs.StepFolds.{fold-Set, fold-Later, fold-If, fold-Case, fold-Show, fold-Finish, fold-Stop, fold-Count, fold-arm}
use Rattle.design_meaning.specs.Widths.{width_of}
use Rattle.cvd_text.specs.Tokens.{word, number}
use Rattle.cvd_text.specs.Lines.{Load, Line, added, stands}
use Rattle.cvd_text.specs.Pieces.{Mark, token, line_end, marks_of}
use Rattle.cvd_text.specs.Expressions.{tokens_of}
use Rattle.cvd_text.specs.Targets.{target_tokens, piece_tokens}
use Rattle.cvd_text.specs.Steps.{Around, Spot, spot, Sort, sets, other, StepText, ArmText, assigning, step_lines, arm_lines, lines_of_step, in_turn, item_line}
use Rattle.spelling_laws.specs.Lists.{many, state_behind, all_marks}
use Rattle.cvd_step_laws.specs.LineMarks.{load_behind, each_tokens, unchanged}
use Rattle.cvd_step_laws.specs.StepMarks.{step_marks, lines_of_arm, arm_lines_at, arm_marks, behind_arm, item_lines_at, item_marks, behind_item, block_lines_at}
use Rattle.cvd_step_laws.specs.StepMarks.{block_marks, if_line, case_line, show_line, begin_line, end_line, arm_line, Within, within, block_step, behind_step}
use Rattle.cvd_step_laws.specs.StepMarks.{Block, block_parts, ItemParts, item_of, item_parts, ArmParts, behind_items, arm_parts, StepHead, a_set, a_later}
use Rattle.cvd_step_laws.specs.StepMarks.{an_if, a_case, a_show, a_finish, a_stop, a_count, StepParts, Assigned, Tested, Chosen, Shown, assigned_marks}
use Rattle.cvd_step_laws.specs.StepMarks.{tested_marks, chosen_marks, shown_marks, StepWhole, step_whole}
use Rattle.cvd_step_laws.proofs.LineMarks.{marks_join, marks_plain, each_joined, load_joined, rows_joined, tokens_listed, tokens_behind}

-- ---- blocks

module _ (around : Around) (deep : ℕ) where
  abbrev all_steps : Within → List Step → List Mark
  all_steps = all_marks (block_step around deep) (behind_step around deep)

  abbrev behind : Within → List Step → Within
  behind = state_behind (block_step around deep) (behind_step around deep)

  steps_turn : (load : Load) (k : ℕ) (steps : List Step) (ls : List Line)
      → marks_of load (in_turn (spot deep k) (map (lines_of_step around) steps) ++ ls)
      ≡ all_steps (within load k) steps ++ marks_of (behind (within load k) steps).load ls
  steps_turn load k [] ls = refl
  steps_turn load k (one ∷ steps) ls =
      let here = lines_of_step around one (spot deep k) in
      let more = in_turn (spot deep (k + 1)) (map (lines_of_step around) steps) in
      let w = behind_step around deep (within load k) one in
      ap (marks_of load) (append_assoc here more ls) ∙ marks_join load here (more ++ ls)
      ∙ ap (λ z. marks_of load here ++ z) (steps_turn (load_behind load here) (k + 1) steps ls)
      ∙ sym (append_assoc (marks_of load here) (all_steps w steps) (marks_of (behind w steps).load ls))

  pub count_behind : (w : Within) (steps : List Step) → (behind w steps).before ≡ w.before + length steps
  count_behind w [] = omega arith
  count_behind w (one ∷ steps) = let more = count_behind (behind_step around deep w one) steps in omega arith

  abbrev pub steps_of_block : Block → List Step
  steps_of_block p = p.1.1

  abbrev pub parts_of_block : List Step → Block
  parts_of_block steps = (tt, (tt, steps))

  pub block_alike : (before : Load) (steps : List Step) → block_marks around before deep steps ≡ block_parts around before deep (parts_of_block steps)
  block_alike before steps =
      let turn = in_turn (spot deep 0) (map (lines_of_step around) steps) in
      let w = behind (within before 0) steps in
      let count : length (map (lines_of_step around) steps) ≡ w.before
      = length-map steps (lines_of_step around) ∙ (let c = count_behind (within before 0) steps in omega arith) in
      marks_plain before (word (codes "begin") ∷ []) (begin_line deep).holds (turn ++ end_line around deep (length (map (lines_of_step around) steps)) ∷ [])
      ∙ ap (λ z. token (word (codes "begin")) ∷ line_end (stands before (begin_line deep)) ∷ z)
      (ap (λ n. marks_of before (turn ++ end_line around deep n ∷ [])) count ∙ steps_turn before 0 steps (end_line around deep w.before ∷ []))

-- ---- items

abbrev pub made_item : ItemParts → StepItem
made_item p = item_of p.1.0 p.1.1.0

abbrev pub parts_of_item : StepItem → ItemParts
parts_of_item item = (tt, (item.mask, (item.value, tt)))

pub item_alike : (around : Around) (width : ℕ) (before : Load) (item : StepItem)
    → item_marks around width before item ≡ item_parts around width before (parts_of_item item)
item_alike around width before item = refl

-- ---- arms

abbrev pub made_arm : ArmParts → StepArm
made_arm p = roll-StepArm (record { items = p.1.1.1.0.items; body = p.1.1.1.1 })

abbrev pub parts_of_arm : StepArm → ArmParts
parts_of_arm arm = (tt, (length arm.items, (tt, (many (length arm.items) arm.items refl, arm.body))))

pub arm_there : (arm : StepArm) → made_arm (parts_of_arm arm) ≡ arm
arm_there arm = roll-out-StepArm arm

module _ (around : Around) (width deep : ℕ) (before : Load) where
  pub arm_alike_to : (p : ArmParts) → arm_marks around width deep before (made_arm p) ≡ arm_parts around width deep before p
  arm_alike_to p =
      let items = p.1.1.1.0.items in
      let body = p.1.1.1.1 in
      let rows = map (item_line around width) items in
      let block = block_lines_at around (deep + 1) body in
      ap (λ f. marks_of before (f width deep)) (fold-arm StepText ArmText (step_lines around) (arm_lines around) items body)
      ∙ marks_plain before (word (codes "arm") ∷ number (length items) ∷ []) (arm_line (length items)).holds (rows ++ block)
      ∙ ap (λ z. token (word (codes "arm")) ∷ token (number (length items)) ∷ line_end (stands before (arm_line (length items))) ∷ z)
      (marks_join before rows block
      ∙ ap (λ l. marks_of before l ++ marks_of (load_behind before l) block) (rows_joined (item_line around width) items)
      ∙ ap (λ z. z ++ marks_of (load_behind before (flat_map (item_lines_at around width) items)) block) (each_joined (item_lines_at around width) before items)
      ∙ ap (λ b. all_marks (item_marks around width) (behind_item around width) before items
      ++ marks_of b block) (load_joined (item_lines_at around width) before
      items))
      ∙ ap (λ n. token (word (codes "arm")) ∷ token (number n) ∷ line_end (stands before (arm_line n)) ∷ (all_marks (item_marks around width)
      (behind_item around width) before items ++ marks_of (behind_items around width before items) block)) p.1.1.1.0.count

  pub arm_alike : (arm : StepArm) → arm_marks around width deep before arm ≡ arm_parts around width deep before (parts_of_arm arm)
  arm_alike arm = ap (arm_marks around width deep before) (sym (arm_there arm)) ∙ arm_alike_to (parts_of_arm arm)

-- ---- steps

abbrev pub made : (h : StepHead) → StepParts h → Step
made a_set p = step.Set p.1.0.items p.1.1.0
made a_later p = step.Later p.1.0.items p.1.1.0
made an_if p = step.If p.0 p.1.1.0 p.1.1.1
made a_case p = step.Case p.1.0 p.1.1.1.0.items p.1.1.1.1
made a_show p = step.Show p.1.0.items
made a_finish u = step.Finish
made a_stop u = step.Stop
made a_count p = step.Count p.0

abbrev pub made_step : StepWhole → Step
made_step p = made p.0 p.1

abbrev pub layer_parts : Step-F Step StepArm → StepWhole
layer_parts (s.Set targets value) = (a_set, (length targets, (many (length targets) targets refl, (value, tt))))
layer_parts (s.Later targets value) = (a_later, (length targets, (many (length targets) targets refl, (value, tt))))
layer_parts (s.If test left right) = (an_if, (test, (tt, (left, right))))
layer_parts (s.Case on arms rest) = (a_case, (length arms, (on, (tt, (many (length arms) arms refl, rest)))))
layer_parts (s.Show pieces) = (a_show, (length pieces, (many (length pieces) pieces refl, tt)))
layer_parts s.Finish = (a_finish, tt)
layer_parts s.Stop = (a_stop, tt)
layer_parts (s.Count counter) = (a_count, (counter, tt))

abbrev pub parts_of_step : Step → StepWhole
parts_of_step one = layer_parts (out-Step one)

there_layer : (x : Step-F Step StepArm) → made_step (layer_parts x) ≡ roll-Step x
there_layer (s.Set targets value) = sym (step.rolls-Set targets value)
there_layer (s.Later targets value) = sym (step.rolls-Later targets value)
there_layer (s.If test left right) = sym (step.rolls-If test left right)
there_layer (s.Case on arms rest) = sym (step.rolls-Case on arms rest)
there_layer (s.Show pieces) = sym (step.rolls-Show pieces)
there_layer s.Finish = sym step.rolls-Finish
there_layer s.Stop = sym step.rolls-Stop
there_layer (s.Count counter) = sym (step.rolls-Count counter)

pub step_there : (one : Step) → made_step (parts_of_step one) ≡ one
step_there one = there_layer (out-Step one) ∙ roll-out-Step one

module _ (around : Around) (before : Load) (at : Spot) where
  abbrev Lines : StepText → List Mark
  Lines text = marks_of before (text at)

  assigned_alike : (sort : Sort) (name : List ℕ) (p : Assigned)
      → marks_of before (assigning around at sort name p.1.0.items p.1.1.0 ∷ []) ≡ token (word name) ∷ assigned_marks around before at sort name p
  assigned_alike sort name p =
      let targets = p.1.0.items in
      let value = p.1.1.0 in
      let mark = line_end (stands before (assigning around at sort name targets value)) in
      ap (λ z. token (word name) ∷ token (number (length targets)) ∷ z) (tokens_behind target_tokens targets (tokens_of value) (mark ∷ []))
      ∙ ap (λ n. token (word name) ∷ token (number n) ∷ (all_marks (each_tokens target_tokens) unchanged tt targets ++ (map token (tokens_of value)
      ++ mark ∷ []))) p.1.0.count

  chosen_alike : (p : Chosen) → Lines (step_lines around (s.Case p.1.0 (map (lines_of_arm around) p.1.1.1.0.items) (map (lines_of_step around) p.1.1.1.1)))
      ≡ token (word (codes "case")) ∷ chosen_marks around before at p
  chosen_alike p =
      let on = p.1.0 in
      let arms = p.1.1.1.0.items in
      let width = width_of around.design on in
      let texts = map (lines_of_arm around) arms in
      let block = block_lines_at around (at.deep + 1) p.1.1.1.1 in
      let head = case_line around at p.0 on in
      let b = added before head.load in
      let front = flat_map (λ (arm : ArmText). arm width at.deep) texts in
      let lines = flat_map (arm_lines_at around width at.deep) arms in
      ap (λ n. token (word (codes "case")) ∷ token (number n) ∷ (map token (tokens_of on) ++ line_end (stands before head) ∷ marks_of b (front ++ block)))
      (length-map arms (lines_of_arm around) ∙ p.1.1.1.0.count)
      ∙ ap (λ z. token (word (codes "case")) ∷ token (number p.0) ∷ (map token (tokens_of on) ++ line_end (stands before head) ∷ z))
      (ap (λ l. marks_of b (l ++ block)) (flat_map-map (λ (arm : ArmText). arm width at.deep) (lines_of_arm around) arms)
      ∙ marks_join b lines block
      ∙ ap (λ z. z ++ marks_of (load_behind b lines) block) (each_joined (arm_lines_at around width at.deep) b arms)
      ∙ ap (λ c. all_marks (arm_marks around width at.deep) (behind_arm around width at.deep) b arms ++ marks_of c block)
      (load_joined (arm_lines_at around width at.deep) b arms))

  tested_alike : (p : Tested) → Lines (step_lines around (s.If p.0 (map (lines_of_step around) p.1.1.0) (map (lines_of_step around) p.1.1.1)))
      ≡ token (word (codes "if")) ∷ tested_marks around before at p
  tested_alike p =
      let head = if_line around at p.0 in
      ap (λ z. token (word (codes "if")) ∷ (map token (tokens_of p.0) ++ line_end (stands before head) ∷ z))
      (marks_join (added before head.load) (block_lines_at around (at.deep + 1) p.1.1.0) (block_lines_at around (at.deep + 1) p.1.1.1))

  shown_alike : (p : Shown) → Lines (step_lines around (s.Show p.1.0.items)) ≡ token (word (codes "show")) ∷ shown_marks around before at p
  shown_alike p =
      let pieces = p.1.0.items in
      let mark = line_end (stands before (show_line around at pieces)) in
      ap (λ z. token (word (codes "show")) ∷ token (number (length pieces)) ∷ z) (tokens_listed piece_tokens pieces (mark ∷ []))
      ∙ ap (λ n. token (word (codes "show")) ∷ token (number n) ∷ (all_marks (each_tokens piece_tokens) unchanged tt pieces ++ mark ∷ [])) p.1.0.count

  made_alike : (h : StepHead) (p : StepParts h) → step_marks around before at (made h p) ≡ step_whole around before at (h, p)
  made_alike a_set p = ap Lines (fold-Set StepText ArmText (step_lines around) (arm_lines around) p.1.0.items p.1.1.0) ∙ assigned_alike sets (codes "set") p
  made_alike a_later p = ap Lines (fold-Later StepText ArmText (step_lines around) (arm_lines around) p.1.0.items p.1.1.0)
      ∙ assigned_alike other (codes "later") p
  made_alike an_if p = ap Lines (fold-If StepText ArmText (step_lines around) (arm_lines around) p.0 p.1.1.0 p.1.1.1) ∙ tested_alike p
  made_alike a_case p = ap Lines (fold-Case StepText ArmText (step_lines around) (arm_lines around) p.1.0 p.1.1.1.0.items p.1.1.1.1) ∙ chosen_alike p
  made_alike a_show p = ap Lines (fold-Show StepText ArmText (step_lines around) (arm_lines around) p.1.0.items) ∙ shown_alike p
  made_alike a_finish u = ap Lines (fold-Finish StepText ArmText (step_lines around) (arm_lines around))
  made_alike a_stop u = ap Lines (fold-Stop StepText ArmText (step_lines around) (arm_lines around))
  made_alike a_count p = ap Lines (fold-Count StepText ArmText (step_lines around) (arm_lines around) p.0)

  pub step_alike_to : (p : StepWhole) → step_marks around before at (made_step p) ≡ step_whole around before at p
  step_alike_to p = made_alike p.0 p.1

  pub step_alike : (one : Step) → step_marks around before at one ≡ step_whole around before at (parts_of_step one)
  step_alike one = ap (step_marks around before at) (sym (step_there one)) ∙ step_alike_to (parts_of_step one)

-- some parts of each step
pub some_value : Typed
some_value = typed.Number 1 0

pub some_parts : (h : StepHead) → StepParts h
some_parts a_set = (0, (many 0 [] refl, (some_value, tt)))
some_parts a_later = (0, (many 0 [] refl, (some_value, tt)))
some_parts an_if = (some_value, (tt, ([], [])))
some_parts a_case = (0, (some_value, (tt, (many 0 [] refl, []))))
some_parts a_show = (0, (many 0 [] refl, tt))
some_parts a_finish = tt
some_parts a_stop = tt
some_parts a_count = (0, tt)
