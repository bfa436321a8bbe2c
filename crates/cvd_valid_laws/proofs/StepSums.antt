-- What the lines of steps add up to, by any measure that goes the same way through a step.
use Rattle.std.proofs.Common.{◌≡◌, ℕ, ◌+◌, List, [], ◌∷◌, map, length, refl, ◌∙◌, ap, arith}
use Rattle.std.specs.Prelude.{flat_map}
use Rattle.std.specs.List.{AllByRecursion}
use Rattle.design_tree.specs.declared.step.Piece.{Piece}
use Rattle.design_tree.specs.declared.step.Step.{Step}
use Rattle.design_tree.specs.declared.step.Step.TheVariants as step
use Rattle.design_tree.specs.declared.step.StepArm.{StepArm, fold_out-StepArm}
use Rattle.design_tree.specs.declared.step.StepItem.{StepItem}
use Rattle.design_tree.specs.declared.step.Target.{Target}
use Rattle.design_tree.specs.declared.typed.Typed.{Typed}
use Rattle.circuit_run.specs.Lists.{total}
use Rattle.design_meaning.proofs.StepFolds.{fold-Set, fold-Later, fold-If, fold-Case, fold-Show, fold-Finish, fold-Stop, fold-Count}
use Rattle.design_meaning.proofs.StepInduction.{ArmHas, step_induction}
use Rattle.design_meaning.specs.Mentions.{piece_length}
use Rattle.design_meaning.specs.Sizes.{nodes}
use Rattle.design_meaning.specs.Widths.{width_of}
use Rattle.cvd_text.specs.Lines.{Load, no_load}
use Rattle.cvd_text.specs.Steps.{Around, Spot, spot, StepText, ArmText, step_lines, arm_lines, lines_of_step, in_turn, item_line}
use Rattle.cvd_text.specs.Targets.{assigned_nodes, piece_nodes}
use Rattle.cvd_step_laws.specs.StepMarks.{lines_of_arm, arm_lines_at, block_lines_at, end_line}
use Rattle.cvd_valid_laws.proofs.Standing.{sum_of, sum_join}

-- what a line with a step adds, and one with an item
abbrev pub step_load : ℕ → ℕ → Load
step_load of shown = record { bits = 0; steps = 1; nodes = of; shown = shown }

abbrev pub item_load : ℕ → Load
item_load of = record { bits = 0; steps = 0; nodes = of; shown = 0 }

abbrev pub item_sum : (Load → ℕ) → List StepItem → ℕ
item_sum f items = total (map (λ (item : StepItem). f (item_load (nodes item.value))) items)

module _ (around : Around) (f : Load → ℕ) (none : f no_load ≡ 0) (measure : Step → ℕ) (arm_measure : StepArm → ℕ)
    (at_set : (targets : List Target) (value : Typed) → measure (step.Set targets value) ≡ f (step_load (assigned_nodes targets value) 0))
    (at_later : (targets : List Target) (value : Typed) → measure (step.Later targets value) ≡ f (step_load (assigned_nodes targets value) 0))
    (at_if : (test : Typed) (left right : List Step)
    → measure (step.If test left right) ≡ f (step_load (nodes test) 0) + total (map measure left) + total (map measure right))
    (at_case : (on : Typed) (arms : List StepArm) (rest : List Step)
    → measure (step.Case on arms rest) ≡ f (step_load (nodes on) 0) + total (map arm_measure arms) + total (map measure rest))
    (at_show : (pieces : List Piece)
    → measure (step.Show pieces) ≡ f (step_load (total (map piece_nodes pieces)) (total (map (piece_length around.design) pieces))))
    (at_finish : measure step.Finish ≡ f (step_load 0 0)) (at_stop : measure step.Stop ≡ f (step_load 0 0))
    (at_count : (counter : ℕ) → measure (step.Count counter) ≡ f (step_load 0 0))
    (at_arm : (arm : StepArm) → arm_measure arm ≡ item_sum f arm.items + total (map measure arm.body)) where
  abbrev Adds : Step → Type 0
  Adds one = (at : Spot) → sum_of f (lines_of_step around one at) ≡ measure one

  turn_adds : (deep k : ℕ) (steps : List Step) → AllByRecursion Adds steps
      → sum_of f (in_turn (spot deep k) (map (lines_of_step around) steps)) ≡ total (map measure steps)
  turn_adds deep k [] each = refl
  turn_adds deep k (one ∷ steps) each =
      let here = lines_of_step around one (spot deep k) in
      let more = in_turn (spot deep (k + 1)) (map (lines_of_step around) steps) in
      let a = each.0 (spot deep k) in
      let b = turn_adds deep (k + 1) steps each.1 in
      let c = sum_join f here more in
      omega arith

  block_adds : (deep : ℕ) (steps : List Step) → AllByRecursion Adds steps → sum_of f (block_lines_at around deep steps) ≡ total (map measure steps)
  block_adds deep steps each =
      let turn = in_turn (spot deep 0) (map (lines_of_step around) steps) in
      let ends = end_line around deep (length (map (lines_of_step around) steps)) ∷ [] in
      let a = turn_adds deep 0 steps each in
      let b = sum_join f turn ends in
      omega (arith, none)

  items_add : (width : ℕ) (items : List StepItem) → sum_of f (map (item_line around width) items) ≡ item_sum f items
  items_add width [] = refl
  items_add width (item ∷ items) = ap (λ n. f (item_load (nodes item.value)) + n) (items_add width items)

  arm_adds : (width deep : ℕ) (arm : StepArm) → ArmHas Adds arm → sum_of f (arm_lines_at around width deep arm) ≡ arm_measure arm
  arm_adds width deep arm each =
      let rows = map (item_line around width) arm.items in
      let block = block_lines_at around (deep + 1) arm.body in
      let a = items_add width arm.items in
      let b = block_adds (deep + 1) arm.body each in
      let c = sum_join f rows block in
      let g = at_arm arm in
      ap (λ (g : ArmText). sum_of f (g width deep)) (fold_out-StepArm StepText ArmText (step_lines around) (arm_lines around) arm) ∙ omega (arith, none)

  arms_add : (width deep : ℕ) (arms : List StepArm) → AllByRecursion (ArmHas Adds) arms
      → sum_of f (flat_map (λ (arm : ArmText). arm width deep) (map (lines_of_arm around) arms)) ≡ total (map arm_measure arms)
  arms_add width deep [] each = refl
  arms_add width deep (arm ∷ arms) each =
      let here = arm_lines_at around width deep arm in
      let more = flat_map (λ (arm : ArmText). arm width deep) (map (lines_of_arm around) arms) in
      let a = arm_adds width deep arm each.0 in
      let b = arms_add width deep arms each.1 in
      let c = sum_join f here more in
      omega arith

  abbrev at_spot : Spot → StepText → ℕ
  at_spot at text = sum_of f (text at)

  if_adds : (test : Typed) (left right : List Step) → AllByRecursion Adds left → AllByRecursion Adds right → Adds (step.If test left right)
  if_adds test left right p q at =
      let first = block_lines_at around (at.deep + 1) left in
      let second = block_lines_at around (at.deep + 1) right in
      let a = block_adds (at.deep + 1) left p in
      let b = block_adds (at.deep + 1) right q in
      let c = sum_join f first second in
      let g = at_if test left right in
      ap (at_spot at) (fold-If StepText ArmText (step_lines around) (arm_lines around) test left right) ∙ omega arith

  case_adds : (on : Typed) (arms : List StepArm) (rest : List Step) → AllByRecursion (ArmHas Adds) arms → AllByRecursion Adds rest
      → Adds (step.Case on arms rest)
  case_adds on arms rest p q at =
      let width = width_of around.design on in
      let first = flat_map (λ (arm : ArmText). arm width at.deep) (map (lines_of_arm around) arms) in
      let second = block_lines_at around (at.deep + 1) rest in
      let a = arms_add width at.deep arms p in
      let b = block_adds (at.deep + 1) rest q in
      let c = sum_join f first second in
      let g = at_case on arms rest in
      ap (at_spot at) (fold-Case StepText ArmText (step_lines around) (arm_lines around) on arms rest) ∙ omega arith

  pub step_adds : (one : Step) → Adds one
  step_adds = step_induction Adds
      (λ targets value at. let g = at_set targets value in
      ap (at_spot at) (fold-Set StepText ArmText (step_lines around) (arm_lines around) targets value) ∙ omega arith)
      (λ targets value at. let g = at_later targets value in
      ap (at_spot at) (fold-Later StepText ArmText (step_lines around) (arm_lines around) targets value) ∙ omega arith)
      if_adds case_adds
      (λ pieces at. let g = at_show pieces in ap (at_spot at) (fold-Show StepText ArmText (step_lines around) (arm_lines around) pieces) ∙ omega arith)
      (λ at. ap (at_spot at) (fold-Finish StepText ArmText (step_lines around) (arm_lines around)) ∙ omega (arith, at_finish))
      (λ at. ap (at_spot at) (fold-Stop StepText ArmText (step_lines around) (arm_lines around)) ∙ omega (arith, at_stop))
      (λ counter at. let g = at_count counter in ap (at_spot at) (fold-Count StepText ArmText (step_lines around) (arm_lines around) counter) ∙ omega arith)

  all_add : (steps : List Step) → AllByRecursion Adds steps
  all_add [] = tt
  all_add (one ∷ steps) = (step_adds one, all_add steps)

  pub blocks_add : (deep : ℕ) (steps : List Step) → sum_of f (block_lines_at around deep steps) ≡ total (map measure steps)
  blocks_add deep steps = block_adds deep steps (all_add steps)
