-- What the lines of steps, arms and blocks add up to, part by part.
use Rattle.std.proofs.Common.{◌≡◌, ℕ, ◌+◌, List, [], ◌∷◌, ◌++◌, codes, map, length, refl, ◌∙◌, ap}
use Rattle.std.specs.Prelude.{flat_map}
use Rattle.std.proofs.lemmas.List.Folds.{flat_map-map}
use Rattle.design_tree.specs.declared.step.Piece.{Piece}
use Rattle.design_tree.specs.declared.step.Step.{Step}
use Rattle.design_tree.specs.declared.step.Step.TheVariants as step
use Rattle.design_tree.specs.declared.step.StepArm.{StepArm}
use Rattle.design_tree.specs.declared.step.Target.{Target}
use Rattle.design_tree.specs.declared.typed.Typed.{Typed}
use Rattle.design_meaning.proofs.StepFolds.{fold-Set, fold-Later, fold-If, fold-Case, fold-Show, fold-Finish, fold-Stop, fold-Count, fold-arm}
use Rattle.design_meaning.specs.Widths.{width_of}
use Rattle.spelling_laws.specs.Lists.{state_behind}
use Rattle.cvd_text.specs.Lines.{Load, added}
use Rattle.cvd_text.specs.Steps.{Around, Spot, spot, sets, other, StepText, ArmText, assigning, step_lines, arm_lines, lines_of_step, in_turn, item_line}
use Rattle.cvd_step_laws.specs.LineMarks.{load_behind}
use Rattle.cvd_step_laws.specs.StepMarks.{lines_of_arm, arm_lines_at, behind_arms, item_lines_at, behind_items, block_lines_at, if_line, case_line, show_line}
use Rattle.cvd_step_laws.specs.StepMarks.{ending_line, count_line, end_line, Within, within, block_step, behind_step, ArmParts}
use Rattle.cvd_step_laws.proofs.LineMarks.{added_nothing, load_join, load_joined, rows_joined}
use Rattle.cvd_step_laws.proofs.StepParts.{made_arm}

module _ (around : Around) (before : Load) (at : Spot) where
  abbrev Behind : StepText → Load
  Behind text = load_behind before (text at)

  pub load_set : (targets : List Target) (value : Typed)
      → Behind (lines_of_step around (step.Set targets value)) ≡ added before (assigning around at sets (codes "set") targets value).load
  load_set targets value = ap Behind (fold-Set StepText ArmText (step_lines around) (arm_lines around) targets value)

  pub load_later : (targets : List Target) (value : Typed)
      → Behind (lines_of_step around (step.Later targets value)) ≡ added before (assigning around at other (codes "later") targets value).load
  load_later targets value = ap Behind (fold-Later StepText ArmText (step_lines around) (arm_lines around) targets value)

  pub load_show : (pieces : List Piece) → Behind (lines_of_step around (step.Show pieces)) ≡ added before (show_line around at pieces).load
  load_show pieces = ap Behind (fold-Show StepText ArmText (step_lines around) (arm_lines around) pieces)

  pub load_finish : Behind (lines_of_step around step.Finish) ≡ added before (ending_line around at (codes "finish")).load
  load_finish = ap Behind (fold-Finish StepText ArmText (step_lines around) (arm_lines around))

  pub load_stop : Behind (lines_of_step around step.Stop) ≡ added before (ending_line around at (codes "stop")).load
  load_stop = ap Behind (fold-Stop StepText ArmText (step_lines around) (arm_lines around))

  pub load_count : (counter : ℕ) → Behind (lines_of_step around (step.Count counter)) ≡ added before (count_line around at counter).load
  load_count counter = ap Behind (fold-Count StepText ArmText (step_lines around) (arm_lines around) counter)

  pub load_if : (test : Typed) (left right : List Step) → Behind (lines_of_step around (step.If test left right))
      ≡ load_behind (load_behind (added before (if_line around at test).load) (block_lines_at around (at.deep + 1) left))
      (block_lines_at around (at.deep + 1) right)
  load_if test left right =
      ap Behind (fold-If StepText ArmText (step_lines around) (arm_lines around) test left right)
      ∙ load_join (added before (if_line around at test).load) (block_lines_at around (at.deep + 1) left) (block_lines_at around (at.deep + 1) right)

  pub load_case : (n : ℕ) (on : Typed) (arms : List StepArm) (rest : List Step) → Behind (lines_of_step around (step.Case on arms rest))
      ≡ load_behind (behind_arms around (width_of around.design on) at.deep (added before (case_line around at n on).load) arms)
      (block_lines_at around (at.deep + 1) rest)
  load_case n on arms rest =
      let width = width_of around.design on in
      let front = flat_map (λ (arm : ArmText). arm width at.deep) (map (lines_of_arm around) arms) in
      let block = block_lines_at around (at.deep + 1) rest in
      let b = added before (case_line around at n on).load in
      ap Behind (fold-Case StepText ArmText (step_lines around) (arm_lines around) on arms rest)
      ∙ load_join b front block
      ∙ ap (λ ls. load_behind (load_behind b ls) block) (flat_map-map (λ (arm : ArmText). arm width at.deep) (lines_of_arm around) arms)
      ∙ ap (λ l. load_behind l block) (load_joined (arm_lines_at around width at.deep) b arms)

module _ (around : Around) (width deep : ℕ) (before : Load) where
  pub load_arm : (p : ArmParts) → load_behind before (arm_lines_at around width deep (made_arm p))
      ≡ load_behind (behind_items around width before p.1.1.1.0.items) (block_lines_at around (deep + 1) p.1.1.1.1)
  load_arm p =
      let items = p.1.1.1.0.items in
      let body = p.1.1.1.1 in
      let rows = map (item_line around width) items in
      let block = block_lines_at around (deep + 1) body in
      ap (λ (f : ArmText). load_behind before (f width deep)) (fold-arm StepText ArmText (step_lines around) (arm_lines around) items body)
      ∙ ap (λ b. load_behind b (rows ++ block)) (added_nothing before)
      ∙ load_join before rows block
      ∙ ap (λ ls. load_behind (load_behind before ls) block) (rows_joined (item_line around width) items)
      ∙ ap (λ l. load_behind l block) (load_joined (item_lines_at around width) before items)

module _ (around : Around) (deep : ℕ) where
  abbrev there : Within → List Step → Within
  there = state_behind (block_step around deep) (behind_step around deep)

  steps_load : (load : Load) (k : ℕ) (steps : List Step)
      → load_behind load (in_turn (spot deep k) (map (lines_of_step around) steps)) ≡ (there (within load k) steps).load
  steps_load load k [] = refl
  steps_load load k (one ∷ steps) =
      load_join load (lines_of_step around one (spot deep k)) (in_turn (spot deep (k + 1)) (map (lines_of_step around) steps))
      ∙ steps_load (load_behind load (lines_of_step around one (spot deep k))) (k + 1) steps

  pub load_block : (before : Load) (steps : List Step) → load_behind before (block_lines_at around deep steps) ≡ (there (within before 0) steps).load
  load_block before steps =
      let inner = in_turn (spot deep 0) (map (lines_of_step around) steps) in
      let last = end_line around deep (length (map (lines_of_step around) steps)) in
      ap (λ b. load_behind b (inner ++ last ∷ [])) (added_nothing before)
      ∙ load_join before inner (last ∷ [])
      ∙ added_nothing (load_behind before inner)
      ∙ steps_load before 0 steps
