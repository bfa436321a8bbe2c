-- No token of the lines of steps has a blank or a line feed in it.
use Rattle.std.proofs.Common.{◌≡◌, ℕ, ◌+◌, Bool, true, List, [], ◌∷◌, ◌++◌, map, length, refl, ◌∙◌, ap}
use Rattle.std.specs.Prelude.{◌&&◌, flat_map}
use Rattle.std.specs.List.{AllByRecursion}
use Rattle.design_tree.specs.declared.step.Step.{Step}
use Rattle.design_tree.specs.declared.step.StepArm.{StepArm, fold_out-StepArm}
use Rattle.design_tree.specs.declared.step.StepItem.{StepItem}
use Rattle.design_tree.specs.declared.step.Target.{Target}
use Rattle.design_tree.specs.declared.typed.Typed.{Typed}
use Rattle.design_meaning.proofs.StepFolds.{fold-Set, fold-Later, fold-If, fold-Case, fold-Show, fold-Finish, fold-Stop, fold-Count}
use Rattle.design_meaning.proofs.StepInduction.{ArmHas, step_induction}
use Rattle.design_meaning.specs.Widths.{width_of}
use Rattle.cvd_text.specs.Tokens.{Token, number, hex}
use Rattle.cvd_text.specs.Lines.{Line}
use Rattle.cvd_text.specs.Expressions.{tokens_of}
use Rattle.cvd_text.specs.Steps.{Around, Spot, spot, StepText, ArmText, step_lines, arm_lines, lines_of_step, in_turn, item_line}
use Rattle.cvd_text.specs.Targets.{target_tokens, piece_tokens}
use Rattle.spelling_laws.proofs.Fitting.{both_true}
use Rattle.cvd_step_laws.specs.StepMarks.{lines_of_arm, arm_lines_at, block_lines_at, end_line}
use Rattle.cvd_valid_laws.proofs.Conditions.{all_join}
use Rattle.cvd_file_laws.proofs.Clean.{is_clean, all_clean, number_clean, hex_clean, typed_clean, target_clean, piece_clean, list_clean}
use Rattle.cvd_file_laws.proofs.TextPieces.{is_line, lines_clean}

pub clean_join : (ls ms : List Line) → lines_clean ls ≡ true → lines_clean ms ≡ true → lines_clean (ls ++ ms) ≡ true
clean_join ls ms p q = all_join (λ (l : Line). is_line l.tokens) ls ms p q

assigned_clean : (targets : List Target) (value : Typed) → all_clean (flat_map target_tokens targets ++ tokens_of value) ≡ true
assigned_clean targets value =
    all_join is_clean (flat_map target_tokens targets) (tokens_of value) (list_clean target_tokens target_clean targets) (typed_clean value)

module _ (around : Around) where
  abbrev IsClean : Step → Type 0
  IsClean one = (at : Spot) → lines_clean (lines_of_step around one at) ≡ true

  turn_clean : (deep k : ℕ) (steps : List Step) → AllByRecursion IsClean steps
      → lines_clean (in_turn (spot deep k) (map (lines_of_step around) steps)) ≡ true
  turn_clean deep k [] each = refl
  turn_clean deep k (one ∷ steps) each =
      clean_join (lines_of_step around one (spot deep k)) (in_turn (spot deep (k + 1)) (map (lines_of_step around) steps)) (each.0 (spot deep k))
      (turn_clean deep (k + 1) steps each.1)

  block_clean : (deep : ℕ) (steps : List Step) → AllByRecursion IsClean steps → lines_clean (block_lines_at around deep steps) ≡ true
  block_clean deep steps each =
      clean_join (in_turn (spot deep 0) (map (lines_of_step around) steps)) (end_line around deep (length (map (lines_of_step around) steps)) ∷ [])
      (turn_clean deep 0 steps each) refl

  items_clean : (width : ℕ) (items : List StepItem) → lines_clean (map (item_line around width) items) ≡ true
  items_clean width [] = refl
  items_clean width (item ∷ items) =
      both_true (is_line (item_line around width item).tokens) _ (both_true (is_clean (hexed item)) _ (hex_clean item.mask) (typed_clean item.value))
      (items_clean width items)
    where
      hexed : StepItem → Token
      hexed item = hex item.mask

  arm_clean : (width deep : ℕ) (arm : StepArm) → ArmHas IsClean arm → lines_clean (arm_lines_at around width deep arm) ≡ true
  arm_clean width deep arm each =
      ap (λ (f : ArmText). lines_clean (f width deep)) (fold_out-StepArm StepText ArmText (step_lines around) (arm_lines around) arm)
      ∙ both_true (is_clean (number (length arm.items)) && true) _
      (both_true (is_clean (number (length arm.items))) true (number_clean (length arm.items)) refl)
      (clean_join (map (item_line around width) arm.items) (block_lines_at around (deep + 1) arm.body) (items_clean width arm.items)
      (block_clean (deep + 1) arm.body each))

  arms_clean : (width deep : ℕ) (arms : List StepArm) → AllByRecursion (ArmHas IsClean) arms
      → lines_clean (flat_map (λ (arm : ArmText). arm width deep) (map (lines_of_arm around) arms)) ≡ true
  arms_clean width deep [] each = refl
  arms_clean width deep (arm ∷ arms) each =
      clean_join (arm_lines_at around width deep arm) (flat_map (λ (arm : ArmText). arm width deep) (map (lines_of_arm around) arms))
      (arm_clean width deep arm each.0) (arms_clean width deep arms each.1)

  abbrev at_spot : Spot → StepText → Bool
  at_spot at text = lines_clean (text at)

  one_line : (n : ℕ) (ts : List Token) → all_clean ts ≡ true → ((is_clean (number n) && all_clean ts) && true) ≡ true
  one_line n ts p = both_true (is_clean (number n) && all_clean ts) true (both_true (is_clean (number n)) (all_clean ts) (number_clean n) p) refl

  pub step_clean : (one : Step) → IsClean one
  step_clean = step_induction IsClean
      (λ targets value at. ap (at_spot at) (fold-Set StepText ArmText (step_lines around) (arm_lines around) targets value)
      ∙ one_line (length targets) (flat_map target_tokens targets ++ tokens_of value) (assigned_clean targets value))
      (λ targets value at. ap (at_spot at) (fold-Later StepText ArmText (step_lines around) (arm_lines around) targets value)
      ∙ one_line (length targets) (flat_map target_tokens targets ++ tokens_of value) (assigned_clean targets value))
      (λ test left right p q at. ap (at_spot at) (fold-If StepText ArmText (step_lines around) (arm_lines around) test left right)
      ∙ both_true (all_clean (tokens_of test)) _ (typed_clean test)
      (clean_join (block_lines_at around (at.deep + 1) left) (block_lines_at around (at.deep + 1) right) (block_clean (at.deep + 1) left p)
      (block_clean (at.deep + 1) right q)))
      (λ on arms rest p q at. ap (at_spot at) (fold-Case StepText ArmText (step_lines around) (arm_lines around) on arms rest)
      ∙ both_true (is_clean (number (length (map (lines_of_arm around) arms))) && all_clean (tokens_of on)) _
      (both_true (is_clean (number (length (map (lines_of_arm around) arms)))) (all_clean (tokens_of on))
      (number_clean (length (map (lines_of_arm around) arms)))
      (typed_clean on))
      (clean_join (flat_map (λ (arm : ArmText). arm (width_of around.design on) at.deep) (map (lines_of_arm around) arms))
      (block_lines_at around (at.deep + 1) rest) (arms_clean (width_of around.design on) at.deep arms p) (block_clean (at.deep + 1) rest q)))
      (λ pieces at. ap (at_spot at) (fold-Show StepText ArmText (step_lines around) (arm_lines around) pieces)
      ∙ one_line (length pieces) (flat_map piece_tokens pieces) (list_clean piece_tokens piece_clean pieces))
      (λ at. ap (at_spot at) (fold-Finish StepText ArmText (step_lines around) (arm_lines around)))
      (λ at. ap (at_spot at) (fold-Stop StepText ArmText (step_lines around) (arm_lines around)))
      (λ counter at. ap (at_spot at) (fold-Count StepText ArmText (step_lines around) (arm_lines around) counter) ∙ one_line counter [] refl)

  all_steps_clean : (steps : List Step) → AllByRecursion IsClean steps
  all_steps_clean [] = tt
  all_steps_clean (one ∷ steps) = (step_clean one, all_steps_clean steps)

  pub blocks_clean : (deep : ℕ) (steps : List Step) → lines_clean (block_lines_at around deep steps) ≡ true
  blocks_clean deep steps = block_clean deep steps (all_steps_clean steps)
