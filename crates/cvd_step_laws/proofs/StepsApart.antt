-- No step's spelling is the front of another's, wherever it stands, nor is an arm's or a block's.
use Rattle.std.proofs.Common.{◌≡◌, ℕ, ◌+◌, List, [], ◌∷◌, ◌++◌, length, refl, sym, subst}
use Rattle.std.specs.Prelude.{codes}
use Rattle.std.specs.List.{AllByRecursion}
use Rattle.design_tree.specs.declared.step.Piece.{Piece}
use Rattle.design_tree.specs.declared.step.Step.{Step, Step-F, roll-Step, out-roll-Step}
use Rattle.design_tree.specs.declared.step.Step.TheVariants as step
use Rattle.design_tree.specs.declared.step.Step.TheOpen as s
use Rattle.design_tree.specs.declared.step.StepArm.{StepArm}
use Rattle.design_tree.specs.declared.step.StepItem.{StepItem}
use Rattle.design_tree.specs.declared.step.Target.{Target}
use Rattle.design_tree.specs.declared.typed.Typed.{Typed}
use Rattle.design_meaning.proofs.StepInduction.{ArmHas, step_induction}
use Rattle.design_meaning.specs.Widths.{width_of}
use Rattle.cvd_text.specs.Tokens.{word}
use Rattle.cvd_text.specs.Lines.{Load, added, stands}
use Rattle.cvd_text.specs.Pieces.{Mark, token, line_end, fits}
use Rattle.cvd_text.specs.Expressions.{tokens_of}
use Rattle.cvd_text.specs.Steps.{Around, Spot, Sort, sets, other, assigning}
use Rattle.cvd_cursor.specs.Reads.{marks, line_marks}
use Rattle.spelling_laws.specs.Spelled.{ApartAt, Apart}
use Rattle.spelling_laws.specs.Lists.{Many, many}
use Rattle.spelling_laws.proofs.Counted.{apart_many}
use Rattle.spelling_laws.proofs.Ended.{apart_ended}
use Rattle.spelling_laws.proofs.One as single
use Rattle.spelling_laws.proofs.Then as after
use Rattle.cvd_step_laws.specs.LineMarks.{load_behind}
use Rattle.cvd_step_laws.specs.StepMarks.{step_marks, arm_marks, behind_arm, block_lines_at, block_marks, if_line, case_line, show_line, count_line, begin_line}
use Rattle.cvd_step_laws.specs.StepMarks.{end_line, arm_line, Within, within, block_step, behind_step, block_end, steps_marks, Block, block_parts, ArmParts}
use Rattle.cvd_step_laws.specs.StepMarks.{behind_items, items_marks, arm_parts, StepHead, an_if, a_case, a_show, step_word, step_tokens, StepParts, step_parts}
use Rattle.cvd_step_laws.specs.StepMarks.{targets_marks, pieces_marks, assigned_marks, arms_marks, behind_arms, StepWhole, step_whole}
use Rattle.cvd_step_laws.proofs.StepParts.{steps_of_block, parts_of_block, block_alike, made_arm, parts_of_arm, arm_there, arm_alike, made_step, parts_of_step}
use Rattle.cvd_step_laws.proofs.StepParts.{layer_parts, step_there, step_alike}
use Rattle.cvd_step_laws.proofs.PartsApart.{apart_end, apart_targets, apart_pieces, word_then, end_then, number_then, value_then, apart_items, apart_head}
use Rattle.cvd_step_laws.proofs.PartsApart.{end_told}

abbrev pub IsApart : Step → Type 0
IsApart one = (around : Around) (before : Load) (at : Spot) → ApartAt fits (step_marks around before at) one

-- ---- blocks

abbrev end_mark : Within → Mark
end_mark w = token (word (codes "end"))

abbrev step_mark : Within → Step → Mark
step_mark w one = token (word (step_word (parts_of_step one).0))

module _ (around : Around) (deep : ℕ) where
  abbrev pub after_end : Within → List Mark
  after_end w = line_end (stands w.load (end_line around deep w.before)) ∷ []

  pub end_begins : (w : Within) → block_end around deep w ≡ token (word (codes "end")) ∷ after_end w
  end_begins w = refl

  abbrev pub after_head : Within → Step → List Mark
  after_head w one = step_parts around w.load (record { deep = deep; before = w.before }) (parts_of_step one).0 (parts_of_step one).1

  pub step_begins : (w : Within) (one : Step) → block_step around deep w one ≡ token (word (step_word (parts_of_step one).0)) ∷ after_head w one
  step_begins w one = step_alike around w.load (record { deep = deep; before = w.before }) one

  apart_steps : (w : Within) (steps : List Step) → AllByRecursion IsApart steps → ApartAt fits (steps_marks around deep w) steps
  apart_steps w steps each =
      apart_ended fits Step Within (block_step around deep) (behind_step around deep) (block_end around deep) end_mark after_end end_begins step_mark after_head
      step_begins (λ v one p e. end_told (parts_of_step one).0 p e) w steps (all_at steps each)
    where
      all_at : (steps : List Step) → AllByRecursion IsApart steps → AllByRecursion (λ one. (w : Within) → ApartAt fits (block_step around deep w) one) steps
      all_at [] each = tt
      all_at (one ∷ steps) each = (λ w. each.0 around w.load (record { deep = deep; before = w.before }), all_at steps each.1)

  block_is_apart : (before : Load) (steps : List Step) → AllByRecursion IsApart steps → ApartAt fits (λ steps. block_marks around before deep steps) steps
  block_is_apart before steps each =
      single.apart_via fits Block (List Step) (steps_of_block around deep) (parts_of_block around deep) (λ b. refl) (block_parts around before deep)
      (λ steps. block_marks around before deep steps) (block_alike around deep before) steps
      (word_then (codes "begin") _ _ _ (end_then (stands before (begin_line deep)) _ _ _ (apart_steps (within before 0) steps each)))

-- ---- arms

arm_is_apart : (arm : StepArm) → ArmHas IsApart arm → (around : Around) (width deep : ℕ) (before : Load) → ApartAt fits (arm_marks around width deep before) arm
arm_is_apart arm each around width deep before =
    single.apart_via fits ArmParts StepArm made_arm parts_of_arm arm_there (arm_parts around width deep before) (arm_marks around width deep before)
    (arm_alike around width deep before) arm
    (word_then (codes "arm") _ _ _
    (number_then (λ n. (ended : Unit {0}) × ((items : Many StepItem n) × List Step))
    (λ n q. line_marks (stands before (arm_line n)) q.0 ++ (items_marks around width before n q.1.0
    ++ block_marks around (behind_items around width before q.1.0.items) (deep + 1) q.1.1)) (length arm.items)
    (tt, (many (length arm.items) arm.items refl, arm.body))
    (end_then (stands before (arm_line (length arm.items))) _ _ _
    (after.apart_pair fits (Many StepItem (length arm.items)) (λ items. List Step) (items_marks around width before (length arm.items))
    (λ items body. block_marks around (behind_items around width before items.items) (deep + 1) body) (many (length arm.items) arm.items refl) arm.body
    (apart_items around width before (length arm.items) (many (length arm.items) arm.items refl))
    (block_is_apart around (deep + 1) (behind_items around width before arm.items) arm.body each)))))

-- ---- steps

apart_parts : (one : Step-F Step StepArm)
    → ((around : Around) (before : Load) (at : Spot)
    → ApartAt fits (step_parts around before at (layer_parts one).0) (layer_parts one).1) → IsApart (roll-Step one)
apart_parts one apart around before at =
    single.apart_via fits StepWhole Step made_step parts_of_step step_there (step_whole around before at) (step_marks around before at)
    (step_alike around before at)
    (roll-Step one)
    (subst (λ y. ApartAt fits (step_whole around before at) (layer_parts y)) (sym (out-roll-Step one))
    (after.apart_pair fits StepHead StepParts (marks step_tokens) (step_parts around before at) (layer_parts one).0 (layer_parts one).1
    (apart_head (layer_parts one).0) (apart around before at)))

apart_assigned : (sort : Sort) (name : List ℕ) (targets : List Target) (value : Typed) (around : Around) (before : Load) (at : Spot)
    → ApartAt fits (assigned_marks around before at sort name) (length targets, (many (length targets) targets refl, (value, tt)))
apart_assigned sort name targets value around before at =
    let n = length targets in
    let given = many n targets refl in
    number_then (λ n. (targets : Many Target n) × ((value : Typed) × Unit {0}))
    (λ n q. targets_marks n q.0 ++ (marks tokens_of q.1.0 ++ line_marks (stands before (assigning around at sort name q.0.items q.1.0)) q.1.1)) n
    (given, (value, tt))
    (after.apart_pair fits (Many Target n) (λ targets. (value : Typed) × Unit {0}) (targets_marks n)
    (λ targets q. marks tokens_of q.0 ++ line_marks (stands before (assigning around at sort name targets.items q.0)) q.1) given (value, tt)
    (apart_targets n given)
    (value_then (λ value. Unit {0}) (λ value. line_marks (stands before (assigning around at sort name targets value))) value tt (apart_end _ tt)))

apart_tested : (test : Typed) (left right : List Step) → AllByRecursion IsApart left → AllByRecursion IsApart right
    → (around : Around) (before : Load) (at : Spot)
    → ApartAt fits (step_parts around before at an_if) (test, (tt, (left, right)))
apart_tested test left right p q around before at =
    let behind = added before (if_line around at test).load in
    value_then (λ test. (ended : Unit {0}) × ((left : List Step) × List Step))
    (λ test q. line_marks (stands before (if_line around at test)) q.0 ++ (block_marks around (added before (if_line around at test).load) (at.deep + 1) q.1.0
    ++ block_marks around (load_behind (added before (if_line around at test).load) (block_lines_at around (at.deep + 1) q.1.0)) (at.deep + 1) q.1.1)) test
    (tt, (left, right))
    (end_then (stands before (if_line around at test)) _ _ _
    (after.apart_pair fits (List Step) (λ left. List Step) (λ left. block_marks around behind (at.deep + 1) left)
    (λ left right. block_marks around (load_behind behind (block_lines_at around (at.deep + 1) left)) (at.deep + 1) right) left right
    (block_is_apart around (at.deep + 1) behind left p)
    (block_is_apart around (at.deep + 1) (load_behind behind (block_lines_at around (at.deep + 1) left)) right q)))

arms_are_apart : (arms : List StepArm) → AllByRecursion (ArmHas IsApart) arms → (around : Around) (width deep : ℕ)
    → AllByRecursion (λ arm. (before : Load) → ApartAt fits (arm_marks around width deep before) arm) arms
arms_are_apart [] each around width deep = tt
arms_are_apart (arm ∷ arms) each around width deep = (arm_is_apart arm each.0 around width deep, arms_are_apart arms each.1 around width deep)

apart_chosen : (on : Typed) (arms : List StepArm) (rest : List Step) → AllByRecursion (ArmHas IsApart) arms → AllByRecursion IsApart rest
    → (around : Around) (before : Load) (at : Spot)
    → ApartAt fits (step_parts around before at a_case) (length arms, (on, (tt, (many (length arms) arms refl, rest))))
apart_chosen on arms rest p q around before at =
    let n = length arms in
    let given = many n arms refl in
    let width = width_of around.design on in
    let behind = added before (case_line around at n on).load in
    number_then (λ n. (on : Typed) × ((ended : Unit {0}) × ((arms : Many StepArm n) × List Step)))
    (λ n q. marks tokens_of q.0 ++ (line_marks (stands before (case_line around at n q.0)) q.1.0
    ++ (arms_marks around (width_of around.design q.0) at.deep (added before (case_line around at n q.0).load) n q.1.1.0
    ++ block_marks around (behind_arms around (width_of around.design q.0) at.deep (added before (case_line around at n q.0).load) q.1.1.0.items)
    (at.deep + 1) q.1.1.1)))
    n (on, (tt, (given, rest)))
    (value_then (λ on. (ended : Unit {0}) × ((arms : Many StepArm n) × List Step))
    (λ on q. line_marks (stands before (case_line around at n on)) q.0
    ++ (arms_marks around (width_of around.design on) at.deep (added before (case_line around at n on).load) n q.1.0
    ++ block_marks around (behind_arms around (width_of around.design on) at.deep (added before (case_line around at n on).load) q.1.0.items) (at.deep + 1)
    q.1.1))
    on (tt, (given, rest))
    (end_then (stands before (case_line around at n on)) _ _ _
    (after.apart_pair fits (Many StepArm n) (λ arms. List Step) (arms_marks around width at.deep behind n)
    (λ arms rest. block_marks around (behind_arms around width at.deep behind arms.items) (at.deep + 1) rest) given rest
    (apart_many fits StepArm Load (arm_marks around width at.deep) (behind_arm around width at.deep) n behind arms refl
    (arms_are_apart arms p around width at.deep))
    (block_is_apart around (at.deep + 1) (behind_arms around width at.deep behind arms) rest q))))

apart_shown : (pieces : List Piece) (around : Around) (before : Load) (at : Spot)
    → ApartAt fits (step_parts around before at a_show) (length pieces, (many (length pieces) pieces refl, tt))
apart_shown pieces around before at =
    let n = length pieces in
    let given = many n pieces refl in
    number_then (λ n. (pieces : Many Piece n) × Unit {0})
    (λ n q. pieces_marks n q.0 ++ line_marks (stands before (show_line around at q.0.items)) q.1) n (given, tt)
    (after.apart_pair fits (Many Piece n) (λ pieces. Unit {0}) (pieces_marks n) (λ pieces. line_marks (stands before (show_line around at pieces.items)))
    given tt
    (apart_pieces n given) (apart_end _ tt))

-- no step's spelling is the front of another's
pub step_is_apart : (one : Step) → IsApart one
step_is_apart = step_induction IsApart
    (λ targets value. subst IsApart (step.rolls-Set targets value) (apart_parts (s.Set targets value) (apart_assigned sets (codes "set") targets value)))
    (λ targets value. subst IsApart (step.rolls-Later targets value) (apart_parts (s.Later targets value) (apart_assigned other (codes "later") targets value)))
    (λ test left right p q. subst IsApart (step.rolls-If test left right) (apart_parts (s.If test left right) (apart_tested test left right p q)))
    (λ on arms rest p q. subst IsApart (step.rolls-Case on arms rest) (apart_parts (s.Case on arms rest) (apart_chosen on arms rest p q)))
    (λ pieces. subst IsApart (step.rolls-Show pieces) (apart_parts (s.Show pieces) (apart_shown pieces)))
    (subst IsApart step.rolls-Finish (apart_parts s.Finish (λ around before at. apart_end _ tt)))
    (subst IsApart step.rolls-Stop (apart_parts s.Stop (λ around before at. apart_end _ tt)))
    (λ counter. subst IsApart (step.rolls-Count counter) (apart_parts (s.Count counter) (λ around before at.
    number_then (λ n. Unit {0}) (λ n. line_marks (stands before (count_line around at n))) counter tt (apart_end _ tt))))

pub steps_are_apart : (steps : List Step) → AllByRecursion IsApart steps
steps_are_apart [] = tt
steps_are_apart (one ∷ steps) = (step_is_apart one, steps_are_apart steps)

pub apart_step : (around : Around) (before : Load) (at : Spot) → Apart fits (step_marks around before at)
apart_step around before at one = step_is_apart one around before at

pub apart_block : (around : Around) (before : Load) (deep : ℕ) → Apart fits (λ steps. block_marks around before deep steps)
apart_block around before deep steps = block_is_apart around deep before steps (steps_are_apart steps)

pub apart_arm : (around : Around) (width deep : ℕ) (before : Load) → Apart fits (arm_marks around width deep before)
apart_arm around width deep before arm = arm_is_apart arm (steps_are_apart arm.body) around width deep before

-- the steps of a block and its end
pub apart_turn : (around : Around) (deep : ℕ) (w : Within) → Apart fits (steps_marks around deep w)
apart_turn around deep w steps = apart_steps around deep w steps (steps_are_apart steps)
