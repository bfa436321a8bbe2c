-- The text of steps is that of their lines, wherever they stand.
use Rattle.std.specs.Prelude.{◌≡◌, ℕ, ◌+◌, ◌==◌, ◌&&◌, ◌||◌, true, nat_lt, List, [], ◌∷◌, ◌++◌, codes, map, flat_map, length, refl}
use Rattle.std.proofs.Common.{sym, ap, ◌∙◌}
use Rattle.std.proofs.lemmas.List.{append-nil, length-map}
use Rattle.std.specs.List.{AllByRecursion, list_all}
use Rattle.design_tree.specs.declared.step.Piece.{Piece}
use Rattle.design_tree.specs.declared.step.Step.{Step}
use Rattle.design_tree.specs.declared.step.Step.TheVariants as step
use Rattle.design_tree.specs.declared.step.StepArm.{StepArm, fold-StepArm, fold_out-StepArm}
use Rattle.design_tree.specs.declared.step.StepItem.{StepItem}
use Rattle.design_tree.specs.declared.typed.Typed.{Typed}
use Rattle.design_meaning.proofs.StepFolds.{fold-Set, fold-Later, fold-If, fold-Case, fold-Show, fold-Finish, fold-Stop, fold-Count}
use Rattle.design_meaning.proofs.StepInduction.{ArmHas, step_induction}
use Rattle.design_meaning.specs.Widths.{width_of}
use Rattle.cvd_text.specs.Tokens.{Token, word, number, hex, token_text}
use Rattle.cvd_text.specs.Lines.{Line, line, line_text, lines_text}
use Rattle.cvd_text.specs.Expressions.{tokens_of}
use Rattle.cvd_text.specs.Steps.{Around, Spot, spot, StepText, ArmText, sets, tests, counts, other, speaks, step_line, assigning, step_lines, arm_lines}
use Rattle.cvd_text.specs.Steps.{lines_of_step, in_turn, block_lines, item_line, may_be_empty}
use Rattle.cvd_text.specs.Targets.{is_expression, piece_tokens, is_piece, piece_nodes}
use Rattle.circuit_run.specs.Lists.{total}
use Rattle.design_meaning.specs.Sizes.{nodes}
use Rattle.design_meaning.specs.Mentions.{piece_length}
use Rattle.cvd_write.specs.Writing.{row, block_text, step_row, arm_row, item_row, step_text, arm_text}
use Rattle.cvd_write.proofs.Lines.{a_line, lines_joined}

-- one line alone
single : (first : Token) (tokens : List Token) (l : Line) → l.tokens ≡ first ∷ tokens → lines_text (l ∷ []) ≡ row (token_text first) tokens
single first tokens l e = append-nil (line_text l) ∙ a_line first tokens l e

-- a line and further lines
headed : (first : Token) (tokens : List Token) (l : Line) (ls : List Line) (text : List ℕ) → l.tokens ≡ first ∷ tokens → lines_text ls ≡ text
    → lines_text (l ∷ ls) ≡ row (token_text first) tokens ++ text
headed first tokens l ls text e f = ap (λ t. t ++ lines_text ls) (a_line first tokens l e) ∙ ap (λ t. row (token_text first) tokens ++ t) f

abbrev arm_of : Around → StepArm → ArmText
arm_of around = fold-StepArm StepText ArmText (step_lines around) (arm_lines around)

-- the first lines of steps that have further ones
abbrev if_line : Around → Spot → Typed → Line
if_line around at test =
    step_line around at tests (word (codes "if") ∷ tokens_of test) (is_expression around.design test && width_of around.design test == 1) (nodes test) 0

abbrev case_line : Around → Spot → ℕ → Typed → Line
case_line around at n on = step_line around at other (word (codes "case") ∷ number n ∷ tokens_of on) (is_expression around.design on) (nodes on) 0

abbrev show_line : Around → Spot → List Piece → Line
show_line around at pieces =
    step_line around at speaks (word (codes "show") ∷ number (length pieces) ∷ flat_map piece_tokens pieces) (list_all (is_piece around.design) pieces)
    (total (map piece_nodes pieces)) (total (map (piece_length around.design) pieces))

abbrev Same : Step → Type 0
Same one = (around : Around) (at : Spot) → lines_text (lines_of_step around one at) ≡ step_text one

steps_same : (steps : List Step) → AllByRecursion Same steps → (around : Around) (at : Spot)
    → lines_text (in_turn at (map (lines_of_step around) steps)) ≡ flat_map (λ (text : List ℕ). text) (map step_text steps)
steps_same [] h around at = refl
steps_same (one ∷ steps) h around at =
    lines_joined (lines_of_step around one at) (in_turn (spot at.deep (at.before + 1)) (map (lines_of_step around) steps))
    ∙ ap (λ l. l ++ lines_text (in_turn (spot at.deep (at.before + 1)) (map (lines_of_step around) steps))) (h.0 around at)
    ∙ ap (λ l. step_text one ++ l) (steps_same steps h.1 around (spot at.deep (at.before + 1)))

abbrev end_line : Around → ℕ → List StepText → Line
end_line around deep steps = line (word (codes "end") ∷ []) (may_be_empty around.kind || nat_lt 1 deep || nat_lt 0 (length steps))

block_same : (steps : List Step) → AllByRecursion Same steps → (around : Around) (deep : ℕ)
    → lines_text (block_lines around deep (map (lines_of_step around) steps)) ≡ block_text (map step_text steps)
block_same steps h around deep =
    ap (λ l. codes "begin\n" ++ l)
    (lines_joined (in_turn (spot deep 0) (map (lines_of_step around) steps)) (end_line around deep (map (lines_of_step around) steps) ∷ [])
    ∙ ap (λ l. l ++ codes "end\n") (steps_same steps h around (spot deep 0)))

items_same : (around : Around) (width : ℕ) (items : List StepItem) → lines_text (map (item_line around width) items) ≡ flat_map item_row items
items_same around width [] = refl
items_same around width (item ∷ items) =
    headed (word (codes "item")) (hex item.mask ∷ tokens_of item.value) (item_line around width item) (map (item_line around width) items)
    (flat_map item_row items)
    refl (items_same around width items)

arm_same : (arm : StepArm) → ArmHas Same arm → (around : Around) (width deep : ℕ) → lines_text (arm_of around arm width deep) ≡ arm_text arm
arm_same arm h around width deep =
    ap (λ f. lines_text (f width deep)) (fold_out-StepArm StepText ArmText (step_lines around) (arm_lines around) arm)
    ∙ headed (word (codes "arm")) (number (length arm.items) ∷ []) (line (word (codes "arm") ∷ number (length arm.items) ∷ []) true)
    (map (item_line around width) arm.items ++ block_lines around (deep + 1) (map (lines_of_step around) arm.body))
    (flat_map item_row arm.items ++ block_text (map step_text arm.body)) refl
    (lines_joined (map (item_line around width) arm.items) (block_lines around (deep + 1) (map (lines_of_step around) arm.body))
    ∙ ap (λ l. l ++ lines_text (block_lines around (deep + 1) (map (lines_of_step around) arm.body))) (items_same around width arm.items)
    ∙ ap (λ l. flat_map item_row arm.items ++ l) (block_same arm.body h around (deep + 1)))
    ∙ sym (fold_out-StepArm (List ℕ) (List ℕ) step_row arm_row arm)

arms_same : (arms : List StepArm) → AllByRecursion (ArmHas Same) arms → (around : Around) (width deep : ℕ)
    → lines_text (flat_map (λ (arm : ArmText). arm width deep) (map (arm_of around) arms)) ≡ flat_map (λ (text : List ℕ). text) (map arm_text arms)
arms_same [] h around width deep = refl
arms_same (arm ∷ arms) h around width deep =
    lines_joined (arm_of around arm width deep) (flat_map (λ (a : ArmText). a width deep) (map (arm_of around) arms))
    ∙ ap (λ l. l ++ lines_text (flat_map (λ (a : ArmText). a width deep) (map (arm_of around) arms))) (arm_same arm h.0 around width deep)
    ∙ ap (λ l. arm_text arm ++ l) (arms_same arms h.1 around width deep)

at_place : (around : Around) (at : Spot) (one : Step) (lines : StepText) → lines_of_step around one ≡ lines
    → lines_text (lines_of_step around one at) ≡ lines_text (lines at)
at_place around at one lines e = ap (λ f. lines_text (f at)) e

pub step_same : (one : Step) → Same one
step_same = step_induction Same
    (λ targets value around at. at_place around at (step.Set targets value) _ (fold-Set StepText ArmText (step_lines around) (arm_lines around) targets value)
    ∙ single (word (codes "set")) _ (assigning around at sets (codes "set") targets value) refl
    ∙ sym (fold-Set (List ℕ) (List ℕ) step_row arm_row targets value))
    (λ targets value around at. at_place around at (step.Later targets value) _
    (fold-Later StepText ArmText (step_lines around) (arm_lines around) targets value)
    ∙ single (word (codes "later")) _ (assigning around at other (codes "later") targets value) refl
    ∙ sym (fold-Later (List ℕ) (List ℕ) step_row arm_row targets value))
    (λ test left right p q around at. at_place around at (step.If test left right) _
    (fold-If StepText ArmText (step_lines around) (arm_lines around) test left right)
    ∙ headed (word (codes "if")) (tokens_of test) (if_line around at test)
    (block_lines around (at.deep + 1) (map (lines_of_step around) left) ++ block_lines around (at.deep + 1) (map (lines_of_step around) right))
    (block_text (map step_text left) ++ block_text (map step_text right)) refl
    (lines_joined (block_lines around (at.deep + 1) (map (lines_of_step around) left)) (block_lines around (at.deep + 1) (map (lines_of_step around) right))
    ∙ ap (λ l. l ++ lines_text (block_lines around (at.deep + 1) (map (lines_of_step around) right))) (block_same left p around (at.deep + 1))
    ∙ ap (λ l. block_text (map step_text left) ++ l) (block_same right q around (at.deep + 1)))
    ∙ sym (fold-If (List ℕ) (List ℕ) step_row arm_row test left right))
    (λ on arms rest p q around at. choice on arms rest p q around at)
    (λ pieces around at. at_place around at (step.Show pieces) _ (fold-Show StepText ArmText (step_lines around) (arm_lines around) pieces)
    ∙ single (word (codes "show")) _ (show_line around at pieces) refl ∙ sym (fold-Show (List ℕ) (List ℕ) step_row arm_row pieces))
    (λ around at. at_place around at step.Finish _ (fold-Finish StepText ArmText (step_lines around) (arm_lines around))
    ∙ single (word (codes "finish")) _ (step_line around at speaks (word (codes "finish") ∷ []) true 0 0) refl
    ∙ sym (fold-Finish (List ℕ) (List ℕ) step_row arm_row))
    (λ around at. at_place around at step.Stop _ (fold-Stop StepText ArmText (step_lines around) (arm_lines around))
    ∙ single (word (codes "stop")) _ (step_line around at speaks (word (codes "stop") ∷ []) true 0 0) refl ∙ sym (fold-Stop (List ℕ) (List ℕ) step_row arm_row))
    (λ counter around at. at_place around at (step.Count counter) _ (fold-Count StepText ArmText (step_lines around) (arm_lines around) counter)
    ∙ single (word (codes "count")) _ (step_line around at counts (word (codes "count") ∷ number counter ∷ []) (nat_lt counter around.counters) 0 0) refl
    ∙ sym (fold-Count (List ℕ) (List ℕ) step_row arm_row counter))
  where
    choice : (on : Typed) (arms : List StepArm) (rest : List Step) → AllByRecursion (ArmHas Same) arms → AllByRecursion Same rest
        → Same (step.Case on arms rest)
    choice on arms rest p q around at =
        let width = width_of around.design on in
        let lines = flat_map (λ (arm : ArmText). arm width at.deep) (map (arm_of around) arms) in
        let after = block_lines around (at.deep + 1) (map (lines_of_step around) rest) in
        at_place around at (step.Case on arms rest) _ (fold-Case StepText ArmText (step_lines around) (arm_lines around) on arms rest)
        ∙ headed (word (codes "case")) (number (length (map (arm_of around) arms)) ∷ tokens_of on)
        (case_line around at (length (map (arm_of around) arms)) on) (lines ++ after)
        (flat_map (λ (text : List ℕ). text) (map arm_text arms) ++ block_text (map step_text rest)) refl
        (lines_joined lines after ∙ ap (λ l. l ++ lines_text after) (arms_same arms p around width at.deep)
        ∙ ap (λ l. flat_map (λ (text : List ℕ). text) (map arm_text arms) ++ l) (block_same rest q around (at.deep + 1)))
        ∙ ap (λ n. row (codes "case") (number n ∷ tokens_of on) ++ (flat_map (λ (text : List ℕ). text) (map arm_text arms) ++ block_text (map step_text rest)))
        (length-map arms (arm_of around) ∙ sym (length-map arms arm_text))
        ∙ sym (fold-Case (List ℕ) (List ℕ) step_row arm_row on arms rest)

pub body_same : (around : Around) (steps : List Step) (deep : ℕ)
    → lines_text (block_lines around deep (map (lines_of_step around) steps)) ≡ block_text (map step_text steps)
body_same around steps deep = block_same steps (each steps) around deep
  where
    each : (steps : List Step) → AllByRecursion Same steps
    each [] = tt
    each (one ∷ more) = (step_same one, each more)
