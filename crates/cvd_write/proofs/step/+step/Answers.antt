use Rattle.std.proofs.Common.{◌≡◌, arith, refl, ℕ, List, sym, ap, ◌∙◌, ◌∷◌, [], ◌++◌, codes, map, length}
use Rattle.std.specs.List.{flat_map}
use Rattle.design_meaning.proofs.StepFolds.{fold-Set, fold-Later, fold-If, fold-Case}
use Rattle.design_tree.specs.declared.step.Step.{Step}
use Rattle.design_tree.specs.declared.step.StepArm.{StepArm}
use Rattle.design_tree.specs.declared.step.Target.{Target}
use Rattle.design_tree.specs.declared.typed.Typed.{Typed}
use Rattle.cvd_text.specs.Expressions.{tokens_of}
use Rattle.cvd_text.specs.Steps.{assigned_tokens}
use Rattle.cvd_text.specs.Tokens.{number}
use Rattle.cvd_write.specs.Writing.{row, spaced, block_text, step_row, arm_row, step_text, arm_text}
use Rattle.cvd_write.proofs.Puts.{put_behind, put_same, joined_texts, joined_arms}
use Rattle.cvd_write.proofs.step.+step.Goals as goal

-- as many texts as arms
as_many : (arms : List StepArm) → length arms ≡ length (map arm_text arms)
as_many [] = refl
as_many (a ∷ arms) = let ih = as_many arms in omega arith

abbrev inside : List (List ℕ) → List ℕ
inside texts = flat_map (λ text. text) texts

pub block-returns : goal.block-returns
block-returns t c =
    let texts = inside (map step_text c.args.steps.now) in
    put_behind c.args.out.now (codes "begin\n") (texts ++ codes "end\n") c.put.new.self _ _ c.in_ok-put.ensures
    (put_behind c.put.new.self texts (codes "end\n") c.all_steps.new.out _ _
    (c.in_ok-all_steps.ensures ∙ ap (λ l. c.put.new.self ++ l) (sym (joined_texts c.args.steps.now))) c.put-2.ensures)

abbrev assigned : List ℕ → List Target → Typed → List ℕ
assigned name targets value = row name (assigned_tokens targets value)

pub step-returns-in_ok-put-in-Set : goal.step-returns-in_ok-put-in-Set
step-returns-in_ok-put-in-Set t c =
    let value = c.in-Set.value in
    put_same _ (assigned (codes "set") c.as_slice.result.now value) _ _ _
    (ap (λ targets. assigned (codes "set") targets value) c.as_slice.ensures
    ∙ sym (ap step_text c.in-Set.is ∙ fold-Set (List ℕ) (List ℕ) step_row arm_row c.in-Set.targets value))
    (put_behind c.args.out.now (codes "set") (spaced (assigned_tokens c.as_slice.result.now value) ++ 10 ∷ []) c.put.new.self _ _ c.in_ok-put-in-Set.ensures
    c.assignment.ensures)

pub step-returns-in_ok-put-in-Later : goal.step-returns-in_ok-put-in-Later
step-returns-in_ok-put-in-Later t c =
    let value = c.in-Later.value in
    put_same _ (assigned (codes "later") c.as_slice-in-Later.result.now value) _ _ _
    (ap (λ targets. assigned (codes "later") targets value) c.as_slice-in-Later.ensures
    ∙ sym (ap step_text c.in-Later.is ∙ fold-Later (List ℕ) (List ℕ) step_row arm_row c.in-Later.targets value))
    (put_behind c.args.out.now (codes "later") (spaced (assigned_tokens c.as_slice-in-Later.result.now value) ++ 10 ∷ []) c.put-in-Later.new.self _ _
    c.in_ok-put-in-Later.ensures c.assignment-in-Later.ensures)

abbrev steps_block : List Step → List ℕ
steps_block steps = block_text (map step_text steps)

pub step-returns-in_ok-block-in-If : goal.step-returns-in_ok-block-in-If
step-returns-in_ok-block-in-If t c =
    let head = row (codes "if") (tokens_of c.in-If.test) in
    let yes = c.as_slice-in-If.result.now in
    let no = c.as_slice-in-If-2.result.now in
    put_same _ (head ++ (steps_block yes ++ steps_block no)) _ _ _
    (ap (λ steps. head ++ (steps_block steps ++ steps_block no)) c.as_slice-in-If.ensures
    ∙ ap (λ steps. head ++ (steps_block c.in-If.yes ++ steps_block steps)) c.as_slice-in-If-2.ensures
    ∙ sym (ap step_text c.in-If.is ∙ fold-If (List ℕ) (List ℕ) step_row arm_row c.in-If.test c.in-If.yes c.in-If.no))
    (put_behind c.args.out.now head (steps_block yes ++ steps_block no) c.test_line.new.out _ _ c.in_ok-test_line-in-If.ensures
    (put_behind c.test_line.new.out (steps_block yes) (steps_block no) c.block.new.out _ _ c.in_ok-block-in-If.ensures c.block-in-If.ensures))

pub step-returns-in_ok-all_arms-in-Case : goal.step-returns-in_ok-all_arms-in-Case
step-returns-in_ok-all_arms-in-Case t c =
    let on = c.in-Case.on in
    let head : ℕ → List ℕ = λ n. row (codes "case") (number n ∷ tokens_of on) in
    let given = c.as_slice-in-Case.result.now in
    let rest = c.as_slice-in-Case-2.result.now in
    let old = c.args.out.now in
    put_same _ (head c.len.result ++ (inside (map arm_text given) ++ steps_block rest)) _ _ _
    (ap (λ n. head n ++ (inside (map arm_text given) ++ steps_block rest)) c.len.ensures
    ∙ ap (λ arms. head (length c.in-Case.arms) ++ (inside (map arm_text arms) ++ steps_block rest)) c.as_slice-in-Case.ensures
    ∙ ap (λ steps. head (length c.in-Case.arms) ++ (inside (map arm_text c.in-Case.arms) ++ steps_block steps)) c.as_slice-in-Case-2.ensures
    ∙ ap (λ n. head n ++ (inside (map arm_text c.in-Case.arms) ++ steps_block c.in-Case.rest)) (as_many c.in-Case.arms)
    ∙ sym (ap step_text c.in-Case.is ∙ fold-Case (List ℕ) (List ℕ) step_row arm_row on c.in-Case.arms c.in-Case.rest))
    (put_behind old (head c.len.result) (inside (map arm_text given) ++ steps_block rest) c.case_line.new.out _ _ c.in_ok-case_line-in-Case.ensures
    (put_behind c.case_line.new.out (inside (map arm_text given)) (steps_block rest) c.all_arms.new.out _ _
    (c.in_ok-all_arms-in-Case.ensures ∙ ap (λ l. c.case_line.new.out ++ l) (sym (joined_arms given))) c.block-in-Case.ensures))
