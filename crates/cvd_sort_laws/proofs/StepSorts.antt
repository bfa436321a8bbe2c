-- Where marks of steps come next, either all are numbers, or none is.
use Rattle.std.proofs.Common.{◌≡◌, ℕ, zero, suc, ◌+◌, ◌≤◌, Bool, true, false, List, [], ◌∷◌, ◌++◌, map, length, refl, sym, ◌∙◌, ap, arith}
use Rattle.std.specs.Prelude.{codes}
use Rattle.std.proofs.lemmas.Bool.{true≢false}
use Rattle.design_tree.specs.declared.step.Piece.{Piece}
use Rattle.design_tree.specs.declared.step.Step.{Step}
use Rattle.design_tree.specs.declared.step.StepArm.{StepArm}
use Rattle.design_tree.specs.declared.step.StepItem.{StepItem}
use Rattle.design_tree.specs.declared.step.Target.{Target}
use Rattle.design_tree.specs.declared.typed.Typed.{Typed}
use Rattle.design_meaning.specs.Widths.{width_of}
use Rattle.cvd_text.specs.Tokens.{Token, word, number, hex}
use Rattle.cvd_text.specs.Lines.{Load, added, stands}
use Rattle.cvd_text.specs.Pieces.{Piece as TextPiece, Mark, token, line_end, fits}
use Rattle.cvd_text.specs.Expressions.{tokens_of}
use Rattle.cvd_text.specs.Steps.{Around, Spot, Sort, sets, other, assigning, item_line}
use Rattle.cvd_text.specs.Targets.{target_tokens, piece_tokens}
use Rattle.cvd_cursor.specs.Numerals.{number_tokens, hex_tokens}
use Rattle.cvd_cursor.specs.Reads.{marks, line_marks}
use Rattle.spelling_laws.specs.Spelled.{all_fit, Apart, Awaits}
use Rattle.spelling_laws.specs.Lists.{Many}
use Rattle.spelling_laws.proofs.Counted.{all_apart}
use Rattle.spelling_laws.proofs.Ended.{apart_choice}
use Rattle.spelling_laws.proofs.Fitting.{head_or}
use Rattle.spelling_laws.proofs.ListSorts.{sorted_via, sorted_then, many_sorted, choice_sorted, ended_sorted}
use Rattle.spelling_laws.proofs.Sorts.{sorts_one, sorts_pair}
use Rattle.cvd_laws.proofs.Marks.{apart_marks}
use Rattle.cvd_laws.proofs.Pieces.{apart_piece}
use Rattle.cvd_laws.proofs.Targets.{apart_target}
use Rattle.cvd_laws.proofs.TypedSorts.{sorted_typed}
use Rattle.cvd_step_laws.specs.LineMarks.{load_behind, each_tokens, unchanged}
use Rattle.cvd_step_laws.specs.StepMarks.{this_word, targets_marks, pieces_marks, step_marks, arm_marks, behind_arm, item_marks, behind_item, block_lines_at}
use Rattle.cvd_step_laws.specs.StepMarks.{block_marks, if_line, case_line, show_line, count_line, begin_line, end_line, arm_line, Within, within, block_step}
use Rattle.cvd_step_laws.specs.StepMarks.{behind_step, block_end, steps_marks, Block, block_parts, ItemParts, item_of, item_parts, ArmParts, behind_items}
use Rattle.cvd_step_laws.specs.StepMarks.{items_marks, arm_parts, StepHead, a_set, a_later, an_if, a_case, a_show, a_finish, a_stop, a_count, step_word}
use Rattle.cvd_step_laws.specs.StepMarks.{step_tokens, StepParts, step_parts, Assigned, assigned_marks, tested_marks, chosen_marks, arms_marks, behind_arms}
use Rattle.cvd_step_laws.specs.StepMarks.{StepWhole, step_whole}
use Rattle.cvd_step_laws.proofs.PartsApart.{apart_end, apart_word, apart_number, apart_hex, apart_value, apart_targets, apart_pieces, apart_item, apart_items}
use Rattle.cvd_step_laws.proofs.PartsApart.{apart_head, end_told}
use Rattle.cvd_step_laws.proofs.StepParts.{parts_of_block, block_alike, parts_of_arm, arm_alike, parts_of_item, item_alike, parts_of_step, step_alike}
use Rattle.cvd_step_laws.proofs.StepsApart.{after_end, end_begins, after_head, step_begins, apart_step, apart_arm, apart_block}
use Rattle.cvd_sort_laws.proofs.TokenSorts.{MarkSort, has_sort, MarksSorted, lifted, sorted_number, sorted_end, sorted_target, sorted_piece}

module _ (of : MarkSort) where
  -- ---- one behind another

  pub then_sorts : (A : Type 0) (B : A → Type 0) (sA : A → List Mark) (sB : (a : A) → B a → List Mark) (most : ℕ) → Apart fits sA → MarksSorted of most sA
      → ((a : A) → MarksSorted of most (sB a)) → MarksSorted of most (λ (p : (a : A) × B a). sA p.0 ++ sB p.0 p.1)
  then_sorts = sorted_then fits (has_sort of)

  module _ (most : ℕ) where
    pub numbers : MarksSorted of most (marks number_tokens)
    numbers = lifted number_tokens of most (sorted_number most)

    pub hexes : MarksSorted of most (marks hex_tokens)
    hexes = sorts_one fits (has_sort of) ℕ (λ n. token (hex n)) (λ v w. refl) most

    pub this : (text : List ℕ) → MarksSorted of most (marks (this_word text))
    this text = sorts_one fits (has_sort of) (Unit {0}) (λ u. token (word text)) (λ v w. refl) most

    pub values : MarksSorted of most (marks tokens_of)
    values = lifted tokens_of of most (sorted_typed most)

    pub number_then : (B : ℕ → Type 0) (s : (n : ℕ) → B n → List Mark) → ((n : ℕ) → MarksSorted of most (s n))
        → MarksSorted of most (λ (p : (n : ℕ) × B n). marks number_tokens p.0 ++ s p.0 p.1)
    number_then B s h = then_sorts ℕ B (marks number_tokens) s most apart_number numbers h

    pub value_then : (B : Typed → Type 0) (s : (v : Typed) → B v → List Mark) → ((v : Typed) → MarksSorted of most (s v))
        → MarksSorted of most (λ (p : (v : Typed) × B v). marks tokens_of p.0 ++ s p.0 p.1)
    value_then B s h = then_sorts Typed B (marks tokens_of) s most apart_value values h

    pub word_then : (text : List ℕ) (B : Type 0) (s : B → List Mark) → MarksSorted of most s
        → MarksSorted of most (λ (p : (u : Unit {0}) × B). marks (this_word text) p.0 ++ s p.1)
    word_then text B s h = then_sorts (Unit {0}) (λ u. B) (marks (this_word text)) (λ u. s) most (apart_word text) (this text) (λ u. h)

    pub end_then : (stand : Bool) (B : Type 0) (s : B → List Mark) → MarksSorted of most s
        → MarksSorted of most (λ (p : (u : Unit {0}) × B). line_marks stand p.0 ++ s p.1)
    end_then stand B s h = then_sorts (Unit {0}) (λ u. B) (line_marks stand) (λ u. s) most (apart_end stand) (sorted_end of most stand) (λ u. h)

    targets : (n : ℕ) → MarksSorted of most (targets_marks n)
    targets n =
        many_sorted fits (has_sort of) Target (Unit {0}) (each_tokens target_tokens) unchanged (λ u t. apart_marks target_tokens t (apart_target t)) most
        (λ u. lifted target_tokens of most (sorted_target most)) n tt

    pieces : (n : ℕ) → MarksSorted of most (pieces_marks n)
    pieces n =
        many_sorted fits (has_sort of) Piece (Unit {0}) (each_tokens piece_tokens) unchanged (λ u p. apart_marks piece_tokens p (apart_piece p)) most
        (λ u. lifted piece_tokens of most (sorted_piece most)) n tt

    module _ (around : Around) where
      items : (width : ℕ) (before : Load) (n : ℕ) → MarksSorted of most (items_marks around width before n)
      items width before n =
          many_sorted fits (has_sort of) StepItem Load (item_marks around width) (behind_item around width) (apart_item around width) most (λ b. one b) n before
        where
          one : (b : Load) → MarksSorted of most (item_marks around width b)
          one b =
              sorted_via fits (has_sort of) ItemParts StepItem parts_of_item (item_parts around width b) (item_marks around width b)
              (item_alike around width b) most
              (word_then (codes "item") _ _
              (then_sorts ℕ (λ mask. (value : Typed) × Unit {0}) (marks hex_tokens)
              (λ mask q. marks tokens_of q.0 ++ line_marks (stands b (item_line around width (item_of mask q.0))) q.1) most apart_hex hexes
              (λ mask. value_then (λ value. Unit {0}) (λ value. line_marks (stands b (item_line around width (item_of mask value))))
              (λ value. sorted_end of most _))))

      assigned : (before : Load) (at : Spot) (sort : Sort) (name : List ℕ) → MarksSorted of most (assigned_marks around before at sort name)
      assigned before at sort name =
          number_then (λ n. (targets : Many Target n) × ((value : Typed) × Unit {0}))
          (λ n q. targets_marks n q.0 ++ (marks tokens_of q.1.0 ++ line_marks (stands before (assigning around at sort name q.0.items q.1.0)) q.1.1))
          (λ n. then_sorts (Many Target n) (λ targets. (value : Typed) × Unit {0}) (targets_marks n)
          (λ targets q. marks tokens_of q.0
          ++ line_marks (stands before (assigning around at sort name targets.items q.0)) q.1) most (apart_targets n) (targets n)
          (λ given. value_then (λ value. Unit {0}) (λ value. line_marks (stands before (assigning around at sort name given.items value)))
          (λ value. sorted_end of most _)))

      -- ---- with the steps inside

      module _ (steps : (before : Load) (at : Spot) → MarksSorted of most (step_marks around before at)) where
        turn : (deep : ℕ) (w : Within) → MarksSorted of most (steps_marks around deep w)
        turn deep =
            ended_sorted fits (has_sort of) Step Within (block_step around deep) (behind_step around deep) (block_end around deep) first (after_end around deep)
            (end_begins around deep) head (after_head around deep) (step_begins around deep) told (λ s t x. refl) (λ s t. refl)
            (λ w. apart_choice fits Step Within (block_step around deep) (behind_step around deep) (block_end around deep) first (after_end around deep)
            (end_begins around deep) head (after_head around deep) (step_begins around deep) told w
            (apart_step around w.load (record { deep = deep; before = w.before })))
            most
            (λ w. choice_sorted fits (has_sort of) Step Within (block_step around deep) (behind_step around deep) (block_end around deep) first
            (after_end around deep)
            (end_begins around deep) head (after_head around deep) (step_begins around deep) told (λ s t x. refl) (λ s t. refl) most w
            (steps w.load (record { deep = deep; before = w.before })) (ends w))
          where
            first : Within → Mark
            first w = token (word (codes "end"))

            head : Within → Step → Mark
            head w one = token (word (step_word (parts_of_step one).0))

            told : (w : Within) (one : Step) (p : TextPiece) → fits p (first w) ≡ true → fits p (head w one) ≡ false
            told w one p e = end_told (parts_of_step one).0 p e

            ends : (w : Within) → MarksSorted of most (λ (u : Unit {0}). block_end around deep w)
            ends w =
                sorted_via fits (has_sort of) ((u : Unit {0}) × Unit {0}) (Unit {0}) (λ u. (tt, tt))
                (λ p. marks (this_word (codes "end")) p.0
                ++ line_marks (stands w.load (end_line around deep w.before)) p.1) (λ u. block_end around deep w) (λ u. refl) most
                (word_then (codes "end") (Unit {0}) (line_marks (stands w.load (end_line around deep w.before))) (sorted_end of most _))

        blocks : (before : Load) (deep : ℕ) → MarksSorted of most (λ body. block_marks around before deep body)
        blocks before deep =
            sorted_via fits (has_sort of) Block (List Step) (parts_of_block around deep) (block_parts around before deep)
            (λ body. block_marks around before deep body)
            (block_alike around deep before) most
            (word_then (codes "begin") _ _
            (end_then (stands before (begin_line deep)) (List Step) (steps_marks around deep (within before 0)) (turn deep (within before 0))))

        arm : (width deep : ℕ) (before : Load) → MarksSorted of most (arm_marks around width deep before)
        arm width deep before =
            sorted_via fits (has_sort of) ArmParts StepArm parts_of_arm (arm_parts around width deep before) (arm_marks around width deep before)
            (arm_alike around width deep before) most
            (word_then (codes "arm") _ _
            (number_then (λ n. (ended : Unit {0}) × ((its : Many StepItem n) × List Step))
            (λ n q. line_marks (stands before (arm_line n)) q.0 ++ (items_marks around width before n q.1.0
            ++ block_marks around (behind_items around width before q.1.0.items) (deep + 1) q.1.1))
            (λ n. end_then (stands before (arm_line n)) ((its : Many StepItem n) × List Step)
            (λ q. items_marks around width before n q.0 ++ block_marks around (behind_items around width before q.0.items) (deep + 1) q.1)
            (then_sorts (Many StepItem n) (λ its. List Step) (items_marks around width before n)
            (λ its body. block_marks around (behind_items around width before its.items) (deep + 1) body) most (apart_items around width before n)
            (items width before n) (λ its. blocks (behind_items around width before its.items) (deep + 1))))))

        parts : (before : Load) (at : Spot) (h : StepHead) → MarksSorted of most (step_parts around before at h)
        parts before at a_set = assigned before at sets (codes "set")
        parts before at a_later = assigned before at other (codes "later")
        parts before at an_if =
            value_then (λ test. (ended : Unit {0}) × ((left : List Step) × List Step))
            (λ test q. line_marks (stands before (if_line around at test)) q.0
            ++ (block_marks around (added before (if_line around at test).load) (at.deep + 1) q.1.0
            ++ block_marks around (load_behind (added before (if_line around at test).load) (block_lines_at around (at.deep + 1) q.1.0)) (at.deep + 1) q.1.1))
            (λ test. end_then (stands before (if_line around at test)) ((left : List Step) × List Step)
            (λ q. block_marks around (added before (if_line around at test).load) (at.deep + 1) q.0
            ++ block_marks around (load_behind (added before (if_line around at test).load) (block_lines_at around (at.deep + 1) q.0)) (at.deep + 1) q.1)
            (then_sorts (List Step) (λ left. List Step) (λ left. block_marks around (added before (if_line around at test).load) (at.deep + 1) left)
            (λ left right. block_marks around (load_behind (added before (if_line around at test).load) (block_lines_at around (at.deep + 1) left))
            (at.deep + 1) right)
            most (apart_block around (added before (if_line around at test).load) (at.deep + 1))
            (blocks (added before (if_line around at test).load) (at.deep + 1))
            (λ left. blocks (load_behind (added before (if_line around at test).load) (block_lines_at around (at.deep + 1) left)) (at.deep + 1))))
        parts before at a_case =
            number_then (λ n. (on : Typed) × ((ended : Unit {0}) × ((arms : Many StepArm n) × List Step)))
            (λ n q. marks tokens_of q.0 ++ (line_marks (stands before (case_line around at n q.0)) q.1.0
            ++ (arms_marks around (width_of around.design q.0) at.deep (added before (case_line around at n q.0).load) n q.1.1.0
            ++ block_marks around (behind_arms around (width_of around.design q.0) at.deep (added before (case_line around at n q.0).load) q.1.1.0.items)
            (at.deep + 1)
            q.1.1.1)))
            (λ n. value_then (λ on. (ended : Unit {0}) × ((arms : Many StepArm n) × List Step))
            (λ on q. line_marks (stands before (case_line around at n on)) q.0
            ++ (arms_marks around (width_of around.design on) at.deep (added before (case_line around at n on).load) n q.1.0
            ++ block_marks around (behind_arms around (width_of around.design on) at.deep (added before (case_line around at n on).load) q.1.0.items)
            (at.deep + 1) q.1.1))
            (λ on. end_then (stands before (case_line around at n on)) ((arms : Many StepArm n) × List Step)
            (λ q. arms_marks around (width_of around.design on) at.deep (added before (case_line around at n on).load) n q.0
            ++ block_marks around (behind_arms around (width_of around.design on) at.deep (added before (case_line around at n on).load) q.0.items)
            (at.deep + 1) q.1)
            (then_sorts (Many StepArm n) (λ arms. List Step)
            (arms_marks around (width_of around.design on) at.deep (added before (case_line around at n on).load) n)
            (λ arms rest. block_marks around (behind_arms around (width_of around.design on) at.deep (added before (case_line around at n on).load) arms.items)
            (at.deep + 1) rest) most
            (all_apart fits StepArm Load (arm_marks around (width_of around.design on) at.deep) (behind_arm around (width_of around.design on) at.deep)
            (apart_arm around (width_of around.design on) at.deep) n (added before (case_line around at n on).load))
            (many_sorted fits (has_sort of) StepArm Load (arm_marks around (width_of around.design on) at.deep)
            (behind_arm around (width_of around.design on) at.deep)
            (apart_arm around (width_of around.design on) at.deep) most (λ b. arm (width_of around.design on) at.deep b) n
            (added before (case_line around at n on).load))
            (λ arms. blocks (behind_arms around (width_of around.design on) at.deep (added before (case_line around at n on).load) arms.items) (at.deep + 1)))))
        parts before at a_show =
            number_then (λ n. (shown : Many Piece n) × Unit {0}) (λ n q. pieces_marks n q.0 ++ line_marks (stands before (show_line around at q.0.items)) q.1)
            (λ n. then_sorts (Many Piece n) (λ shown. Unit {0}) (pieces_marks n) (λ shown. line_marks (stands before (show_line around at shown.items))) most
            (apart_pieces n) (pieces n) (λ shown. sorted_end of most _))
        parts before at a_finish = sorted_end of most _
        parts before at a_stop = sorted_end of most _
        parts before at a_count = number_then (λ n. Unit {0}) (λ n. line_marks (stands before (count_line around at n))) (λ n. sorted_end of most _)

  -- ---- steps

  -- at the front of a step stands a word
  front_word : (around : Around) (before : Load) (at : Spot) (gs : List TextPiece) (m n : Mark) → length gs ≤ 0
      → Awaits fits (step_whole around before at) gs m → Awaits fits (step_whole around before at) gs n → (has_sort of) m ≡ (has_sort of) n
  front_word around before at [] m n few v w = word_first m v ∙ sym (word_first n w)
    where
      word_first : (m : Mark) → Awaits fits (step_whole around before at) [] m → has_sort of m ≡ of.tokens false
      word_first m v = by v.first v.split v.fit
        where
          by : (first : List Mark) → step_whole around before at v.value ≡ first ++ m ∷ v.more → all_fit fits [] first ≡ true → has_sort of m ≡ of.tokens false
          by [] s f = ap (λ l. (has_sort of) (head_or m l)) (sym s)
          by (x ∷ first) s f = absurd (true≢false (sym f))
  front_word around before at (g ∷ gs) m n few v w = absurd (omega arith)

  pub sorted_step : (most : ℕ) (around : Around) (before : Load) (at : Spot) → MarksSorted of most (step_marks around before at)
  sorted_step zero around before at =
      sorted_via fits (has_sort of) StepWhole Step parts_of_step (step_whole around before at) (step_marks around before at) (step_alike around before at) zero
      (front_word around before at)
  sorted_step (suc most) around before at =
      sorted_via fits (has_sort of) StepWhole Step parts_of_step (step_whole around before at) (step_marks around before at) (step_alike around before at)
      (suc most)
      (sorts_pair fits StepHead StepParts (marks step_tokens) (step_parts around before at) apart_head (suc most) most (λ h. omega arith) (has_sort of)
      (sorts_one fits (has_sort of) StepHead (λ h. token (word (step_word h))) (λ v w. refl) (suc most))
      (parts most around (λ b a. sorted_step most around b a) before at))

  pub sorted_block : (most : ℕ) (around : Around) (before : Load) (deep : ℕ) → MarksSorted of most (λ steps. block_marks around before deep steps)
  sorted_block most around before deep = blocks most around (λ b a. sorted_step most around b a) before deep
