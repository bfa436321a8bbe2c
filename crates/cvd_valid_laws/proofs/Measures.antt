-- The four sums over the lines of a process: no bits, its steps, the nodes of its expressions, and what is displayed at most.
use Rattle.std.proofs.Common.{◌≡◌, ℕ, ◌+◌, List, [], ◌∷◌, ◌++◌, map, refl, sym, ◌∙◌, ap, arith}
use Rattle.std.specs.Prelude.{flat_map}
use Rattle.std.proofs.lemmas.List.{map-append}
use Rattle.std.proofs.lemmas.List.Folds.{flat_map-map}
use Rattle.design_tree.specs.declared.design.Design.{Design}
use Rattle.design_tree.specs.declared.design.Process.{Process}
use Rattle.design_tree.specs.declared.step.Piece.{Piece}
use Rattle.design_tree.specs.declared.step.Piece.TheVariants as piece
use Rattle.design_tree.specs.declared.step.Step.{Step}
use Rattle.design_tree.specs.declared.step.StepArm.{StepArm, fold-StepArm, fold_out-StepArm}
use Rattle.design_tree.specs.declared.step.StepItem.{StepItem}
use Rattle.design_tree.specs.declared.step.Target.{Target}
use Rattle.design_tree.specs.declared.typed.Typed.{Typed}
use Rattle.circuit_run.specs.Lists.{total}
use Rattle.design_meaning.proofs.StepFolds.{fold-Set, fold-Later, fold-If, fold-Case, fold-Show, fold-Finish, fold-Stop, fold-Count}
use Rattle.design_meaning.specs.Mentions.{Mention, expression, destination, shown, counted, concat_all, step_mentions, arm_mentions, item_mentions}
use Rattle.design_meaning.specs.Mentions.{piece_mentions, mentions_of, mention_nodes, mention_length, piece_length}
use Rattle.design_meaning.specs.Sizes.{nodes, target_nodes, steps_in, step_size, arm_size}
use Rattle.cvd_text.specs.Lines.{Load}
use Rattle.cvd_text.specs.Steps.{Around}
use Rattle.cvd_text.specs.Sections.{process_lines}
use Rattle.cvd_text.specs.Targets.{assigned_nodes, piece_nodes}
use Rattle.cvd_step_laws.specs.StepMarks.{block_lines_at}
use Rattle.cvd_valid_laws.proofs.Conditions.{mentions_in, arm_mentions_in}
use Rattle.cvd_valid_laws.proofs.Standing.{sum_of, total_join}
use Rattle.cvd_valid_laws.proofs.StepSums.{step_load, item_load, item_sum, blocks_add}

-- ---- sums over lists

zero_plus : (n : ℕ) → 0 + n ≡ n
zero_plus n = omega arith

zeros : {X : Type 0} (xs : List X) → total (map (λ (x : X). 0) xs) ≡ 0
zeros [] = refl
zeros (x ∷ xs) = zero_plus _ ∙ zeros xs

module _ (weight : Mention → ℕ) where
  abbrev pub sum : List Mention → ℕ
  sum ms = total (map weight ms)

  pub sum_both : (xs ys : List Mention) → sum (xs ++ ys) ≡ sum xs + sum ys
  sum_both xs ys = ap total (map-append weight xs ys) ∙ total_join (map weight xs) (map weight ys)

  pub sum_concat : {X : Type 0} (f : X → List Mention) (xs : List X) → sum (concat_all (map f xs)) ≡ total (map (λ x. sum (f x)) xs)
  sum_concat f [] = refl
  sum_concat f (x ∷ xs) = let more = sum_concat f xs in let both = sum_both (f x) (concat_all (map f xs)) in omega arith

  abbrev weight_in : Step → ℕ
  weight_in one = sum (mentions_in one)

  abbrev arm_weight : StepArm → ℕ
  arm_weight arm = sum (arm_mentions_in arm)

  -- a weight of what is mentioned, that lines add up by one of the four
  module _ (around : Around) (f : Load → ℕ) (none : f (record { bits = 0; steps = 0; nodes = 0; shown = 0 }) ≡ 0)
      (sets : (targets : List Target) (value : Typed) → sum (map destination targets ++ expression value ∷ []) ≡ f (step_load (assigned_nodes targets value) 0))
      (says : (e : Typed) → weight (expression e) ≡ f (step_load (nodes e) 0))
      (shows : (pieces : List Piece)
      → sum (map shown pieces ++ flat_map piece_mentions pieces)
      ≡ f (step_load (total (map piece_nodes pieces)) (total (map (piece_length around.design) pieces))))
      (nothing : 0 ≡ f (step_load 0 0)) (counts : (counter : ℕ) → weight (counted counter) ≡ f (step_load 0 0))
      (items : (e : Typed) → weight (expression e) ≡ f (item_load (nodes e))) where
    items_weigh : (xs : List StepItem) → sum (flat_map item_mentions xs) ≡ item_sum f xs
    items_weigh [] = refl
    items_weigh (x ∷ xs) = let here = items x.value in let more = items_weigh xs in omega arith

    pub weigh : (deep : ℕ) (steps : List Step) → sum_of f (block_lines_at around deep steps) ≡ total (map weight_in steps)
    weigh = blocks_add around f none weight_in arm_weight
        (λ targets value. ap sum (fold-Set (List Mention) (List Mention) step_mentions arm_mentions targets value) ∙ sets targets value)
        (λ targets value. ap sum (fold-Later (List Mention) (List Mention) step_mentions arm_mentions targets value) ∙ sets targets value)
        (λ test left right.
        let a = says test in
        let b = sum_both (concat_all (map mentions_in left)) (concat_all (map mentions_in right)) in
        let l = sum_concat mentions_in left in
        let r = sum_concat mentions_in right in
        ap sum (fold-If (List Mention) (List Mention) step_mentions arm_mentions test left right) ∙ omega arith)
        (λ on arms rest.
        let a = says on in
        let b = sum_both (concat_all (map arm_mentions_in arms)) (concat_all (map mentions_in rest)) in
        let l = sum_concat arm_mentions_in arms in
        let r = sum_concat mentions_in rest in
        ap sum (fold-Case (List Mention) (List Mention) step_mentions arm_mentions on arms rest) ∙ omega arith)
        (λ pieces. ap sum (fold-Show (List Mention) (List Mention) step_mentions arm_mentions pieces) ∙ shows pieces)
        (ap sum (fold-Finish (List Mention) (List Mention) step_mentions arm_mentions) ∙ nothing)
        (ap sum (fold-Stop (List Mention) (List Mention) step_mentions arm_mentions) ∙ nothing)
        (λ counter. let c = counts counter in ap sum (fold-Count (List Mention) (List Mention) step_mentions arm_mentions counter) ∙ omega arith)
        (λ arm.
        let a = items_weigh arm.items in
        let b = sum_both (flat_map item_mentions arm.items) (concat_all (map mentions_in arm.body)) in
        let c = sum_concat mentions_in arm.body in
        ap sum (fold_out-StepArm (List Mention) (List Mention) step_mentions arm_mentions arm) ∙ omega arith)

-- ---- of a process

module _ (d : Design) (counters : ℕ) (p : Process) where
  abbrev around : Around
  around = record { design = d; counters = counters; kind = p.kind }

  pub bits_of_process : sum_of (λ s. s.bits) (process_lines d counters p) ≡ 0
  bits_of_process =
      zero_plus _
      ∙ blocks_add around (λ s. s.bits) refl (λ one. 0) (λ arm. 0) (λ targets value. refl) (λ targets value. refl)
      (λ test left right. let l = zeros left in let r = zeros right in omega arith) (λ on arms rest. let l = zeros arms in let r = zeros rest in omega arith)
      (λ pieces. refl) refl refl (λ counter. refl) (λ arm. let l = zeros arm.items in let r = zeros arm.body in omega arith) 1 p.body
      ∙ zeros p.body

  pub steps_of_process : sum_of (λ s. s.steps) (process_lines d counters p) ≡ total (map steps_in p.body)
  steps_of_process =
      zero_plus _
      ∙ blocks_add around (λ s. s.steps) refl steps_in (fold-StepArm ℕ ℕ step_size arm_size) (λ targets value. fold-Set ℕ ℕ step_size arm_size targets value)
      (λ targets value. fold-Later ℕ ℕ step_size arm_size targets value)
      (λ test left right. fold-If ℕ ℕ step_size arm_size test left right)
      (λ on arms rest. fold-Case ℕ ℕ step_size arm_size on arms rest)
      (λ pieces. fold-Show ℕ ℕ step_size arm_size pieces) (fold-Finish ℕ ℕ step_size arm_size) (fold-Stop ℕ ℕ step_size arm_size)
      (λ counter. fold-Count ℕ ℕ step_size arm_size counter)
      (λ arm. let l = zeros arm.items in let a = fold_out-StepArm ℕ ℕ step_size arm_size arm in omega arith) 1 p.body

  targets_weigh : (targets : List Target) → sum mention_nodes (map destination targets) ≡ total (map target_nodes targets)
  targets_weigh [] = refl
  targets_weigh (t ∷ targets) = ap (λ n. target_nodes t + n) (targets_weigh targets)

  targets_show_nothing : (targets : List Target) → sum (mention_length d) (map destination targets) ≡ 0
  targets_show_nothing [] = refl
  targets_show_nothing (t ∷ targets) = zero_plus _ ∙ targets_show_nothing targets

  shown_nodes : (pieces : List Piece) → sum mention_nodes (map shown pieces) ≡ 0
  shown_nodes [] = refl
  shown_nodes (x ∷ pieces) = zero_plus _ ∙ shown_nodes pieces

  shown_lengths : (pieces : List Piece) → sum (mention_length d) (map shown pieces) ≡ total (map (piece_length d) pieces)
  shown_lengths [] = refl
  shown_lengths (x ∷ pieces) = ap (λ n. piece_length d x + n) (shown_lengths pieces)

  one_piece : (x : Piece) → sum mention_nodes (piece_mentions x) ≡ piece_nodes x
  one_piece (piece.Text bytes) = refl
  one_piece (piece.Dec is_signed short e) = omega arith
  one_piece (piece.Hex short e) = omega arith
  one_piece (piece.Bin short e) = omega arith

  one_length : (x : Piece) → sum (mention_length d) (piece_mentions x) ≡ 0
  one_length (piece.Text bytes) = refl
  one_length (piece.Dec is_signed short e) = refl
  one_length (piece.Hex short e) = refl
  one_length (piece.Bin short e) = refl

  piece_weights : (pieces : List Piece) → sum mention_nodes (flat_map piece_mentions pieces) ≡ total (map piece_nodes pieces)
  piece_weights [] = refl
  piece_weights (x ∷ pieces) =
      let a = sum_both mention_nodes (piece_mentions x) (flat_map piece_mentions pieces) in
      let b = one_piece x in
      let c = piece_weights pieces in
      omega arith

  piece_lengths : (pieces : List Piece) → sum (mention_length d) (flat_map piece_mentions pieces) ≡ 0
  piece_lengths [] = refl
  piece_lengths (x ∷ pieces) =
      let a = sum_both (mention_length d) (piece_mentions x) (flat_map piece_mentions pieces) in
      let b = one_length x in
      let c = piece_lengths pieces in
      omega arith

  all_in : (weight : Mention → ℕ) → total (map (λ one. sum weight (mentions_in one)) p.body) ≡ sum weight (mentions_of p)
  all_in weight = sym (sum_concat weight mentions_in p.body) ∙ ap (sum weight) (flat_map-map (λ (ms : List Mention). ms) mentions_in p.body)

  pub nodes_of_process : sum_of (λ s. s.nodes) (process_lines d counters p) ≡ sum mention_nodes (mentions_of p)
  nodes_of_process =
      zero_plus _
      ∙ weigh mention_nodes around (λ s. s.nodes) refl
      (λ targets value.
      let a = sum_both mention_nodes (map destination targets) (expression value ∷ []) in
      let b = targets_weigh targets in
      omega arith)
      (λ e. refl)
      (λ pieces.
      let a = sum_both mention_nodes (map shown pieces) (flat_map piece_mentions pieces) in
      let b = shown_nodes pieces in
      let c = piece_weights pieces in
      omega arith)
      refl (λ counter. refl) (λ e. refl) 1 p.body
      ∙ all_in mention_nodes

  pub shown_of_process : sum_of (λ s. s.shown) (process_lines d counters p) ≡ sum (mention_length d) (mentions_of p)
  shown_of_process =
      zero_plus _
      ∙ weigh (mention_length d) around (λ s. s.shown) refl
      (λ targets value.
      let a = sum_both (mention_length d) (map destination targets) (expression value ∷ []) in
      let b = targets_show_nothing targets in
      omega arith)
      (λ e. refl)
      (λ pieces.
      let a = sum_both (mention_length d) (map shown pieces) (flat_map piece_mentions pieces) in
      let b = shown_lengths pieces in
      let c = piece_lengths pieces in
      omega arith)
      refl (λ counter. refl) (λ e. refl) 1 p.body
      ∙ all_in (mention_length d)
