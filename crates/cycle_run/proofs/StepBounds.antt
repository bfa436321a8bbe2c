-- No process raises more counters in a run than it has steps.
use Rattle.std.proofs.Common.{◌≡◌, ◌∙◌, sym, ap, subst, refl, ℕ, ◌+◌, ◌≤◌, List, [], ◌∷◌, ◌++◌, length, map, arith}
use Rattle.std.specs.Prelude.{flat_map}
use Rattle.std.specs.List.{AllByRecursion}
use Rattle.std.proofs.lemmas.Grind.{flat_map-append}
use Rattle.std.proofs.lemmas.List.{length-append, map-append}
use Rattle.design_tree.specs.declared.typed.Typed.{Typed}
use Rattle.design_tree.specs.declared.step.Target.{Target}
use Rattle.design_tree.specs.declared.step.Piece.{Piece}
use Rattle.design_tree.specs.declared.step.Piece.TheVariants as piece
use Rattle.design_tree.specs.declared.step.StepItem.{StepItem}
use Rattle.design_tree.specs.declared.step.StepArm.{StepArm, fold-StepArm, fold_out-StepArm}
use Rattle.design_tree.specs.declared.step.Step.{Step}
use Rattle.design_tree.specs.declared.step.Step.TheVariants as step
use Rattle.design_tree.specs.declared.design.Process.{Process}
use Rattle.design_tree.specs.declared.design.Design.{Design}
use Rattle.circuit_run.specs.Lists.{total}
use Rattle.design_meaning.specs.Sizes.{step_size, arm_size, steps_in}
use Rattle.design_meaning.specs.Mentions.{Mention, expression, destination, shown, counted, item_mentions, piece_mentions, mention_counters, step_mentions}
use Rattle.design_meaning.specs.Mentions.{arm_mentions}
use Rattle.design_meaning.specs.Valid.{all_steps}
use Rattle.design_meaning.proofs.StepFolds as steps
use Rattle.design_meaning.proofs.StepInduction.{ArmHas, step_induction}
use Rattle.flat_design.specs.Effects.{room_of, room_of_all}
use Rattle.flat_design.specs.InDesign.{mentions_in}
use Rattle.flat_design.specs.Needed.{arm_mentions_in}
use Rattle.flat_design.proofs.StepsIn.{if_mentions, case_mentions, arm_mentions_is, set_mentions, later_mentions, count_mentions, show_mentions}

-- how many counters are mentioned
abbrev mentioned : List Mention → ℕ
mentioned ms = length (flat_map mention_counters ms)

both : (ms ns : List Mention) → mentioned (ms ++ ns) ≡ mentioned ms + mentioned ns
both ms ns = ap length (flat_map-append mention_counters ms ns) ∙ length-append (flat_map mention_counters ms) (flat_map mention_counters ns)

targets_none : (ts : List Target) (e : Typed) → mentioned (map destination ts ++ expression e ∷ []) ≡ 0
targets_none [] e = refl
targets_none (t ∷ ts) e = targets_none ts e

pieces_shown : (ps : List Piece) → mentioned (map shown ps) ≡ 0
pieces_shown [] = refl
pieces_shown (p ∷ ps) = pieces_shown ps

piece_none : (p : Piece) → mentioned (piece_mentions p) ≡ 0
piece_none (piece.Text bytes) = refl
piece_none (piece.Dec is_signed short e) = refl
piece_none (piece.Hex short e) = refl
piece_none (piece.Bin short e) = refl

pieces_none : (ps : List Piece) → mentioned (flat_map piece_mentions ps) ≡ 0
pieces_none [] = refl
pieces_none (p ∷ ps) = both (piece_mentions p) (flat_map piece_mentions ps) ∙ omega (arith, piece_none p, pieces_none ps)

items_none : (items : List StepItem) → mentioned (flat_map item_mentions items) ≡ 0
items_none [] = refl
items_none (i ∷ items) = items_none items

abbrev Few : Step → Type 0
Few x = mentioned (mentions_in x) ≤ steps_in x

few_all : (xs : List Step) → AllByRecursion Few xs → mentioned (flat_map mentions_in xs) ≤ total (map steps_in xs)
few_all [] h = omega arith
few_all (x ∷ xs) h = omega (arith, both (mentions_in x) (flat_map mentions_in xs), h.0, few_all xs h.1)

few_arms : (arms : List StepArm) → AllByRecursion (ArmHas Few) arms
    → mentioned (flat_map arm_mentions_in arms) ≤ total (map (fold-StepArm ℕ ℕ step_size arm_size) arms)
few_arms [] h = omega arith
few_arms (arm ∷ arms) h =
    let own : mentioned (arm_mentions_in arm) ≡ mentioned (flat_map item_mentions arm.items) + mentioned (flat_map mentions_in arm.body) =
    ap mentioned (arm_mentions_is arm) ∙ both (flat_map item_mentions arm.items) (flat_map mentions_in arm.body) in
    let size : fold-StepArm ℕ ℕ step_size arm_size arm ≡ total (map steps_in arm.body) = fold_out-StepArm ℕ ℕ step_size arm_size arm in
    omega (arith, both (arm_mentions_in arm) (flat_map arm_mentions_in arms), own, items_none arm.items, few_all arm.body h.0, size, few_arms arms h.1)

few_if : (e : Typed) (left right : List Step) → AllByRecursion Few left → AllByRecursion Few right → Few (step.If e left right)
few_if e left right l r = omega (
  arith,
  ap mentioned (if_mentions e left right),
  both (flat_map mentions_in left) (flat_map mentions_in right),
  few_all left l,
  few_all right r,
  steps.fold-If ℕ ℕ step_size arm_size e left right,
)

few_case : (on : Typed) (arms : List StepArm) (rest : List Step) → AllByRecursion (ArmHas Few) arms → AllByRecursion Few rest → Few (step.Case on arms rest)
few_case on arms rest a r = omega (
  arith,
  ap mentioned (case_mentions on arms rest),
  both (flat_map arm_mentions_in arms) (flat_map mentions_in rest),
  few_arms arms a,
  few_all rest r,
  steps.fold-Case ℕ ℕ step_size arm_size on arms rest,
)

none_few : (x : Step) → mentioned (mentions_in x) ≡ 0 → Few x
none_few x e = omega (arith, e)

few_of : (x : Step) → Few x
few_of = step_induction Few
    (λ ts v. none_few (step.Set ts v) (ap mentioned (set_mentions ts v) ∙ targets_none ts v))
    (λ ts v. none_few (step.Later ts v) (ap mentioned (later_mentions ts v) ∙ targets_none ts v))
    few_if
    few_case
    (λ ps. none_few (step.Show ps) (ap mentioned (show_mentions ps) ∙ both (map shown ps) (flat_map piece_mentions ps)
    ∙ omega (arith, pieces_shown ps, pieces_none ps)))
    (none_few step.Finish (ap mentioned (steps.fold-Finish (List Mention) (List Mention) step_mentions arm_mentions)))
    (none_few step.Stop (ap mentioned (steps.fold-Stop (List Mention) (List Mention) step_mentions arm_mentions)))
    (λ c. omega (arith, ap mentioned (count_mentions c), steps.fold-Count ℕ ℕ step_size arm_size c))

every : (xs : List Step) → AllByRecursion Few xs
every [] = tt
every (x ∷ xs) = (few_of x, every xs)

total_both : (xs ys : List ℕ) → total (xs ++ ys) ≡ total xs + total ys
total_both [] ys = omega arith
total_both (x ∷ xs) ys = omega (arith, total_both xs ys)

in_processes : (d : Design) (ps : List Process) → total (map (λ p. (room_of d p).counters) ps) ≤ total (map steps_in (flat_map (λ p. p.body) ps))
in_processes d [] = omega arith
in_processes d (p ∷ ps) = omega (
  arith,
  few_all p.body (every p.body),
  in_processes d ps,
  ap total (map-append steps_in p.body (flat_map (λ p. p.body) ps)),
  total_both (map steps_in p.body) (map steps_in (flat_map (λ p. p.body) ps)),
)

-- a design has room for no more counters than it has steps
pub counters_few : (d : Design) → (room_of_all d).counters ≤ all_steps d
counters_few d = in_processes d d.processes
