-- What lies on some path, or on every path, of each kind of step.
use Rattle.std.proofs.Common.{◌≡◌, ◌∙◌, sym, ap, refl, Bool, true, false, ◌||◌, ◌&&◌, List, [], ◌∷◌, ◌++◌, map}
use Rattle.std.specs.Prelude.{flat_map, ℕ}
use Rattle.std.specs.List.{list_any, list_all}
use Rattle.design_tree.specs.declared.typed.Typed.{Typed}
use Rattle.design_tree.specs.declared.step.Target.{Target}
use Rattle.design_tree.specs.declared.step.Piece.{Piece}
use Rattle.design_tree.specs.declared.step.StepItem.{StepItem}
use Rattle.design_tree.specs.declared.step.StepArm.{StepArm, fold-StepArm}
use Rattle.design_tree.specs.declared.step.Step.{Step}
use Rattle.design_tree.specs.declared.step.Step.TheVariants as step
use Rattle.design_meaning.specs.Spans.{Span, reads_of}
use Rattle.design_meaning.specs.Paths.{
  Path,
  Event,
  reads,
  sets,
  defers,
  ArmPaths,
  one_of_each,
  paths_of_step,
  paths,
  step_paths,
  arm_paths,
  assign_reads,
  piece_reads,
  item_reads,
}
use Rattle.design_meaning.proofs.StepFolds as steps
use Rattle.design_meaning.proofs.HasPath.{all_have}
use Rattle.design_meaning.proofs.PathLaws.{some_choice, any_choice}
use Rattle.design_meaning.proofs.ListLaws.{some_of, any_same, any_append, any_map, any_flat, any_or, or_false, or_true, or_assoc}
use Rattle.flow_uses.specs.Walks.{some_in, some_in_all, IsAdditive, arm_has}

has_path : (xs : List Step) → some_of (paths xs) ≡ true
has_path xs = some_choice (map paths_of_step xs) (all_have xs)

pub any_both : {X : Type 0} (f g : X → Bool) (xs : List X) → list_any (λ x. f x || g x) xs ≡ (list_any f xs || list_any g xs)
any_both f g [] = refl
any_both f g (x ∷ xs) = ap (λ r. (f x || g x) || r) (any_both f g xs) ∙ four (f x) (g x) (list_any f xs) (list_any g xs)
  where
    four : (a b c d : Bool) → ((a || b) || (c || d)) ≡ ((a || c) || (b || d))
    four true b c d = refl
    four false true true d = refl
    four false true false d = refl
    four false false c d = refl

-- ---- steps one after the other

pub some_of_steps : (t : Event → Bool) (xs : List Step) → some_in_all t xs ≡ list_any (some_in t) xs
some_of_steps t xs = any_choice t (map paths_of_step xs) (all_have xs) ∙ any_map (list_any (list_any t)) paths_of_step xs

-- ---- one step

pub some_set : (t : Event → Bool) (targets : List Target) (value : Typed)
    → some_in t (step.Set targets value) ≡ (t (reads (assign_reads targets value)) || list_any (λ x. t (sets x)) targets)
some_set t targets value =
    ap (list_any (list_any t)) (steps.fold-Set (List Path) ArmPaths step_paths arm_paths targets value)
    ∙ or_false (t (reads (assign_reads targets value)) || list_any t (map sets targets))
    ∙ ap (λ r. t (reads (assign_reads targets value)) || r) (any_map t sets targets)

pub some_later : (t : Event → Bool) (targets : List Target) (value : Typed)
    → some_in t (step.Later targets value) ≡ (t (reads (assign_reads targets value)) || list_any (λ x. t (defers x)) targets)
some_later t targets value =
    ap (list_any (list_any t)) (steps.fold-Later (List Path) ArmPaths step_paths arm_paths targets value)
    ∙ or_false (t (reads (assign_reads targets value)) || list_any t (map defers targets))
    ∙ ap (λ r. t (reads (assign_reads targets value)) || r) (any_map t defers targets)

some_behind : (t : Event → Bool) (event : Event) (ps qs : List Path) → some_of qs ≡ true
    → list_any (list_any t) (map (λ path. event ∷ path) (ps ++ qs)) ≡ (t event || (list_any (list_any t) ps || list_any (list_any t) qs))
some_behind t event ps qs h =
    any_map (list_any t) (λ path. event ∷ path) (ps ++ qs)
    ∙ any_or (t event) (list_any t) (ps ++ qs) (any_append (λ x. true) ps qs ∙ ap (λ r. some_of ps || r) h ∙ or_true (some_of ps))
    ∙ ap (λ r. t event || r) (any_append (list_any t) ps qs)

pub some_if : (t : Event → Bool) (test : Typed) (left right : List Step)
    → some_in t (step.If test left right) ≡ (t (reads (reads_of test)) || (some_in_all t left || some_in_all t right))
some_if t test left right =
    ap (list_any (list_any t)) (steps.fold-If (List Path) ArmPaths step_paths arm_paths test left right)
    ∙ some_behind t (reads (reads_of test)) (paths left) (paths right) (has_path right)

pub some_show : (t : Event → Bool) (pieces : List Piece) → some_in t (step.Show pieces) ≡ t (reads (flat_map piece_reads pieces))
some_show t pieces =
    ap (list_any (list_any t)) (steps.fold-Show (List Path) ArmPaths step_paths arm_paths pieces)
    ∙ or_false (t (reads (flat_map piece_reads pieces)) || false) ∙ or_false (t (reads (flat_map piece_reads pieces)))

pub some_finish : (t : Event → Bool) → some_in t step.Finish ≡ false
some_finish t = ap (list_any (list_any t)) (steps.fold-Finish (List Path) ArmPaths step_paths arm_paths)

pub some_stop : (t : Event → Bool) → some_in t step.Stop ≡ false
some_stop t = ap (list_any (list_any t)) (steps.fold-Stop (List Path) ArmPaths step_paths arm_paths)

pub some_count : (t : Event → Bool) (counter : ℕ) → some_in t (step.Count counter) ≡ false
some_count t counter = ap (list_any (list_any t)) (steps.fold-Count (List Path) ArmPaths step_paths arm_paths counter)

-- ---- cases

-- the paths of an arm, and what its items read
pub arm_of : StepArm → ArmPaths
arm_of = fold-StepArm (List Path) ArmPaths step_paths arm_paths

pub arm_is : (arm : StepArm) → arm_of arm ≡ record { items = flat_map item_reads arm.items; body = paths arm.body }
unfolding arm_of
arm_is arm = steps.fold-arm (List Path) ArmPaths step_paths arm_paths arm.items arm.body

items_found : (t : Event → Bool) → IsAdditive t → (arms : List StepArm)
    → t (reads (flat_map (λ arm. arm.items) (map arm_of arms))) ≡ list_any (λ (arm : StepArm). t (reads (flat_map item_reads arm.items))) arms
items_found t h [] = h.none
items_found t h (arm ∷ arms) =
    h.both (arm_of arm).items (flat_map (λ arm. arm.items) (map arm_of arms))
    ∙ ap (λ (r : ArmPaths). t (reads r.items) || t (reads (flat_map (λ arm. arm.items) (map arm_of arms)))) (arm_is arm)
    ∙ ap (λ r. t (reads (flat_map item_reads arm.items)) || r) (items_found t h arms)

bodies_found : (t : Event → Bool) (arms : List StepArm)
    → list_any (list_any t) (flat_map (λ arm. arm.body) (map arm_of arms)) ≡ list_any (λ (arm : StepArm). some_in_all t arm.body) arms
bodies_found t arms =
    any_flat (list_any t) (λ (arm : ArmPaths). arm.body) (map arm_of arms)
    ∙ any_map (λ (arm : ArmPaths). list_any (list_any t) arm.body) arm_of arms
    ∙ any_same (λ arm. list_any (list_any t) (arm_of arm).body) (λ (arm : StepArm). some_in_all t arm.body) (λ arm. ap (λ (r : ArmPaths). list_any
    (list_any t) r.body) (arm_is arm)) arms

pub some_case : (t : Event → Bool) → IsAdditive t → (on : Typed) (arms : List StepArm) (rest : List Step)
    → some_in t (step.Case on arms rest) ≡ ((t (reads (reads_of on)) || list_any (arm_has t) arms) || some_in_all t rest)
unfolding arm_of
some_case t h on arms rest =
    ap (list_any (list_any t)) (steps.fold-Case (List Path) ArmPaths step_paths arm_paths on arms rest)
    ∙ some_behind t (reads (reads_of on ++ flat_map (λ arm. arm.items) (map arm_of arms))) (flat_map (λ arm. arm.body) (map arm_of arms)) (paths rest)
    (has_path rest)
    ∙ ap (λ r. r || (list_any (list_any t) (flat_map (λ arm. arm.body) (map arm_of arms)) || some_in_all t rest))
    (h.both (reads_of on) (flat_map (λ arm. arm.items) (map arm_of arms)) ∙ ap (λ r. t (reads (reads_of on)) || r) (items_found t h arms))
    ∙ ap (λ r. (t (reads (reads_of on)) || items) || (r || some_in_all t rest)) (bodies_found t arms)
    ∙ five (t (reads (reads_of on))) items bodies (some_in_all t rest)
    ∙ ap (λ r. (t (reads (reads_of on)) || r) || some_in_all t rest) (sym (any_both (λ (arm : StepArm). t (reads (flat_map item_reads arm.items))) (λ (arm
    : StepArm). some_in_all t arm.body) arms))
  where
    items : Bool
    items = list_any (λ (arm : StepArm). t (reads (flat_map item_reads arm.items))) arms

    bodies : Bool
    bodies = list_any (λ (arm : StepArm). some_in_all t arm.body) arms

    five : (a b c d : Bool) → ((a || b) || (c || d)) ≡ ((a || (b || c)) || d)
    five true b c d = refl
    five false true c d = refl
    five false false c d = refl
