-- What each kind of step surely writes and reads early, and what a block does.
use Rattle.std.proofs.Common.{◌≡◌, ◌∙◌, sym, ap, ap₂, refl, Bool, true, false, not, ◌||◌, ◌&&◌, List, [], ◌∷◌, ◌++◌, map, ℕ}
use Rattle.std.specs.Prelude.{flat_map}
use Rattle.std.specs.List.{list_any, list_all}
use Rattle.design_tree.specs.declared.typed.Typed.{Typed}
use Rattle.design_tree.specs.declared.step.Target.{Target}
use Rattle.design_tree.specs.declared.step.Piece.{Piece}
use Rattle.design_tree.specs.declared.step.StepItem.{StepItem}
use Rattle.design_tree.specs.declared.step.StepArm.{StepArm}
use Rattle.design_tree.specs.declared.step.Step.{Step}
use Rattle.design_tree.specs.declared.step.Step.TheVariants as step
use Rattle.circuit_run.specs.States.{Bit}
use Rattle.design_meaning.specs.Spans.{Span, is_in, is_in_any, reads_of}
use Rattle.design_meaning.specs.Targets.{surely_names}
use Rattle.design_meaning.specs.Paths.{Path, Event, reads, sets, defers, ArmPaths, paths_of_step, paths, step_paths, arm_paths, assign_reads, piece_reads}
use Rattle.design_meaning.specs.Paths.{item_reads}
use Rattle.design_meaning.specs.Reach.{event_writes, read_first}
use Rattle.design_meaning.proofs.StepFolds as steps
use Rattle.design_meaning.proofs.HasPath.{all_have}
use Rattle.design_meaning.proofs.PathLaws.{writes_in, early_in, early_choice, all_choice}
use Rattle.design_meaning.proofs.ListLaws.{some_of, any_same, all_same, any_append, all_append, any_map, all_map, any_flat, all_flat, any_or, or_false, or_true}
use Rattle.design_meaning.proofs.SimBranches.{behind, either_has}
use Rattle.design_meaning.proofs.SimCases.{arm_form, arm_spans, bodies, case_paths}
use Rattle.flow_paths.specs.Walking.{always_step, early_step, always_steps, early_steps}

-- ---- blocks

early_map : (b : Bit) (xs : List Step) → early_in b (map paths_of_step xs) ≡ early_steps xs b
early_map b [] = refl
early_map b (x ∷ xs) = ap (λ r. early_step x b || (not (always_step x b) && r)) (early_map b xs)

pub early_block : (b : Bit) (xs : List Step) → list_any (read_first b) (paths xs) ≡ early_steps xs b
early_block b xs = early_choice b (map paths_of_step xs) (all_have xs) ∙ early_map b xs

pub always_block : (b : Bit) (xs : List Step) → list_all (list_any (event_writes b)) (paths xs) ≡ always_steps xs b
always_block b xs = all_choice (event_writes b) (map paths_of_step xs) ∙ any_map (λ ways. list_all (list_any (event_writes b)) ways) paths_of_step xs

-- ---- assignments

and_true : (a : Bool) → (a && true) ≡ a
and_true true = refl
and_true false = refl

none_read : (b : Bit) (f : Target → Event) → ((t : Target) (path : Path) → read_first b (f t ∷ path) ≡ (not (event_writes b (f t)) && read_first b path))
    → (ts : List Target) → read_first b (map f ts) ≡ false
none_read b f h [] = refl
none_read b f h (t ∷ ts) = h t (map f ts) ∙ nothing (not (event_writes b (f t))) (none_read b f h ts)
  where
    nothing : (a : Bool) {c : Bool} → c ≡ false → (a && c) ≡ false
    nothing true e = e
    nothing false e = refl

one_way : (b : Bit) (spans : List Span) (rest : Path) → read_first b rest ≡ false → list_any (read_first b) ((reads spans ∷ rest) ∷ []) ≡ is_in_any b spans
one_way b spans rest h = or_false (is_in_any b spans || read_first b rest) ∙ ap (λ r. is_in_any b spans || r) h ∙ or_false (is_in_any b spans)

pub set_always : (b : Bit) (ts : List Target) (value : Typed) → always_step (step.Set ts value) b ≡ list_any (surely_names b) ts
set_always b ts value = ap (list_all (list_any (event_writes b))) (steps.fold-Set (List Path) ArmPaths step_paths arm_paths ts value)
    ∙ and_true (list_any (event_writes b) (map sets ts)) ∙ any_map (event_writes b) sets ts

pub set_early : (b : Bit) (ts : List Target) (value : Typed) → early_step (step.Set ts value) b ≡ is_in_any b (assign_reads ts value)
set_early b ts value = ap (list_any (read_first b)) (steps.fold-Set (List Path) ArmPaths step_paths arm_paths ts value)
    ∙ one_way b (assign_reads ts value) (map sets ts) (none_read b sets (λ t path. refl) ts)

none_written : (b : Bit) (ts : List Target) → list_any (event_writes b) (map defers ts) ≡ false
none_written b [] = refl
none_written b (t ∷ ts) = none_written b ts

pub later_always : (b : Bit) (ts : List Target) (value : Typed) → always_step (step.Later ts value) b ≡ false
later_always b ts value = ap (list_all (list_any (event_writes b))) (steps.fold-Later (List Path) ArmPaths step_paths arm_paths ts value)
    ∙ and_true (list_any (event_writes b) (map defers ts)) ∙ none_written b ts

pub later_early : (b : Bit) (ts : List Target) (value : Typed) → early_step (step.Later ts value) b ≡ is_in_any b (assign_reads ts value)
later_early b ts value = ap (list_any (read_first b)) (steps.fold-Later (List Path) ArmPaths step_paths arm_paths ts value)
    ∙ one_way b (assign_reads ts value) (map defers ts) (none_read b defers (λ t path. refl) ts)

-- ---- branches

always_behind : (b : Bit) (spans : List Span) (ps qs : List Path)
    → list_all (list_any (event_writes b)) (behind spans (ps ++ qs)) ≡ (list_all (list_any (event_writes b)) ps && list_all (list_any (event_writes b)) qs)
always_behind b spans ps qs = all_map (list_any (event_writes b)) (λ path. reads spans ∷ path) (ps ++ qs) ∙ all_append (list_any (event_writes b)) ps qs

early_behind : (b : Bit) (spans : List Span) (ps qs : List Path) → some_of (ps ++ qs) ≡ true
    → list_any (read_first b) (behind spans (ps ++ qs)) ≡ (is_in_any b spans || (list_any (read_first b) ps || list_any (read_first b) qs))
early_behind b spans ps qs h = any_map (read_first b) (λ path. reads spans ∷ path) (ps ++ qs) ∙ any_or (is_in_any b spans) (read_first b) (ps ++ qs) h
    ∙ ap (λ r. is_in_any b spans || r) (any_append (read_first b) ps qs)

pub if_always : (b : Bit) (test : Typed) (left right : List Step) → always_step (step.If test left right) b ≡ (always_steps left b && always_steps right b)
if_always b test left right = ap (list_all (list_any (event_writes b))) (steps.fold-If (List Path) ArmPaths step_paths arm_paths test left right)
    ∙ always_behind b (reads_of test) (paths left) (paths right) ∙ ap₂ ◌&&◌ (always_block b left) (always_block b right)

pub if_early : (b : Bit) (test : Typed) (left right : List Step)
    → early_step (step.If test left right) b ≡ (is_in_any b (reads_of test) || (early_steps left b || early_steps right b))
if_early b test left right = ap (list_any (read_first b)) (steps.fold-If (List Path) ArmPaths step_paths arm_paths test left right)
    ∙ early_behind b (reads_of test) (paths left) (paths right) (either_has (paths left) right)
    ∙ ap (λ r. is_in_any b (reads_of test) || r) (ap₂ ◌||◌ (early_block b left) (early_block b right))

-- ---- cases

bodies_always : (b : Bit) (arms : List StepArm) → list_all (list_any (event_writes b)) (bodies arms)
    ≡ list_all (λ (arm : StepArm). always_steps arm.body b) arms
bodies_always b arms = all_flat (list_any (event_writes b)) (λ (a : ArmPaths). a.body) (map arm_form arms)
    ∙ all_map (λ (a : ArmPaths). list_all (list_any (event_writes b)) a.body) arm_form arms
    ∙ all_same (λ (arm : StepArm). list_all (list_any (event_writes b)) (paths arm.body)) (λ (arm : StepArm). always_steps arm.body b)
    (λ arm. always_block b arm.body) arms

bodies_early : (b : Bit) (arms : List StepArm) → list_any (read_first b) (bodies arms) ≡ list_any (λ (arm : StepArm). early_steps arm.body b) arms
bodies_early b arms = any_flat (read_first b) (λ (a : ArmPaths). a.body) (map arm_form arms)
    ∙ any_map (λ (a : ArmPaths). list_any (read_first b) a.body) arm_form arms
    ∙ any_same (λ (arm : StepArm). list_any (read_first b) (paths arm.body)) (λ (arm : StepArm). early_steps arm.body b) (λ arm. early_block b arm.body) arms

-- what the items of arms read
abbrev pub arms_read : Bit → List StepArm → Bool
arms_read b arms = list_any (λ (arm : StepArm). list_any (λ item. is_in_any b (item_reads item)) arm.items) arms

items_read : (b : Bit) (arms : List StepArm) → is_in_any b (arm_spans arms) ≡ arms_read b arms
items_read b arms = any_flat (is_in b) (λ (a : ArmPaths). a.items) (map arm_form arms)
    ∙ any_map (λ (a : ArmPaths). list_any (is_in b) a.items) arm_form arms
    ∙ any_same (λ (arm : StepArm). list_any (is_in b) (flat_map item_reads arm.items))
    (λ (arm : StepArm). list_any (λ item. is_in_any b (item_reads item)) arm.items)
    (λ arm. any_flat (is_in b) item_reads arm.items) arms

pub case_always : (b : Bit) (on : Typed) (arms : List StepArm) (rest : List Step)
    → always_step (step.Case on arms rest) b ≡ (list_all (λ (arm : StepArm). always_steps arm.body b) arms && always_steps rest b)
case_always b on arms rest = ap (list_all (list_any (event_writes b))) (case_paths on arms rest)
    ∙ always_behind b (reads_of on ++ arm_spans arms) (bodies arms) (paths rest) ∙ ap₂ ◌&&◌ (bodies_always b arms) (always_block b rest)

pub case_early : (b : Bit) (on : Typed) (arms : List StepArm) (rest : List Step)
    → early_step (step.Case on arms rest) b
    ≡ ((is_in_any b (reads_of on) || arms_read b arms) || (list_any (λ (arm : StepArm). early_steps arm.body b) arms || early_steps rest b))
case_early b on arms rest = ap (list_any (read_first b)) (case_paths on arms rest)
    ∙ early_behind b (reads_of on ++ arm_spans arms) (bodies arms) (paths rest) (either_has (bodies arms) rest)
    ∙ ap₂ ◌||◌ (any_append (is_in b) (reads_of on) (arm_spans arms) ∙ ap (λ r. is_in_any b (reads_of on) || r) (items_read b arms))
    (ap₂ ◌||◌ (bodies_early b arms) (early_block b rest))

-- ---- steps without blocks

pub show_always : (b : Bit) (pieces : List Piece) → always_step (step.Show pieces) b ≡ false
show_always b pieces = ap (list_all (list_any (event_writes b))) (steps.fold-Show (List Path) ArmPaths step_paths arm_paths pieces)

pub show_early : (b : Bit) (pieces : List Piece) → early_step (step.Show pieces) b ≡ list_any (λ p. is_in_any b (piece_reads p)) pieces
show_early b pieces = ap (list_any (read_first b)) (steps.fold-Show (List Path) ArmPaths step_paths arm_paths pieces)
    ∙ one_way b (flat_map piece_reads pieces) [] refl ∙ any_flat (is_in b) piece_reads pieces

pub finish_always : (b : Bit) → always_step step.Finish b ≡ false
finish_always b = ap (list_all (list_any (event_writes b))) (steps.fold-Finish (List Path) ArmPaths step_paths arm_paths)

pub finish_early : (b : Bit) → early_step step.Finish b ≡ false
finish_early b = ap (list_any (read_first b)) (steps.fold-Finish (List Path) ArmPaths step_paths arm_paths)

pub stop_always : (b : Bit) → always_step step.Stop b ≡ false
stop_always b = ap (list_all (list_any (event_writes b))) (steps.fold-Stop (List Path) ArmPaths step_paths arm_paths)

pub stop_early : (b : Bit) → early_step step.Stop b ≡ false
stop_early b = ap (list_any (read_first b)) (steps.fold-Stop (List Path) ArmPaths step_paths arm_paths)

pub count_always : (b : Bit) (counter : ℕ) → always_step (step.Count counter) b ≡ false
count_always b counter = ap (list_all (list_any (event_writes b))) (steps.fold-Count (List Path) ArmPaths step_paths arm_paths counter)

pub count_early : (b : Bit) (counter : ℕ) → early_step (step.Count counter) b ≡ false
count_early b counter = ap (list_any (read_first b)) (steps.fold-Count (List Path) ArmPaths step_paths arm_paths counter)
