-- What steps drive, by their parts.
use Rattle.std.proofs.Common.{◌≡◌, ◌∙◌, sym, ap, ap₂, refl, ℕ, Bool, false, ◌||◌, List, [], ◌∷◌, ◌++◌, map, append-nil}
use Rattle.std.specs.List.{list_any}
use Rattle.design_tree.specs.declared.typed.Typed.{Typed}
use Rattle.design_tree.specs.declared.step.Target.{Target}
use Rattle.design_tree.specs.declared.step.Piece.{Piece}
use Rattle.design_tree.specs.declared.step.StepArm.{StepArm}
use Rattle.design_tree.specs.declared.step.Step.{Step}
use Rattle.design_tree.specs.declared.step.Step.TheVariants as s
use Rattle.circuit_run.specs.States.{Bit}
use Rattle.design_meaning.specs.Spans.{Span, reads_of}
use Rattle.design_meaning.specs.Targets.{names_bit}
use Rattle.design_meaning.specs.Paths.{Path, ArmPaths, reads, sets, defers, step_paths, arm_paths, paths_of_step, paths}
use Rattle.design_meaning.specs.Reach.{event_drives, drives_of}
use Rattle.design_meaning.proofs.StepFolds as steps
use Rattle.design_meaning.proofs.ListLaws.{any_append, any_map, or_false}
use Rattle.design_meaning.proofs.PathLaws.{any_choice}
use Rattle.design_meaning.proofs.HasPath.{all_have}
use Rattle.design_meaning.proofs.SimBranches.{behind}
use Rattle.design_meaning.proofs.SimCases.{case_paths, bodies, arm_spans}

-- on some of these paths a target names the bit
abbrev pub drives_in : Bit → List Path → Bool
drives_in b ps = list_any (list_any (event_drives b)) ps

-- steps drive what one of them drives
in_turn : (steps : List Step) (b : Bit) → drives_of steps b ≡ list_any (λ x. drives_in b (paths_of_step x)) steps
in_turn steps b = any_choice (event_drives b) (map paths_of_step steps) (all_have steps) ∙ any_map (drives_in b) paths_of_step steps

pub drives_append : (xs ys : List Step) (b : Bit) → drives_of (xs ++ ys) b ≡ (drives_of xs b || drives_of ys b)
drives_append xs ys b =
    in_turn (xs ++ ys) b ∙ any_append (λ x. drives_in b (paths_of_step x)) xs ys ∙ ap₂ ◌||◌ (sym (in_turn xs b)) (sym (in_turn ys b))

pub drives_one : (x : Step) (b : Bit) (ps : List Path) → paths_of_step x ≡ ps → drives_of (x ∷ []) b ≡ drives_in b ps
drives_one x b ps h = in_turn (x ∷ []) b ∙ or_false (drives_in b (paths_of_step x)) ∙ ap (drives_in b) h

-- counts drive nothing
pub drives_counted : (cs : List ℕ) (ys : List Step) (b : Bit) → drives_of (map s.Count cs ++ ys) b ≡ drives_of ys b
drives_counted [] ys b = refl
drives_counted (c ∷ cs) ys b =
    drives_append (s.Count c ∷ []) (map s.Count cs ++ ys) b
    ∙ ap₂ ◌||◌ (drives_one (s.Count c) b _ (steps.fold-Count (List Path) ArmPaths step_paths arm_paths c)) (drives_counted cs ys b)

pub drives_counts : (cs : List ℕ) (b : Bit) → drives_of (map s.Count cs) b ≡ false
drives_counts cs b = ap (λ xs. drives_of xs b) (sym (append-nil (map s.Count cs))) ∙ drives_counted cs [] b

-- ---- one step

drives_behind : (spans : List Span) (ps qs : List Path) (b : Bit) → drives_in b (behind spans (ps ++ qs)) ≡ (drives_in b ps || drives_in b qs)
drives_behind spans ps qs b =
    any_map (list_any (event_drives b)) (λ path. reads spans ∷ path) (ps ++ qs) ∙ any_append (list_any (event_drives b)) ps qs

pub drives_if : (on : Typed) (left right : List Step) (b : Bit) → drives_of (s.If on left right ∷ []) b ≡ (drives_of left b || drives_of right b)
drives_if on left right b =
    drives_one (s.If on left right) b _ (steps.fold-If (List Path) ArmPaths step_paths arm_paths on left right)
    ∙ drives_behind (reads_of on) (paths left) (paths right) b

pub drives_case : (on : Typed) (arms : List StepArm) (rest : List Step) (b : Bit)
    → drives_of (s.Case on arms rest ∷ []) b ≡ (drives_in b (bodies arms) || drives_of rest b)
drives_case on arms rest b =
    drives_one (s.Case on arms rest) b _ (case_paths on arms rest) ∙ drives_behind (reads_of on ++ arm_spans arms) (bodies arms) (paths rest) b

pub drives_set : (ts : List Target) (a : Typed) (b : Bit) → drives_of (s.Set ts a ∷ []) b ≡ list_any (names_bit b) ts
drives_set ts a b =
    drives_one (s.Set ts a) b _ (steps.fold-Set (List Path) ArmPaths step_paths arm_paths ts a)
    ∙ or_false (list_any (event_drives b) (map sets ts)) ∙ any_map (event_drives b) sets ts

pub drives_later : (ts : List Target) (a : Typed) (b : Bit) → drives_of (s.Later ts a ∷ []) b ≡ list_any (names_bit b) ts
drives_later ts a b =
    drives_one (s.Later ts a) b _ (steps.fold-Later (List Path) ArmPaths step_paths arm_paths ts a)
    ∙ or_false (list_any (event_drives b) (map defers ts)) ∙ any_map (event_drives b) defers ts

pub drives_show : (ps : List Piece) (b : Bit) → drives_of (s.Show ps ∷ []) b ≡ false
drives_show ps b = drives_one (s.Show ps) b _ (steps.fold-Show (List Path) ArmPaths step_paths arm_paths ps)

pub drives_finish : (b : Bit) → drives_of (s.Finish ∷ []) b ≡ false
drives_finish b = drives_one s.Finish b _ (steps.fold-Finish (List Path) ArmPaths step_paths arm_paths)

pub drives_stop : (b : Bit) → drives_of (s.Stop ∷ []) b ≡ false
drives_stop b = drives_one s.Stop b _ (steps.fold-Stop (List Path) ArmPaths step_paths arm_paths)
