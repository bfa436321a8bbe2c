-- A cover assigns nothing.
use Rattle.std.proofs.Common.{◌≡◌, ◌∙◌, ap, subst, refl, ℕ, suc, Bool, false, ◌||◌, List, [], ◌∷◌, ◌++◌, map, length, inl, inr, arith}
use Rattle.std.proofs.lemmas.Bool.{cases_lt}
use Rattle.std.proofs.lemmas.List.{get_or_past}
use Rattle.std.specs.Prelude.{All, IsTrue}
use Rattle.std.specs.List.{list_any}
use Rattle.design_tree.specs.declared.typed.Typed.{Typed}
use Rattle.design_tree.specs.declared.step.Step.{Step}
use Rattle.design_tree.specs.declared.step.Step.TheVariants as step
use Rattle.design_tree.specs.declared.design.Process.{Process}
use Rattle.design_tree.specs.declared.design.Design.{Design}
use Rattle.circuit_run.specs.Kinds.{is_cover}
use Rattle.design_meaning.specs.Spans.{reads_of}
use Rattle.design_meaning.specs.Paths.{Path, ArmPaths, reads, step_paths, arm_paths, paths_of_step, paths}
use Rattle.design_meaning.specs.Processes.{process_of, kind_of, no_process}
use Rattle.design_meaning.specs.Reach.{event_sets, sets_var}
use Rattle.design_meaning.specs.ValidProcesses.{IsCount, IsOneTest, IsProcess}
use Rattle.design_meaning.specs.Valid.{IsValidDesign}
use Rattle.design_meaning.proofs.StepFolds as steps
use Rattle.design_meaning.proofs.ListLaws.{any_map, any_append}
use Rattle.design_meaning.proofs.PathLaws.{any_choice}
use Rattle.design_meaning.proofs.HasPath.{all_have}

abbrev sets_in : ℕ → List Path → Bool
sets_in v ps = list_any (list_any (event_sets v)) ps

in_block : (v : ℕ) (xs : List Step) → sets_in v (paths xs) ≡ list_any (sets_in v) (map paths_of_step xs)
in_block v xs = any_choice (event_sets v) (map paths_of_step xs) (all_have xs)

counts : (v : ℕ) (xs : List Step) → All IsCount xs → list_any (sets_in v) (map paths_of_step xs) ≡ false
counts v [] h = refl
counts v (x ∷ xs) h =
    let one : IsCount x = h 0 x (omega arith) in
    let this : sets_in v (paths_of_step x) ≡ false = ap (λ y. sets_in v (paths_of_step y)) one.1
    ∙ ap (sets_in v) (steps.fold-Count (List Path) ArmPaths step_paths arm_paths one.0) in
    rw (this) (counts v xs (λ k d lt. h (suc k) d (omega (arith, lt))))

a_test : (v : ℕ) (e : Typed) (left right : List Step) → All IsCount left → All IsCount right → sets_in v (paths_of_step (step.If e left right)) ≡ false
a_test v e left right l r =
    ap (sets_in v) (steps.fold-If (List Path) ArmPaths step_paths arm_paths e left right)
    ∙ any_map (list_any (event_sets v)) (λ path. reads (reads_of e) ∷ path) (paths left ++ paths right)
    ∙ any_append (list_any (event_sets v)) (paths left) (paths right)
    ∙ rw (in_block v left, in_block v right, counts v left l, counts v right r) refl

one_test : (v : ℕ) (body : List Step) → IsOneTest body → sets_in v (paths body) ≡ false
one_test v body h = let (e, left, right, is, l, r) = h in
    ap (λ xs. sets_in v (paths xs)) is ∙ in_block v (step.If e left right ∷ []) ∙ ap (λ c. c || false) (a_test v e left right l r)

pub covers_set_nothing : (d : Design) (p v : ℕ) → IsValidDesign d → IsTrue (is_cover (kind_of d p)) → sets_var d p v ≡ false
covers_set_nothing d p v valid h = elim (cases_lt p (length d.processes)) [
  | inl lt ↦ one_test v (process_of d p).body
      ((subst (λ x. All (IsProcess x valid.0.counters) x.processes) valid.2 valid.1.processes p no_process lt).covers h)
  | inr past ↦ ap (λ (x : Process). sets_in v (paths x.body)) (get_or_past d.processes p no_process past)
]
