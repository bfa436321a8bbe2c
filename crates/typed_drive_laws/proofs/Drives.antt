-- The steps of a statement drive the bits that its targets name, and so the processes of a typed form those of the source's: by
-- induction on how they are the typed form.
use Rattle.std.proofs.Common.{◌≡◌, ◌∙◌, sym, ap, ap₂, refl, ℕ, Bool, true, false, ◌&&◌, ◌||◌, not, List, [], ◌∷◌, ◌++◌, map, flat_map}
use Rattle.std.specs.List.{list_any, list_all, AllZip, AllByRecursion}
use Rattle.std.proofs.Math.Bool.{or_comm}
use Rattle.cov_types.specs.declared.place.Place.{Place}
use Rattle.elab_types.specs.declared.flat_source.FlatVar.{FlatVar}
use Rattle.elab_types.specs.declared.flat_source.FlatProcess.{FlatProcess}
use Rattle.elab_types.specs.declared.flat_expression.FlatExpr.{FlatExpr}
use Rattle.elab_types.specs.declared.flat_statement.FlatStmt.{FlatStmt}
use Rattle.elab_types.specs.declared.flat_statement.FlatArm.{FlatArm}
use Rattle.design_tree.specs.declared.step.StepArm.{StepArm}
use Rattle.design_tree.specs.declared.step.Step.{Step}
use Rattle.design_tree.specs.declared.step.Step.TheVariants as s
use Rattle.design_tree.specs.declared.design.Process.{Process}
use Rattle.circuit_run.specs.States.{Bit, IsBitOf}
use Rattle.source_meaning.specs.Events.{Event, Arm, yes_arm, no_arm, case_arm, covered}
use Rattle.source_meaning.specs.Meaning.{Object}
use Rattle.source_meaning.specs.Drives.{names, some_names}
use Rattle.flat_meaning.specs.Circuit.{var_of}
use Rattle.flat_meaning.specs.FlatTrees.{flat_arm as arm}
use Rattle.flat_meaning.specs.Statements.{targets}
use Rattle.flat_meaning.proofs.FlatTargets as named
use Rattle.design_meaning.specs.Paths.{paths}
use Rattle.design_meaning.specs.Reach.{event_drives, drives_of}
use Rattle.design_meaning.proofs.SimCases.{bodies}
use Rattle.design_meaning.proofs.ListLaws.{any_append, or_assoc, left_true, right_true}
use Rattle.typed_form.specs.Nodes.{test}
use Rattle.typed_form.specs.TypedSteps as typed
use Rattle.typed_form.specs.TypedSteps.{AreSteps, AreStepsOfAll, AreArms, IsRest}
use Rattle.typed_form.specs.TypedForm.{IsTypedProcess, assigns, combines, clocks, begins, covers, AreTypedProcesses, no_processes, more_processes}
use Rattle.typed_form.specs.WholeLaw.{DrivesTheSame}
use Rattle.typed_drive_laws.specs.FixedParts.{has_constants}
use Rattle.typed_drive_laws.specs.FormedBodies.{is_default, one_default, is_formed, IsFormed}
use Rattle.typed_drive_laws.specs.DriveLaws.{TypedDrivesTheSame}
use Rattle.typed_drive_laws.proofs.Formed as formed
use Rattle.typed_drive_laws.proofs.TargetBits.{named_targets}
use Rattle.typed_drive_laws.proofs.StepBits.{drives_in, drives_append, drives_counted, drives_counts, drives_if, drives_case}
use Rattle.typed_drive_laws.proofs.StepBits.{drives_set, drives_later, drives_show}
use Rattle.typed_drive_laws.proofs.StepBits.{drives_finish, drives_stop}

-- ---- arms with items, and a default apart

-- an arm: whether it is a default, and the objects that its targets name
abbrev Named : Type 0
Named = Bool × List Object

abbrev unless_default : Bool → List Object → List Object
unless_default true objects = []
unless_default false objects = objects

-- the objects of the arms with items, of the first default, and of all
abbrev listed : List Named → List Object
listed [] = []
listed (x ∷ xs) = unless_default x.0 x.1 ++ listed xs

abbrev default_or : Bool → List Object → List Object → List Object
default_or true objects others = objects
default_or false objects others = others

abbrev default_of : List Named → List Object
default_of [] = []
default_of (x ∷ xs) = default_or x.0 x.1 (default_of xs)

abbrev all_of : List Named → List Object
all_of [] = []
all_of (x ∷ xs) = x.1 ++ all_of xs

all_listed : (xs : List Named) → list_all not (map (λ x. x.0) xs) ≡ true → all_of xs ≡ listed xs
all_listed [] h = refl
all_listed ((true, objects) ∷ xs) h = absurd cc
all_listed ((false, objects) ∷ xs) h = ap (λ os. objects ++ os) (all_listed xs h)

apart : (b : Bit) (xs : List Named) → one_default (map (λ x. x.0) xs) ≡ true
    → (some_names (listed xs) b || some_names (default_of xs) b) ≡ some_names (all_of xs) b
apart b [] h = refl
apart b ((true, objects) ∷ xs) h =
    or_comm (some_names (listed xs) b) (some_names objects b)
    ∙ ap (λ os. some_names objects b || some_names os b) (sym (all_listed xs h))
    ∙ sym (any_append (λ o. names o b) objects (all_of xs))
apart b ((false, objects) ∷ xs) h =
    ap (λ c. c || some_names (default_of xs) b) (any_append (λ o. names o b) objects (listed xs))
    ∙ or_assoc (some_names objects b) (some_names (listed xs) b) (some_names (default_of xs) b)
    ∙ ap (λ c. some_names objects b || c) (apart b xs h)
    ∙ sym (any_append (λ o. names o b) objects (all_of xs))

module _ (vars : List FlatVar) (scope : ℕ) (marks : Event → List ℕ) where
  abbrev is_well : FlatStmt → Bool
  is_well = is_formed (has_constants vars)

  abbrev arm_is : FlatArm → Named
  arm_is a = ((formed.arms (has_constants vars) a).is_default, named.arms vars a)

  -- Steps drive, among the bits of the variables, what the objects name.
  abbrev Drives : List Object → List Step → Type 0
  Drives objects steps = (b : Bit) → IsBitOf (map var_of vars) b → drives_of steps b ≡ some_names objects b

  abbrev counts : Place → Arm → List Step
  counts p which = map s.Count (marks (record { scope = scope; place = p; arm = which }))

  abbrev all_well : List FlatArm → Bool
  all_well arms = list_all (λ a. a.formed) (map (formed.arms (has_constants vars)) arms)

  arm_parts : (p : Place) (items : List FlatExpr) (st : FlatStmt) → arm_is (arm p items st) ≡ (is_default items, targets vars st)
  arm_parts p items st = ap₂ (λ x os. (x.is_default, os)) (formed.of-arm (has_constants vars) p items st) (named.of-arm vars p items st)

  -- the first of some well formed arms has a well formed body, and so have the others
  body_well : (p : Place) (items : List FlatExpr) (st : FlatStmt) (rest : List FlatArm) → all_well (arm p items st ∷ rest) ≡ true → is_well st ≡ true
  body_well p items st rest f =
      right_true (list_all (has_constants vars) items) (is_well st)
      (sym (ap (λ x. x.formed) (formed.of-arm (has_constants vars) p items st))
      ∙ left_true (formed.arms (has_constants vars) (arm p items st)).formed (all_well rest) f)

  rest_well : (p : Place) (items : List FlatExpr) (st : FlatStmt) (rest : List FlatArm) → all_well (arm p items st ∷ rest) ≡ true → all_well rest ≡ true
  rest_well p items st rest f = right_true (formed.arms (has_constants vars) (arm p items st)).formed (all_well rest) f

  named_arms : (arms : List FlatArm) → all_of (map arm_is arms) ≡ flat_map (λ os. os) (map (named.arms vars) arms)
  named_arms [] = refl
  named_arms (a ∷ arms) = ap (λ os. named.arms vars a ++ os) (named_arms arms)

  defaults_are : (arms : List FlatArm)
      → map (λ (x : Named). x.0) (map arm_is arms) ≡ map (λ a. a.is_default) (map (formed.arms (has_constants vars)) arms)
  defaults_are [] = refl
  defaults_are (a ∷ arms) = ap (λ xs. (formed.arms (has_constants vars) a).is_default ∷ xs) (defaults_are arms)

  mutual
    drives_step : {st : FlatStmt} {steps : List Step} → AreSteps vars scope marks st steps → is_well st ≡ true → Drives (targets vars st) steps
    drives_step (typed.empty {p}) f b here = sym (ap (λ os. some_names os b) (named.of-Empty vars p))
    drives_step (typed.block {p} {last} {body} {steps} d) f b here =
        drives_all d (sym (formed.of-Block (has_constants vars) p body last) ∙ f) b here ∙ sym (ap (λ os. some_names os b) (named.of-Block vars p body last))
    drives_step (typed.if_alone {p} {on} {first} {a} {ys} da d) f b here =
        let fs = sym (formed.of-If (has_constants vars) p on first) ∙ f in
        let first_well = right_true (has_constants vars on) (is_well first) (left_true (has_constants vars on && is_well first) true fs) in
        drives_if (test a) (counts p yes_arm ++ ys) (counts p no_arm) b
        ∙ ap₂ ◌||◌ (drives_counted (marks _) ys b ∙ drives_step d first_well b here) (drives_counts (marks _) b)
        ∙ sym (any_append (λ o. names o b) (targets vars first) [])
        ∙ sym (ap (λ os. some_names os b) (named.of-If vars p on first))
    drives_step (typed.if_else {p} {on} {first} {second} {a} {ys} {ns} da d e) f b here =
        let fs = sym (formed.of-If-else (has_constants vars) p on first second) ∙ f in
        let first_well = right_true (has_constants vars on) (is_well first) (left_true (has_constants vars on && is_well first) (is_well second) fs) in
        let second_well = right_true (has_constants vars on && is_well first) (is_well second) fs in
        drives_if (test a) (counts p yes_arm ++ ys) (counts p no_arm ++ ns) b
        ∙ ap₂ ◌||◌ (drives_counted (marks _) ys b ∙ drives_step d first_well b here) (drives_counted (marks _) ns b ∙ drives_step e second_well b here)
        ∙ sym (any_append (λ o. names o b) (targets vars first) (targets vars second))
        ∙ sym (ap (λ os. some_names os b) (named.of-If-else vars p on first second))
    drives_step (typed.case {p} {wild} {on} {arms} {a} {step_arms} {rest} da ds dr) f b here =
        let defaults = map (λ a. a.is_default) (map (formed.arms (has_constants vars)) arms) in
        let fs = sym (formed.of-Case (has_constants vars) p wild on arms) ∙ f in
        let well = right_true (has_constants vars on && one_default defaults) (all_well arms) fs in
        let one = right_true (has_constants vars on) (one_default defaults) (left_true (has_constants vars on && one_default defaults) (all_well arms) fs) in
        drives_case a step_arms rest b
        ∙ ap₂ ◌||◌ (drives_arms ds well b here) (drives_rest dr well b here)
        ∙ apart b (map arm_is arms) (ap one_default (defaults_are arms) ∙ one)
        ∙ ap (λ os. some_names os b) (named_arms arms)
        ∙ sym (ap (λ os. some_names os b) (named.of-Case vars p wild on arms))
    drives_step (typed.set {p} {target} {value} {ts} {a} dt dv) f b here =
        drives_set ts a b
        ∙ named_targets vars dt (left_true (has_constants vars target) (has_constants vars value)
        (sym (formed.of-Set (has_constants vars) p target value) ∙ f)) b here
        ∙ sym (ap (λ os. some_names os b) (named.of-Set vars p target value))
    drives_step (typed.later {p} {target} {value} {ts} {a} dt dv) f b here =
        drives_later ts a b
        ∙ named_targets vars dt (left_true (has_constants vars target) (has_constants vars value)
        (sym (formed.of-Later (has_constants vars) p target value) ∙ f)) b here
        ∙ sym (ap (λ os. some_names os b) (named.of-Later vars p target value))
    drives_step (typed.show {p} {text} {values} {pieces} d) f b here =
        drives_show pieces b ∙ sym (ap (λ os. some_names os b) (named.of-Show vars p text values))
    drives_step (typed.finish {p}) f b here = drives_finish b ∙ sym (ap (λ os. some_names os b) (named.of-Finish vars p))
    drives_step (typed.stop {p}) f b here = drives_stop b ∙ sym (ap (λ os. some_names os b) (named.of-Stop vars p))

    drives_all : {body : List FlatStmt} {steps : List Step} → AreStepsOfAll vars scope marks body steps
        → list_all (λ formed. formed) (map is_well body) ≡ true → Drives (flat_map (λ of. of) (map (targets vars) body)) steps
    drives_all typed.no_stmts f b here = refl
    drives_all (typed.more_stmts {first} {rest} {xs} {ys} d ds) f b here =
        let others = list_all (λ formed. formed) (map is_well rest) in
        drives_append xs ys b
        ∙ ap₂ ◌||◌ (drives_step d (left_true (is_well first) others f) b here) (drives_all ds (right_true (is_well first) others f) b here)
        ∙ sym (any_append (λ o. names o b) (targets vars first) (flat_map (λ of. of) (map (targets vars) rest)))

    drives_arms : {size : ℕ} {by_sign : Bool} {arms : List FlatArm} {step_arms : List StepArm} → AreArms vars scope marks size by_sign arms step_arms
        → all_well arms ≡ true → (b : Bit) → IsBitOf (map var_of vars) b
        → drives_in b (bodies step_arms) ≡ some_names (listed (map arm_is arms)) b
    drives_arms typed.no_arms f b here = refl
    drives_arms (typed.listed {size} {by_sign} {p} {item} {items} {body = st} {rest} {its} {steps} {step_arms} di d ds) f b here =
        any_append (list_any (event_drives b)) (paths (counts p case_arm ++ steps)) (bodies step_arms)
        ∙ ap₂ ◌||◌ (drives_counted (marks _) steps b ∙ drives_step d (body_well p (item ∷ items) st rest f) b here)
        (drives_arms ds (rest_well p (item ∷ items) st rest f) b here)
        ∙ sym (any_append (λ o. names o b) (targets vars st) (listed (map arm_is rest)))
        ∙ ap (λ (x : Named). some_names (unless_default x.0 x.1 ++ listed (map arm_is rest)) b) (sym (arm_parts p (item ∷ items) st))
    drives_arms (typed.default_apart {size} {by_sign} {p} {body = st} {rest} {step_arms} ds) f b here =
        drives_arms ds (rest_well p [] st rest f) b here
        ∙ ap (λ (x : Named). some_names (unless_default x.0 x.1 ++ listed (map arm_is rest)) b) (sym (arm_parts p [] st))

    drives_rest : {p : Place} {arms : List FlatArm} {steps : List Step} → IsRest vars scope marks p arms steps → all_well arms ≡ true
        → Drives (default_of (map arm_is arms)) steps
    drives_rest (typed.no_default {p}) f b here = drives_counts (marks _) b
    drives_rest (typed.at_default {p} {q} {body = st} {rest} {steps} d) f b here =
        drives_counted (marks _) steps b ∙ drives_step d (body_well q [] st rest f) b here
        ∙ ap (λ (x : Named). some_names (default_or x.0 x.1 (default_of (map arm_is rest))) b) (sym (arm_parts q [] st))
    drives_rest (typed.past {p} {q} {item} {items} {body = st} {rest} {steps} d) f b here =
        drives_rest d (rest_well q (item ∷ items) st rest f) b here
        ∙ ap (λ (x : Named). some_names (default_or x.0 x.1 (default_of (map arm_is rest))) b) (sym (arm_parts q (item ∷ items) st))

module _ (vars : List FlatVar) (marks : Event → List ℕ) where
  drives_process : {p : FlatProcess} {q : Process} → IsTypedProcess vars marks p q → IsFormed vars p → DrivesTheSame vars p q
  drives_process (assigns {scope} {place} {st} {steps} d) f b here = drives_counted (marks _) steps b ∙ drives_step vars scope marks d f.body b here
  drives_process (combines {scope} {place} {st} {steps} d) f b here = drives_counted (marks _) steps b ∙ drives_step vars scope marks d f.body b here
  drives_process (clocks {scope} {place} {st} {steps} d) f b here = drives_counted (marks _) steps b ∙ drives_step vars scope marks d f.body b here
  drives_process (begins {scope} {place} {st} {steps} d) f b here = drives_counted (marks _) steps b ∙ drives_step vars scope marks d f.body b here
  drives_process (covers {scope} {place} q on first second {a} d) f b here =
      drives_if (test a) (map s.Count (marks (record { scope = scope; place = place; arm = covered }))) [] b
      ∙ ap (λ c. c || false) (drives_counts (marks (record { scope = scope; place = place; arm = covered })) b)
      ∙ sym (ap (λ os. some_names os b) (f.idle refl))

  drive_all : {ps : List FlatProcess} {qs : List Process} → AreTypedProcesses vars marks ps qs → AllByRecursion (IsFormed vars) ps
      → AllZip (DrivesTheSame vars) ps qs
  drive_all no_processes f = tt
  drive_all (more_processes d ds) f = (drives_process d f.0, drive_all ds f.1)

-- the law
pub typed_drives_the_same : TypedDrivesTheSame
typed_drives_the_same flat marks d f h = drive_all flat.vars marks h.processes f
