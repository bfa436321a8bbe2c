-- The typed form of a statement does what the statement does: by induction on how it is the typed form.
use Rattle.std.proofs.Common.{◌≡◌, ◌∙◌, sym, ap, ap₂, refl, subst, ℕ, ◌≤◌, Bool, true, false, if◌then◌else◌, List, [], ◌∷◌, ◌++◌, map, flat_map, find, Option}
use Rattle.std.proofs.Common.{Some, le_trans}
use Rattle.std.proofs.lemmas.List.{map-append}
use Rattle.std.proofs.Math.Nat.{le-max_left, le-max_right}
use Rattle.std.specs.List.{list_any}
use Rattle.cov_types.specs.declared.place.Place.{Place}
use Rattle.elab_types.specs.declared.flat_source.FlatVar.{FlatVar}
use Rattle.elab_types.specs.declared.flat_expression.FlatExpr.{FlatExpr}
use Rattle.elab_types.specs.declared.flat_statement.FlatStmt.{FlatStmt}
use Rattle.elab_types.specs.declared.flat_statement.FlatArm.{FlatArm, out-FlatArm}
use Rattle.design_tree.specs.declared.typed.Typed.{Typed}
use Rattle.design_tree.specs.declared.step.Step.{Step}
use Rattle.design_tree.specs.declared.step.Step.TheVariants as v
use Rattle.design_tree.specs.declared.step.StepArm.{StepArm}
use Rattle.circuit_run.specs.States.{State}
use Rattle.circuit_run.specs.Writes.{all_written}
use Rattle.circuit_run.specs.Outcomes.{Act, unchanged, joined, in_turn}
use Rattle.source_meaning.specs.Events.{Event, Arm, yes_arm, no_arm, case_arm, unwritten}
use Rattle.source_meaning.specs.Meaning.{Meaning, holds, greatest_size, all_signed}
use Rattle.source_meaning.specs.Assignments.{assigned, assigned_parts, total_width}
use Rattle.source_meaning.specs.Cases.{Choice, matches, is_default, or_else}
use Rattle.source_meaning.specs.Acts.{choice_runs}
use Rattle.flat_meaning.specs.Expressions.{meaning}
use Rattle.design_meaning.specs.Values.{value_in}
use Rattle.design_meaning.specs.Writes as design
use Rattle.design_meaning.specs.Steps.{ArmAct, step_arm, is_match, chosen, does, arm_acts}
use Rattle.typed_form.specs.Nodes.{test}
use Rattle.typed_form.specs.TypedExpressions.{IsAssigned}
use Rattle.typed_form.specs.TypedTargets.{AreTargets}
use Rattle.typed_form.specs.TypedSteps as typed
use Rattle.typed_form.specs.TypedSteps.{AreSteps, AreStepsOfAll, AreArms, IsRest}
use Rattle.typed_form.specs.TypedLaws.{HasWidths, KeepsRun}
use Rattle.flat_meaning.specs.FlatTrees.{flat_arm as arm}
use Rattle.flat_meaning.proofs.Doings as did
use Rattle.flat_meaning.proofs.Doings.{acts, choices}
use Rattle.typed_form.proofs.Doings as of
use Rattle.typed_form.proofs.Done.{Done, written_widths, widths_follow, done_nothing, done_then, done_alone, done_arm, done_counts, done_if}
use Rattle.typed_form.proofs.KeepsBinary.{test_node}
use Rattle.typed_form.proofs.KeepsValue.{keeps, keeps_alone}
use Rattle.typed_form.proofs.KeepsTargets.{keeps_targets, keeps_assigned, same_parts}
use Rattle.typed_form.proofs.KeepsTexts.{keeps_display}
use Rattle.typed_form.proofs.KeepsItems.{same_match, greatest_left, greatest_right}

module _ (vars : List FlatVar) (scope : ℕ) (marks : Event → List ℕ) where
  abbrev mean : FlatExpr → Meaning
  mean = meaning vars

  -- From each state that has the variables' widths the steps do what the act does.
  abbrev Doing : Act Event → List Step → Type 0
  Doing act steps = (s : State) → HasWidths vars s → Done marks s (act s) (in_turn (map does steps) s)

  abbrev event : Place → Arm → Event
  event p which = record { scope = scope; place = p; arm = which }

  -- the parts of an assignment
  parts_are : (s : State) → HasWidths vars s → (target e : FlatExpr) (ts : _) (a : Typed) → AreTargets vars target ts
      → IsAssigned vars (total_width (mean target).objects) e a
      → design.parts_at s ts (value_in s a).number ≡ assigned_parts (mean target) (mean e) s
  parts_are s widths target e ts a d h =
      ap (λ x. design.parts_at s ts x.number) (keeps_assigned vars s widths h)
      ∙ same_parts (assigned (total_width (mean target).objects) (mean e) s) (keeps_targets vars s widths d)

  abbrev counts : Place → Arm → List Step
  counts p which = map v.Count (marks (event p which))

  -- a statement that is one step
  one_step : {act act' : Act Event} {f : Act ℕ} (step : Step) → act ≡ act' → does step ≡ f → ((s : State) → HasWidths vars s → Done marks s (act' s) (f s))
      → Doing act (step ∷ [])
  one_step {act} {act'} {f} step p q d s widths =
      done_alone marks s (act s) (does step) (subst (λ g. Done marks s (act s) (g s)) (sym q) (subst (λ h. Done marks s (h s) (f s)) (sym p) (d s widths)))

  -- the items of choices
  abbrev items_of : List Choice → List Meaning
  items_of = flat_map (λ c. c.items)

  -- the first arm of the source with an item that matches, and else this choice
  abbrev first_or : ℕ → Bool → Meaning → List Choice → Option Choice → State → Option Choice
  first_or size by_sign on cs other s = or_else (find (λ c. list_any (matches size by_sign on s) c.items) cs) other

  -- one arm more
  picked : (b : Bool) (s : State) (p : Place) (c : Choice) (others other : Option Choice) (xs ys : List (Act ℕ))
      → Done marks s (choice_runs scope p (Some c) s) (in_turn xs s) → Done marks s (choice_runs scope p (or_else others other) s) (in_turn ys s)
      → Done marks s (choice_runs scope p (or_else (if b then Some c else others) other) s) (in_turn (if b then xs else ys) s)
  picked true s p c others other xs ys d e = d
  picked false s p c others other xs ys d e = e

  arm_first : (size : ℕ) (by_sign : Bool) (on : Meaning) (s : State) (p : Place) (c : Choice) (cs : List Choice) (other : Option Choice)
      (n : ℕ) (arm_act : ArmAct) (arm_acts : List ArmAct) (rest : List (Act ℕ))
      → list_any (is_match s n) arm_act.items ≡ list_any (matches size by_sign on s) c.items
      → Done marks s (choice_runs scope p (Some c) s) (in_turn arm_act.body s)
      → Done marks s (choice_runs scope p (first_or size by_sign on cs other s) s) (in_turn (chosen s n arm_acts rest) s)
      → Done marks s (choice_runs scope p (first_or size by_sign on (c ∷ cs) other s) s) (in_turn (chosen s n (arm_act ∷ arm_acts) rest) s)
  arm_first size by_sign on s p c cs other n arm_act arm_acts rest q this others =
      subst (λ b. Done marks s (choice_runs scope p (first_or size by_sign on (c ∷ cs) other s) s)
      (in_turn (if b then arm_act.body else chosen s n arm_acts rest) s)) (sym q)
      (picked (list_any (matches size by_sign on s) c.items) s p c _ other arm_act.body (chosen s n arm_acts rest) this others)

  -- the items of arms, seen as choices
  items_are : (arms : List FlatArm) → flat_map (λ a. map mean (out-FlatArm a).items) arms ≡ items_of (map (choices vars scope) arms)
  items_are [] = refl
  items_are (a ∷ arms) = ap₂ ◌++◌ (sym (ap (λ c. c.items) (did.of-any-arm vars scope a))) (items_are arms)

  mutual
    pub keeps_run : {st : FlatStmt} {steps : List Step} → AreSteps vars scope marks st steps → Doing (acts vars scope st) steps
    keeps_run (typed.empty {p}) = λ s widths. subst (λ act. Done marks s (act s) (unchanged s)) (sym (did.of-Empty vars scope p)) (done_nothing marks s)
    keeps_run (typed.block {p} {last} {body} {steps} d) =
        λ s widths. subst (λ act. Done marks s (act s) (in_turn (map does steps) s)) (sym (did.of-Block vars scope p body last)) (keeps_runs d s widths)
    keeps_run (typed.if_alone {p} {on} {first} {a} {ys} da d) = one_step _ (did.of-If vars scope p on first) (of.of-if (test a) (counts p yes_arm
        ++ ys) (counts p no_arm))
        (λ s widths. done_if marks (holds (mean on) s) (value_in s (test a)).number s _ _ (map does (counts p yes_arm ++ ys)) (map does (counts p no_arm))
        (ap (λ x. x.number) (test_node s a (mean on) (keeps_alone vars s widths da)))
        (done_arm marks (event p yes_arm) (acts vars scope first s) ys s (keeps_run d s widths))
        (done_counts marks (event p no_arm) s))
    keeps_run (typed.if_else {p} {on} {first} {second} {a} {ys} {ns} da d e) =
        one_step _ (did.of-If-else vars scope p on first second) (of.of-if (test a) (counts p yes_arm ++ ys) (counts p no_arm ++ ns))
        (λ s widths. done_if marks (holds (mean on) s) (value_in s (test a)).number s _ _ (map does (counts p yes_arm ++ ys)) (map does (counts p no_arm ++ ns))
        (ap (λ x. x.number) (test_node s a (mean on) (keeps_alone vars s widths da)))
        (done_arm marks (event p yes_arm) (acts vars scope first s) ys s (keeps_run d s widths))
        (done_arm marks (event p no_arm) (acts vars scope second s) ns s (keeps_run e s widths)))
    keeps_run (typed.case {p} {wild} {on} {arms} {a} {step_arms} {rest} da ds dr) = one_step _ (did.of-Case vars scope p wild on arms)
        (of.of-case a step_arms rest)
        (λ s widths.
        let m = mean on in
        let cs = map (choices vars scope) arms in
        let items = flat_map (λ a. map mean (out-FlatArm a).items) arms in
        let size = greatest_size (m ∷ items) in
        let by_sign = all_signed (m ∷ items) in
        let n = (value_in s a).number in
        subst (λ is. Done marks s (choice_runs scope p (first_or (greatest_size (m ∷ is)) (all_signed (m ∷ is)) m cs (find is_default cs) s) s)
        (in_turn (chosen s n (map arm_acts step_arms) (map does rest)) s)) (items_are arms)
        (keeps_arms ds m (find is_default cs) p (map does rest) s widths n
        (ap (λ x. x.number) (keeps vars s widths da (le-max_left m.size (greatest_size items))))
        (subst (λ is. greatest_size is ≤ size) (items_are arms) (le-max_right m.size (greatest_size items)))
        (keeps_rest dr s widths)))
    keeps_run (typed.set {p} {target} {value = e} {ts} {a} dt dv) = one_step _ (did.of-Set vars scope p target e) (of.of-set ts a)
        (λ s widths. record {
          agrees = record {
            state = ap (all_written s) (parts_are s widths target e ts a dt dv);
            updates = refl;
            text = refl;
            notes = refl;
            finished =
                refl;
            stopped = refl;
          };
          widths = written_widths s (assigned_parts (mean target) (mean e) s);
        })
    keeps_run (typed.later {p} {target} {value = e} {ts} {a} dt dv) = one_step _ (did.of-Later vars scope p target e) (of.of-later ts a)
        (λ s widths. record {
          agrees = record { state = refl; updates = parts_are s widths target e ts a dt dv; text = refl; notes = refl; finished = refl; stopped = refl };
          widths = refl;
        })
    keeps_run (typed.show {p} {text} {values} {pieces} d) = one_step _ (did.of-Show vars scope p text values) (of.of-show pieces)
        (λ s widths. record {
          agrees = record {
            state = refl;
            updates = refl;
            text = keeps_display vars s widths text values pieces d;
            notes = refl;
            finished = refl;
            stopped =
                refl;
          };
          widths = refl;
        })
    keeps_run (typed.finish {p}) = one_step _ (did.of-Finish vars scope p) of.of-finish
        (λ s widths. record { agrees = record { state = refl; updates = refl; text = refl; notes = refl; finished = refl; stopped = refl }; widths = refl })
    keeps_run (typed.stop {p}) = one_step _ (did.of-Stop vars scope p) of.of-stop
        (λ s widths. record { agrees = record { state = refl; updates = refl; text = refl; notes = refl; finished = refl; stopped = refl }; widths = refl })

    keeps_runs : {body : List FlatStmt} {steps : List Step} → AreStepsOfAll vars scope marks body steps → Doing (in_turn (map (acts vars scope) body)) steps
    keeps_runs typed.no_stmts s widths = done_nothing marks s
    keeps_runs (typed.more_stmts {first} {rest} {xs} {ys} d ds) s widths =
        let here = keeps_run d s widths in
        subst (λ zs. Done marks s (joined (acts vars scope first s) (in_turn (map (acts vars scope) rest) (acts vars scope first s).state)) (in_turn zs s))
        (sym (map-append does xs ys))
        (done_then marks (acts vars scope first) (in_turn (map (acts vars scope) rest)) (map does xs) (map does ys) s here
        (keeps_runs ds (acts vars scope first s).state (widths_follow vars s (acts vars scope first s).state widths here.widths)))

    keeps_arms : {size : ℕ} {by_sign : Bool} {arms : List FlatArm} {step_arms : List StepArm} → AreArms vars scope marks size by_sign arms step_arms
        → (on : Meaning) (other : Option Choice) (p : Place) (rest : List (Act ℕ)) (s : State) → HasWidths vars s → (n : ℕ) → n ≡ on.value s size by_sign
        → greatest_size (items_of (map (choices vars scope) arms)) ≤ size
        → Done marks s (choice_runs scope p other s) (in_turn rest s)
        → Done marks s (choice_runs scope p (first_or size by_sign on (map (choices vars scope) arms) other s) s)
        (in_turn (chosen s n (map arm_acts step_arms) rest) s)
    keeps_arms typed.no_arms on other p rest s widths n q le d = d
    keeps_arms (typed.listed {size} {by_sign} {p = place} {item} {items} {body} {rest = arms} {its} {steps} {step_arms} di db ds) on other p rest s widths n q
        le d =
        let cs = map (choices vars scope) arms in
        let others = map arm_acts step_arms in
        let ms = map mean (item ∷ items) in
        let fits = subst (λ c. greatest_size (items_of (c ∷ cs)) ≤ size) (did.of-arm vars scope place (item ∷ items) body) le in
        subst (λ c. Done marks s (choice_runs scope p (first_or size by_sign on (c ∷ cs) other s) s)
        (in_turn (chosen s n (arm_acts (step_arm its (counts place case_arm ++ steps)) ∷ others) rest) s))
        (sym (did.of-arm vars scope place (item ∷ items) body))
        (subst (λ a. Done marks s (choice_runs scope p
        (first_or size by_sign on (record { place = place; items = ms; body = acts vars scope body } ∷ cs) other s) s)
        (in_turn (chosen s n (a ∷ others) rest) s))
        (sym (of.of-step_arm its (counts place case_arm ++ steps)))
        (arm_first size by_sign on s p (record { place = place; items = ms; body = acts vars scope body }) cs other n
        (record { items = its; body = map does (counts place case_arm ++ steps) }) others rest
        (same_match vars s widths size n by_sign on q di (le_trans (greatest_left ms (items_of cs)) fits))
        (done_arm marks (event place case_arm) (acts vars scope body s) steps s (keeps_run db s widths))
        (keeps_arms ds on other p rest s widths n q (le_trans (greatest_right ms (items_of cs)) fits) d)))
    keeps_arms (typed.default_apart {size} {by_sign} {p = place} {body} {rest = arms} {step_arms} ds) on other p rest s widths n q le d =
        let cs = map (choices vars scope) arms in
        subst (λ c. Done marks s (choice_runs scope p (first_or size by_sign on (c ∷ cs) other s) s) (in_turn (chosen s n (map arm_acts step_arms) rest) s))
        (sym (did.of-arm vars scope place [] body))
        (keeps_arms ds on other p rest s widths n q (subst (λ c. greatest_size (items_of (c ∷ cs)) ≤ size) (did.of-arm vars scope place [] body) le) d)

    keeps_rest : {p : Place} {arms : List FlatArm} {rest : List Step} → IsRest vars scope marks p arms rest
        → (s : State) → HasWidths vars s → Done marks s (choice_runs scope p (find is_default (map (choices vars scope) arms)) s) (in_turn (map does rest) s)
    keeps_rest (typed.no_default {p}) s widths = done_counts marks (event p unwritten) s
    keeps_rest (typed.at_default {p} {q} {body} {rest} {steps} d) s widths =
        subst (λ c. Done marks s (choice_runs scope p (find is_default (c ∷ map (choices vars scope) rest)) s) (in_turn (map does (counts q case_arm
        ++ steps)) s))
        (sym (did.of-arm vars scope q [] body))
        (done_arm marks (event q case_arm) (acts vars scope body s) steps s (keeps_run d s widths))
    keeps_rest (typed.past {p} {q} {item} {items} {body} {rest} {steps} d) s widths =
        subst (λ c. Done marks s (choice_runs scope p (find is_default (c ∷ map (choices vars scope) rest)) s) (in_turn (map does steps) s))
        (sym (did.of-arm vars scope q (item ∷ items) body))
        (keeps_rest d s widths)

-- the law
pub keeps_the_run : KeepsRun
keeps_the_run vars scope marks st steps d s widths = (keeps_run vars scope marks d s widths).agrees
