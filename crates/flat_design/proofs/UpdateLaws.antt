-- What a run leaves for later is for variables of the design.
use Rattle.std.proofs.Common.{◌≡◌, ◌∙◌, sym, subst, refl, ℕ, zero, suc, ◌<◌, ◌==◌, Bool, true, false, ◌&&◌, List, [], ◌∷◌, ◌++◌, length, map, arith}
use Rattle.std.specs.Prelude.{All, IsTrue, if◌then◌else◌}
use Rattle.std.specs.List.{list_all, list_any, AllByRecursion}
use Rattle.design_tree.specs.declared.design.Design.{Design}
use Rattle.design_tree.specs.declared.typed.Typed.{Typed}
use Rattle.design_tree.specs.declared.step.Target.{Target}
use Rattle.design_tree.specs.declared.step.StepArm.{StepArm}
use Rattle.design_tree.specs.declared.step.Step.{Step}
use Rattle.design_tree.specs.declared.step.Step.TheVariants as step
use Rattle.circuit_run.specs.States.{State}
use Rattle.circuit_run.specs.Writes.{Part}
use Rattle.circuit_run.specs.Outcomes.{Outcome, in_turn}
use Rattle.bit_values.specs.Values.{select}
use Rattle.std.specs.Prelude.{pos}
use Rattle.design_meaning.specs.States.{IsStateOf}
use Rattle.design_meaning.specs.Values.{value_in}
use Rattle.design_meaning.specs.Widths.{width_of, widths_named}
use Rattle.design_meaning.specs.Writes.{target_width, target_widths, parts_at}
use Rattle.design_meaning.specs.WellTyped.{is_typed, is_target}
use Rattle.design_meaning.specs.WellFormed.{is_step, is_item, step_formed, arm_formed}
use Rattle.design_meaning.specs.Steps.{does, all_do, arm_acts, chosen, is_match, run_of}
use Rattle.design_meaning.specs.Processes.{process_of, no_process}
use Rattle.design_meaning.specs.ValidProcesses.{IsProcess}
use Rattle.design_meaning.proofs.ListLaws.{left_true, right_true}
use Rattle.design_meaning.proofs.StepFolds as steps
use Rattle.design_meaning.proofs.Equations as equation
use Rattle.design_meaning.proofs.StepInduction.{ArmHas, step_induction}
use Rattle.design_meaning.proofs.RunTheorems.{runs_keep_states}
use Rattle.flat_design.specs.Needed.{arm_at}
use Rattle.flat_design.specs.Laws.{UpdatesStand}
use Rattle.flat_design.proofs.StepsIn.{if_formed, case_formed}
use Rattle.flat_design.proofs.TargetsIn.{any_var}
use Rattle.flat_design.proofs.Within.{state_kept, chosen_here, chosen_next}

-- ---- lists

none : {X : Type 0} (P : X → Type 0) → All P []
none P k d lt = absurd (omega (arith, lt))

more : {X : Type 0} (P : X → Type 0) (x : X) (xs : List X) → P x → All P xs → All P (x ∷ xs)
more P x xs h k zero d lt = h
more P x xs h k (suc i) d lt = k i d (omega (arith, lt))

behind : {X : Type 0} (P : X → Type 0) (xs ys : List X) → All P xs → All P ys → All P (xs ++ ys)
behind P [] ys h k = k
behind P (x ∷ xs) ys h k = more P x (xs ++ ys) (h 0 x (omega arith)) (behind P xs ys (λ i d lt. h (suc i) d (omega (arith, lt))) k)

-- ---- steps

module _ (d : Design) (k : ℕ) where
  abbrev Here : Part → Type 0
  Here part = part.var < length d.vars

  abbrev Stands : Step → Type 0
  Stands x = (s : State) → IsStateOf d s → is_step d k x ≡ true → All Here (does x s).updates

  abbrev StandAll : List Step → Type 0
  StandAll xs = (s : State) → IsStateOf d s → list_all (is_step d k) xs ≡ true → All Here (all_do xs s).updates

  from : (x : Step) (s : State) (o : Outcome ℕ) → does x s ≡ o → All Here o.updates → All Here (does x s).updates
  from x s o e h = subst (λ o. All Here o.updates) (sym e) h

  parts_here : (s : State) (ts : List Target) (n : ℕ) → IsStateOf d s → list_all (is_target d) ts ≡ true → All Here (parts_at s ts n)
  parts_here s [] n hs ok = none Here
  parts_here s (t ∷ ts) n hs ok =
      let own : is_target d t ≡ true = left_true (is_target d t) (list_all (is_target d) ts) ok in
      let m : ℕ = select (target_width s t) n (pos (target_widths s ts)) in
      more Here _ (parts_at s ts n) (omega (arith, hs.as_many, any_var s t m (record { design = d; of = hs; holds = own })))
      (parts_here s ts n hs (right_true (is_target d t) (list_all (is_target d) ts) ok))

  all_stand : (xs : List Step) → AllByRecursion Stands xs → StandAll xs
  all_stand [] h s hs ok = none Here
  all_stand (x ∷ xs) h s hs ok =
      behind Here (does x s).updates (all_do xs (does x s).state).updates (h.0 s hs (left_true (is_step d k x) (list_all (is_step d k) xs) ok))
      (all_stand xs h.1 (does x s).state (state_kept d x s hs) (right_true (is_step d k x) (list_all (is_step d k) xs) ok))

  later_stands : (ts : List Target) (value : Typed) → Stands (step.Later ts value)
  later_stands ts value s hs ok =
      let all : (list_all (is_target d) ts && is_typed d value && widths_named d ts == width_of d value) ≡ true =
      sym (steps.fold-Later Bool (ℕ → Bool) (step_formed d k) (arm_formed d) ts value) ∙ ok in
      from (step.Later ts value) s _ (equation.does-Later ts value s)
      (parts_here s ts (value_in s value).number hs
      (left_true (list_all (is_target d) ts) (is_typed d value)
      (left_true (list_all (is_target d) ts && is_typed d value) (widths_named d ts == width_of d value) all)))

  pick : (c : Bool) (left right : List Step) (s : State) → All Here (all_do left s).updates → All Here (all_do right s).updates
      → All Here (in_turn (if c then map does right else map does left) s).updates
  pick true left right s l r = r
  pick false left right s l r = l

  if_stands : (test : Typed) (left right : List Step) → AllByRecursion Stands left → AllByRecursion Stands right → Stands (step.If test left right)
  if_stands test left right hl hr s hs ok =
      let l : Bool = list_all (is_step d k) left in
      let r : Bool = list_all (is_step d k) right in
      let front : Bool = is_typed d test && width_of d test == 1 in
      let all : (front && l && r) ≡ true = sym (if_formed d k test left right) ∙ ok in
      from (step.If test left right) s _ (equation.does-If test left right s)
      (pick ((value_in s test).number == 0) left right s
      (all_stand left hl s hs (right_true front l (left_true (front && l) r all))) (all_stand right hr s hs (right_true (front && l) r all)))

  arms_stand : (w n : ℕ) (arms : List StepArm) (rest : List Step) → AllByRecursion (ArmHas Stands) arms → AllByRecursion Stands rest → (s : State)
      → IsStateOf d s
      → list_all (arm_at d k w) arms ≡ true → list_all (is_step d k) rest ≡ true → All Here (in_turn (chosen s n (map arm_acts arms) (map does rest)) s).updates
  arms_stand w n [] rest ha hr s hs oka okr = all_stand rest hr s hs okr
  arms_stand w n (arm ∷ arms) rest ha hr s hs oka okr =
      by (list_any (is_match s n) arm.items) refl (arms_stand w n arms rest ha.1 hr s hs (right_true (arm_at d k w arm) (list_all (arm_at d k w) arms) oka) okr)
    where
      here : arm_at d k w arm ≡ true
      here = left_true (arm_at d k w arm) (list_all (arm_at d k w) arms) oka

      by : (c : Bool) → list_any (is_match s n) arm.items ≡ c → All Here (in_turn (chosen s n (map arm_acts arms) (map does rest)) s).updates
          → All Here (in_turn (chosen s n (map arm_acts (arm ∷ arms)) (map does rest)) s).updates
      by true e there = subst (λ acts. All Here (in_turn acts s).updates) (sym (chosen_here s n arm arms (map does rest) e))
          (all_stand arm.body ha.0 s hs (right_true (list_all (is_item d w) arm.items) (list_all (is_step d k) arm.body) here))
      by false e there = subst (λ acts. All Here (in_turn acts s).updates) (sym (chosen_next s n arm arms (map does rest) e)) there

  case_stands : (on : Typed) (arms : List StepArm) (rest : List Step) → AllByRecursion (ArmHas Stands) arms → AllByRecursion Stands rest
      → Stands (step.Case on arms rest)
  case_stands on arms rest ha hr s hs ok =
      let w : ℕ = width_of d on in
      let a : Bool = list_all (arm_at d k w) arms in
      let r : Bool = list_all (is_step d k) rest in
      let all : (is_typed d on && a && r) ≡ true = sym (case_formed d k on arms rest) ∙ ok in
      from (step.Case on arms rest) s _ (equation.does-Case on arms rest s)
      (arms_stand w (value_in s on).number arms rest ha hr s hs (right_true (is_typed d on) a (left_true (is_typed d on && a) r all))
      (right_true (is_typed d on && a) r all))

  stands : (x : Step) → Stands x
  stands = step_induction Stands
      (λ ts value s hs ok. from (step.Set ts value) s _ (equation.does-Set ts value s) (none Here))
      later_stands
      if_stands
      case_stands
      (λ pieces s hs ok. from (step.Show pieces) s _ (equation.does-Show pieces s) (none Here))
      (λ s hs ok. from step.Finish s _ (equation.does-Finish s) (none Here))
      (λ s hs ok. from step.Stop s _ (equation.does-Stop s) (none Here))
      (λ counter s hs ok. from (step.Count counter) s _ (equation.does-Count counter s) (none Here))

  each_stands : (xs : List Step) → AllByRecursion Stands xs
  each_stands [] = tt
  each_stands (x ∷ xs) = (stands x, each_stands xs)

-- from a test of each to a test of all
all_tested : {X : Type 0} (f : X → Bool) (xs : List X) → All (λ x. IsTrue (f x)) xs → list_all f xs ≡ true
all_tested f [] h = cc
all_tested f (x ∷ xs) h = rw (h 0 x (omega arith)) (all_tested f xs (λ i d lt. h (suc i) d (omega (arith, lt))))

pub updates_stand : UpdatesStand
updates_stand d p s valid hs lt =
    let x = valid.0 in
    let design : x.design ≡ d = valid.2 in
    let process : IsProcess d x.counters (process_of d p) =
    subst (λ e. All (IsProcess e x.counters) e.processes) design valid.1.processes p no_process lt in
    let body = (process_of d p).body in
    let all = all_stand d x.counters body (each_stands d x.counters body) s hs (all_tested (is_step d x.counters) body process.formed) in
    subst (λ n. All (λ part. part.var < n) (run_of (process_of d p) s).updates) (sym (runs_keep_states d p s valid hs).as_many) all
