-- A run of steps leaves no more than the room for what they mention, and a state of the design; and the rest can be run after it.
use Rattle.std.proofs.Common.{◌≡◌, ◌∙◌, ap, sym, subst, refl, ℕ, ◌==◌, Bool, true, false, ◌&&◌, List, [], ◌∷◌, ◌++◌, append_assoc, map, arith}
use Rattle.std.specs.Prelude.{All, flat_map, if◌then◌else◌}
use Rattle.std.specs.List.{list_all, list_any, AllByRecursion}
use Rattle.design_tree.specs.declared.design.Design.{Design}
use Rattle.design_tree.specs.declared.typed.Typed.{Typed}
use Rattle.design_tree.specs.declared.step.StepArm.{StepArm, fold_out-StepArm}
use Rattle.design_tree.specs.declared.step.Step.{Step}
use Rattle.design_tree.specs.declared.step.Step.TheVariants as step
use Rattle.circuit_run.specs.States.{State}
use Rattle.circuit_run.specs.Outcomes.{Outcome, Act, in_turn}
use Rattle.design_meaning.specs.States.{IsStateOf}
use Rattle.design_meaning.specs.Values.{value_in}
use Rattle.design_meaning.specs.Widths.{width_of}
use Rattle.design_meaning.specs.WellTyped.{is_typed}
use Rattle.design_meaning.specs.WellFormed.{is_step, is_item, step_formed, arm_formed}
use Rattle.design_meaning.specs.Steps.{ArmAct, does, all_do, arm_acts, chosen, is_match, step_does, arm_does}
use Rattle.design_meaning.specs.Mentions.{Mention, expression, item_mentions}
use Rattle.design_meaning.specs.ValidVariables.{IsVariable}
use Rattle.design_meaning.proofs.ListLaws.{left_true, right_true}
use Rattle.design_meaning.proofs.StepFolds as steps
use Rattle.design_meaning.proofs.Equations as equation
use Rattle.design_meaning.proofs.StepInduction.{ArmHas, step_induction}
use Rattle.design_meaning.proofs.SimCases.{sim}
use Rattle.flat_design.specs.Effects.{Effects, IsWithin, added, room_for}
use Rattle.flat_design.specs.InDesign.{CanRun, mentions_in}
use Rattle.flat_design.specs.Needed.{arm_mentions_in, arm_at}
use Rattle.flat_design.proofs.Rooms.{within_left, within_right, within_both, room_after}
use Rattle.flat_design.proofs.TargetsIn.{length-parts_at}
use Rattle.piece_text.proofs.ShowFits.{show_fits}
use Rattle.flat_design.proofs.StepsIn.{if_formed, case_formed, if_mentions, case_mentions, arm_mentions_is, set_mentions, later_mentions, count_mentions}
use Rattle.flat_design.proofs.StepsIn.{show_mentions, target_count}

-- a step leaves a state of the design
pub state_kept : (d : Design) (x : Step) (s : State) → IsStateOf d s → IsStateOf d (does x s).state
state_kept d x s h = (sim d x s s h h (λ b. true) (λ b hb i. refl) (λ b hb i. refl)).state

-- the acts of an arm
arm_acts_is : (arm : StepArm) → arm_acts arm ≡ record { items = arm.items; body = map does arm.body }
arm_acts_is arm = fold_out-StepArm (Act ℕ) ArmAct step_does arm_does arm

pub chosen_here : (s : State) (n : ℕ) (arm : StepArm) (arms : List StepArm) (rest : List (Act ℕ)) → list_any (is_match s n) arm.items ≡ true
    → chosen s n (map arm_acts (arm ∷ arms)) rest ≡ map does arm.body
chosen_here s n arm arms rest h = ap (λ a. chosen s n (a ∷ map arm_acts arms) rest) (arm_acts_is arm)
    ∙ ap (λ c. if c then map does arm.body else chosen s n (map arm_acts arms) rest) h

pub chosen_next : (s : State) (n : ℕ) (arm : StepArm) (arms : List StepArm) (rest : List (Act ℕ)) → list_any (is_match s n) arm.items ≡ false
    → chosen s n (map arm_acts (arm ∷ arms)) rest ≡ chosen s n (map arm_acts arms) rest
chosen_next s n arm arms rest h = ap (λ a. chosen s n (a ∷ map arm_acts arms) rest) (arm_acts_is arm)
    ∙ ap (λ c. if c then map does arm.body else chosen s n (map arm_acts arms) rest) h

module _ (d : Design) (k : ℕ) (vars : All IsVariable d.vars) where
  abbrev Within : Step → Type 0
  Within x = (s : State) → IsStateOf d s → is_step d k x ≡ true → IsWithin (does x s) (room_for d (mentions_in x))

  abbrev WithinAll : List Step → Type 0
  WithinAll xs = (s : State) → IsStateOf d s → list_all (is_step d k) xs ≡ true → IsWithin (all_do xs s) (room_for d (flat_map mentions_in xs))

  -- from what a step does and mentions
  from : (x : Step) (s : State) (o : Outcome ℕ) (ms : List Mention) → does x s ≡ o → mentions_in x ≡ ms → IsWithin o (room_for d ms)
      → IsWithin (does x s) (room_for d (mentions_in x))
  from x s o ms eo em h = subst (λ o. IsWithin o (room_for d (mentions_in x))) (sym eo) (subst (λ ms. IsWithin o (room_for d ms)) (sym em) h)

  nothing : (ms : List Mention) (o : Outcome ℕ) → o.updates ≡ [] → o.text ≡ [] → o.notes ≡ [] → IsWithin o (room_for d ms)
  nothing ms o a b c = record { updates = rw a (omega arith); bytes = rw b (omega arith); counters = rw c (omega arith) }

  pub all_within : (xs : List Step) → AllByRecursion Within xs → WithinAll xs
  all_within [] h s hs ok = record { updates = omega arith; bytes = omega arith; counters = omega arith }
  all_within (x ∷ xs) h s hs ok =
      within_both d (does x s) (all_do xs (does x s).state) (mentions_in x) (flat_map mentions_in xs)
      (h.0 s hs (left_true (is_step d k x) (list_all (is_step d k) xs) ok))
      (all_within xs h.1 (does x s).state (state_kept d x s hs) (right_true (is_step d k x) (list_all (is_step d k) xs) ok))

  pick : (c : Bool) (left right : List Step) (s : State) → IsWithin (all_do left s) (room_for d (flat_map mentions_in left))
      → IsWithin (all_do right s) (room_for d (flat_map mentions_in right))
      → IsWithin (in_turn (if c then map does right else map does left) s) (room_for d (flat_map mentions_in left ++ flat_map mentions_in right))
  pick true left right s l r = within_right d (all_do right s) (flat_map mentions_in left) (flat_map mentions_in right) r
  pick false left right s l r = within_left d (all_do left s) (flat_map mentions_in left) (flat_map mentions_in right) l

  if_within : (test : Typed) (left right : List Step) → AllByRecursion Within left → AllByRecursion Within right → Within (step.If test left right)
  if_within test left right hl hr s hs ok =
      let l : Bool = list_all (is_step d k) left in
      let r : Bool = list_all (is_step d k) right in
      let front : Bool = is_typed d test && width_of d test == 1 in
      let ok' : (front && l && r) ≡ true = sym (if_formed d k test left right) ∙ ok in
      from (step.If test left right) s _ _ (equation.does-If test left right s) (if_mentions test left right)
      (within_right d _ (expression test ∷ []) (flat_map mentions_in left ++ flat_map mentions_in right)
      (pick ((value_in s test).number == 0) left right s
      (all_within left hl s hs (right_true front l (left_true (front && l) r ok'))) (all_within right hr s hs (right_true (front && l) r ok'))))

  arms_within : (w n : ℕ) (arms : List StepArm) (rest : List Step) → AllByRecursion (ArmHas Within) arms → AllByRecursion Within rest → (s : State)
      → IsStateOf d s
      → list_all (arm_at d k w) arms ≡ true → list_all (is_step d k) rest ≡ true
      → IsWithin (in_turn (chosen s n (map arm_acts arms) (map does rest)) s) (room_for d (flat_map arm_mentions_in arms ++ flat_map mentions_in rest))
  arms_within w n [] rest ha hr s hs oka okr = all_within rest hr s hs okr
  arms_within w n (arm ∷ arms) rest ha hr s hs oka okr =
      by (list_any (is_match s n) arm.items) refl
      (arms_within w n arms rest ha.1 hr s hs (right_true (arm_at d k w arm) (list_all (arm_at d k w) arms) oka) okr)
    where
      more : List Mention
      more = flat_map arm_mentions_in arms ++ flat_map mentions_in rest

      here : arm_at d k w arm ≡ true
      here = left_true (arm_at d k w arm) (list_all (arm_at d k w) arms) oka

      by : (c : Bool) → list_any (is_match s n) arm.items ≡ c
          → IsWithin (in_turn (chosen s n (map arm_acts arms) (map does rest)) s) (room_for d (flat_map arm_mentions_in arms ++ flat_map mentions_in rest))
          → IsWithin (in_turn (chosen s n (map arm_acts (arm ∷ arms)) (map does rest)) s) (room_for d (flat_map arm_mentions_in (arm ∷ arms)
          ++ flat_map mentions_in rest))
      by true e there = subst (λ acts. IsWithin (in_turn acts s) (room_for d (flat_map arm_mentions_in (arm ∷ arms)
          ++ flat_map mentions_in rest))) (sym (chosen_here s n arm arms (map does rest) e))
          (within_left d (all_do arm.body s) (flat_map arm_mentions_in (arm ∷ arms)) (flat_map mentions_in rest)
          (within_left d (all_do arm.body s) (arm_mentions_in arm) (flat_map arm_mentions_in arms)
          (subst (λ ms. IsWithin (all_do arm.body s) (room_for d ms)) (sym (arm_mentions_is arm))
          (within_right d (all_do arm.body s) (flat_map item_mentions arm.items) (flat_map mentions_in arm.body)
          (all_within arm.body ha.0 s hs (right_true (list_all (is_item d w) arm.items) (list_all (is_step d k) arm.body) here))))))
      by false e there = subst (λ acts. IsWithin (in_turn acts s) (room_for d (flat_map arm_mentions_in (arm ∷ arms)
          ++ flat_map mentions_in rest))) (sym (chosen_next s n arm arms (map does rest) e))
          (subst (λ ms. IsWithin (in_turn (chosen s n (map arm_acts arms) (map does rest)) s) (room_for d ms))
          (sym (append_assoc (arm_mentions_in arm) (flat_map arm_mentions_in arms) (flat_map mentions_in rest)))
          (within_right d (in_turn (chosen s n (map arm_acts arms) (map does rest)) s) (arm_mentions_in arm) more there))

  case_within : (on : Typed) (arms : List StepArm) (rest : List Step) → AllByRecursion (ArmHas Within) arms → AllByRecursion Within rest
      → Within (step.Case on arms rest)
  case_within on arms rest ha hr s hs ok =
      let w : ℕ = width_of d on in
      let a : Bool = list_all (arm_at d k w) arms in
      let r : Bool = list_all (is_step d k) rest in
      let ok' : (is_typed d on && a && r) ≡ true = sym (case_formed d k on arms rest) ∙ ok in
      from (step.Case on arms rest) s _ _ (equation.does-Case on arms rest s) (case_mentions on arms rest)
      (within_right d _ (expression on ∷ []) (flat_map arm_mentions_in arms ++ flat_map mentions_in rest)
      (arms_within w (value_in s on).number arms rest ha hr s hs (right_true (is_typed d on) a (left_true (is_typed d on && a) r ok'))
      (right_true (is_typed d on && a) r ok')))

  pub within : (x : Step) → Within x
  within = step_induction Within
      (λ targets value s hs ok. from (step.Set targets value) s _ _ (equation.does-Set targets value s) (set_mentions targets value)
      (nothing _ _ refl refl refl))
      (λ targets value s hs ok. from (step.Later targets value) s _ _ (equation.does-Later targets value s) (later_mentions targets value)
      (record {
        updates = omega (arith, length-parts_at s targets (value_in s value).number, target_count targets value);
        bytes = omega arith;
        counters =
            omega arith;
      }))
      if_within
      case_within
      (λ pieces s hs ok. from (step.Show pieces) s _ _ (equation.does-Show pieces s) (show_mentions pieces)
      (record {
        updates = omega arith;
        bytes = show_fits d s hs vars pieces (sym (steps.fold-Show Bool (ℕ → Bool) (step_formed d k) (arm_formed d) pieces)
            ∙ ok);
        counters = omega arith;
      }))
      (λ s hs ok. from step.Finish s _ _ (equation.does-Finish s) refl (nothing _ _ refl refl refl))
      (λ s hs ok. from step.Stop s _ _ (equation.does-Stop s) refl (nothing _ _ refl refl refl))
      (λ counter s hs ok. from (step.Count counter) s _ _ (equation.does-Count counter s) (count_mentions counter)
      (record { updates = omega arith; bytes = omega arith; counters = omega arith }))

-- after one step the rest can be run
pub can_rest : (s : State) (e : Effects) (x : Step) (xs : List Step) → CanRun s e (x ∷ xs) → CanRun (does x s).state (added e (does x s)) xs
can_rest s e x xs h =
    let d : Design = h.design in
    let ok : is_step d h.counters x ≡ true = left_true (is_step d h.counters x) (list_all (is_step d h.counters) xs) h.formed in
    record {
      design = d;
      counters = h.counters;
      of = state_kept d x s h.of;
      variables = h.variables;
      formed = right_true (is_step d h.counters x) (list_all (is_step d h.counters) xs) h.formed;
      room = room_after d e (does x s) (mentions_in x) (flat_map mentions_in xs) (within d h.counters h.variables x s h.of ok) h.room;
    }
