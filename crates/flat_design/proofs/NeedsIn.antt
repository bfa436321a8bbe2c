-- What is known of steps and arms whose needs of room are counted.
use Rattle.std.proofs.Common.{◌≡◌, ◌∙◌, sym, ap, subst, refl, ℕ, zero, suc, ◌<◌, ◌≤◌, arith, true, List, [], ◌∷◌, length, drop, slice_index_or, map}
use Rattle.std.specs.Prelude.{flat_map, All, IsTrue}
use Rattle.std.specs.List.{list_all}
use Rattle.design_tree.specs.declared.design.Design.{Design}
use Rattle.design_tree.specs.declared.design.Process.{Process}
use Rattle.design_tree.specs.declared.typed.Typed.{Typed}
use Rattle.design_tree.specs.declared.step.Step.{Step}
use Rattle.design_tree.specs.declared.step.Step.TheVariants as step
use Rattle.design_tree.specs.declared.step.StepArm.{StepArm}
use Rattle.circuit_run.specs.States.{State}
use Rattle.circuit_run.specs.Lists.{total}
use Rattle.design_meaning.specs.States.{IsStateOf}
use Rattle.design_meaning.specs.WellFormed.{is_step}
use Rattle.design_meaning.specs.ValidVariables.{IsVariable}
use Rattle.design_meaning.specs.ValidProcesses.{IsProcess}
use Rattle.design_meaning.specs.Valid.{IsValidDesign}
use Rattle.design_meaning.proofs.ListLaws.{right_true, and_from}
use Rattle.flat_design.specs.Effects.{Room, Effects, HasRoom, empty, room_of, sum_of}
use Rattle.flat_design.specs.InDesign.{CanRun, mentions_in}
use Rattle.flat_design.specs.Needed.{StepsIn, ArmsIn}
use Rattle.flat_design.proofs.Rooms.{room_right, sum_more}
use Rattle.flat_design.proofs.StepsIn as inside

pub past_end : {X : Type 0} (xs : List X) (n : ℕ) → length xs ≤ n → drop n xs ≡ []
past_end [] zero h = refl
past_end [] (suc n) h = refl
past_end (x ∷ xs) zero h = absurd (omega (arith, h))
past_end (x ∷ xs) (suc n) h = past_end xs n (omega (arith, h))

module _ (s : State) where
  tail : (e : Effects) (x : Step) (xs : List Step) → CanRun s e (x ∷ xs) → CanRun s e xs
  tail e x xs h = record {
    design = h.design;
    counters = h.counters;
    of = h.of;
    variables = h.variables;
    formed = right_true (is_step h.design h.counters x) (list_all (is_step h.design h.counters) xs) h.formed;
    room = room_right h.design e (mentions_in x) (flat_map mentions_in xs) h.room;
  }

  pub first_step : (x : Step) (xs : List Step) → StepsIn s (x ∷ xs) → StepsIn s (x ∷ [])
  first_step x xs h = (h.0, inside.can_first s h.0 x xs h.1)

  pub rest_steps : (x : Step) (xs : List Step) → StepsIn s (x ∷ xs) → StepsIn s xs
  rest_steps x xs h = (h.0, tail h.0 x xs h.1)

  pub left_steps : (test : Typed) (a b : List Step) → StepsIn s (step.If test a b ∷ []) → StepsIn s a
  left_steps test a b h = (h.0, inside.if_left s h.0 test a b h.1)

  pub right_steps : (test : Typed) (a b : List Step) → StepsIn s (step.If test a b ∷ []) → StepsIn s b
  right_steps test a b h = (h.0, inside.if_right s h.0 test a b h.1)

  pub all_arms : (on : Typed) (arms : List StepArm) (rest : List Step) → StepsIn s (step.Case on arms rest ∷ []) → ArmsIn s arms
  all_arms on arms rest h i none lt = (h.0, inside.case_arm s h.0 on arms rest i none lt h.1)

  pub other_steps : (on : Typed) (arms : List StepArm) (rest : List Step) → StepsIn s (step.Case on arms rest ∷ []) → StepsIn s rest
  other_steps on arms rest h = (h.0, inside.case_rest s h.0 on arms rest h.1)

  pub first_arm : (arm : StepArm) (arms : List StepArm) → ArmsIn s (arm ∷ arms) → StepsIn s arm.body
  first_arm arm arms h = h 0 arm (omega arith)

  pub rest_arms : (arm : StepArm) (arms : List StepArm) → ArmsIn s (arm ∷ arms) → ArmsIn s arms
  rest_arms arm arms h i none lt = h (suc i) none (omega (arith, lt))

all_formed : (d : Design) (k : ℕ) (xs : List Step) → All (λ x. IsTrue (is_step d k x)) xs → list_all (is_step d k) xs ≡ true
all_formed d k [] h = refl
all_formed d k (x ∷ xs) h = and_from (is_step d k x) (list_all (is_step d k) xs) (h 0 x (omega arith))
    (all_formed d k xs (λ i e lt. h (suc i) e (omega (arith, lt))))

process_is : (d : Design) (p : Process) → (v : IsValidDesign d) → (i : ℕ) → i < length d.processes → p ≡ slice_index_or d.processes i p
    → IsProcess d v.0.counters p
process_is d p v i lt is =
    let all : All (IsProcess d v.0.counters) d.processes = subst (λ x. All (IsProcess x v.0.counters) x.processes) v.2 v.1.processes in
    subst (IsProcess d v.0.counters) (sym is) (all i p lt)

-- the steps of a process of a valid design are well formed
pub process_formed : (d : Design) (p : Process) → (v : IsValidDesign d) → (i : ℕ) → i < length d.processes → p ≡ slice_index_or d.processes i p
    → list_all (is_step d v.0.counters) p.body ≡ true
process_formed d p v i lt is = all_formed d v.0.counters p.body (process_is d p v i lt is).formed

-- it can be run where there is room
pub process_can : (d : Design) (s : State) (e : Effects) (p : Process) → IsValidDesign d → IsStateOf d s → (i : ℕ) → i < length d.processes
    → p ≡ slice_index_or d.processes i p
    → HasRoom e (room_of d p) → CanRun s e p.body
process_can d s e p valid of i lt is room =
    record {
      design = d;
      counters = valid.0.counters;
      of = of;
      variables = subst (λ x. All IsVariable x.vars) valid.2 valid.1.variables;
      formed = process_formed d p valid i lt is;
      room = room;
    }

-- with just the room that it needs
pub process_steps : (d : Design) (s : State) (p : Process) → IsValidDesign d → IsStateOf d s → (i : ℕ) → i < length d.processes
    → p ≡ slice_index_or d.processes i p → StepsIn s p.body
process_steps d s p valid of i lt is = (
  empty (room_of d p),
  process_can d s (empty (room_of d p)) p valid of i lt is
      (record { for_updates = omega arith; for_bytes = omega arith; for_counters = omega arith }),
)

-- the room of one run of each of some processes
abbrev pub rooms : Design → List Process → Room
rooms d ps = record {
  updates = total (map (λ p. (room_of d p).updates) ps);
  bytes = total (map (λ p. (room_of d p).bytes) ps);
  counters = total (map (λ p. (room_of d p).counters) ps);
}

pub next_process : (d : Design) (p : Process) (ps : List Process) (before more all after : Room) → sum_of before (rooms d (p ∷ ps)) ≡ all
    → more ≡ room_of d p → after ≡ sum_of before more → sum_of after (rooms d ps) ≡ all
next_process d p ps before more all after inv m a = ap (λ r. sum_of r (rooms d ps)) (a ∙ ap (sum_of before) m) ∙ sum_more before (room_of d p) (rooms d ps)
    ∙ inv
