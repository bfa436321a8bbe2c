-- Whether steps are well formed, whether they print or end the run, and how deep their blocks are, with counts and without.
use Rattle.std.proofs.Common.{◌≡◌, ℕ, ◌+◌, ◌<◌, Bool, true, false, ◌&&◌, ◌||◌, List, [], ◌∷◌, ◌++◌, map, refl, ap, arith}
use Rattle.std.specs.Prelude.{◌==◌, nat_lt, max}
use Rattle.std.specs.List.{list_all}
use Rattle.design_tree.specs.declared.typed.Typed.{Typed}
use Rattle.design_tree.specs.declared.step.StepItem.{StepItem}
use Rattle.design_tree.specs.declared.design.Process.{Process}
use Rattle.design_tree.specs.declared.design.Design.{Design}
use Rattle.design_meaning.specs.Widths.{width_of}
use Rattle.design_meaning.specs.WellTyped.{is_typed}
use Rattle.design_meaning.specs.WellFormed.{all_of, any_of, is_item, step_formed, arm_formed, step_tells, arm_tells}
use Rattle.design_meaning.specs.Sizes.{greatest, step_depth, arm_depth}
use Rattle.counted_laws.proofs.Sees.{Sees}

-- the same design with other processes
abbrev pub with_processes : Design → List Process → Design
with_processes d ps = record d { processes = ps }

-- a counter that a design has
abbrev pub IsBelow : ℕ → ℕ → Type 0
IsBelow counters c = nat_lt c counters ≡ true

-- all tests at a width hold
abbrev pub all_at : List (ℕ → Bool) → ℕ → Bool
all_at arms w = list_all (λ (arm : ℕ → Bool). arm w) arms

pub formed : (d : Design) (ps : List Process) (counters low : ℕ)
    → Sees (step_formed (with_processes d ps) counters) (step_formed d low) (arm_formed (with_processes d ps)) (arm_formed d)
    (λ (b : Bool). b) (λ (f : ℕ → Bool). f) all_of all_at (IsBelow counters)
formed d ps counters low = record {
  join = λ a b. a && b;
  join_arms = λ f g w. f w && g w;
  of_if = λ test l r. ((is_typed d test && width_of d test == 1) && l) && r;
  of_case = λ on arms rest. (is_typed d on && arms (width_of d on)) && rest;
  of_arm = λ items body w. list_all (is_item d w) items && body;
  more = λ a xs. refl;
  more_arms = λ b xs. refl;
  if_new = λ test l r. refl;
  if_old = λ test l r. refl;
  case_new = λ on arms rest. refl;
  case_old = λ on arms rest. refl;
  arm_new = λ items body. refl;
  arm_old = λ items body. refl;
  of_set = λ targets value. refl;
  of_later = λ targets value. refl;
  of_show = λ pieces. refl;
  of_finish = refl;
  of_stop = refl;
  of_count = λ c z fits. ap (λ (b : Bool). b && z) fits;
}

pub told : Sees step_tells step_tells arm_tells arm_tells (λ (b : Bool). b) (λ (b : Bool). b) any_of any_of (λ c. Unit {0})
told = record {
  join = λ a b. a || b;
  join_arms = λ a b. a || b;
  of_if = λ test l r. l || r;
  of_case = λ on arms rest. arms || rest;
  of_arm = λ items body. body;
  more = λ a xs. refl;
  more_arms = λ b xs. refl;
  if_new = λ test l r. refl;
  if_old = λ test l r. refl;
  case_new = λ on arms rest. refl;
  case_old = λ on arms rest. refl;
  arm_new = λ items body. refl;
  arm_old = λ items body. refl;
  of_set = λ targets value. refl;
  of_later = λ targets value. refl;
  of_show = λ pieces. refl;
  of_finish = refl;
  of_stop = refl;
  of_count = λ c z fits. refl;
}

none_deep : (c z : ℕ) → max 0 z ≡ z
none_deep c z = omega arith

pub deep : Sees step_depth step_depth arm_depth arm_depth (λ (n : ℕ). n) (λ (n : ℕ). n) greatest greatest (λ c. Unit {0})
deep = record {
  join = λ a b. max a b;
  join_arms = λ a b. max a b;
  of_if = λ test l r. max (1 + l) (1 + r);
  of_case = λ on arms rest. max arms (1 + rest);
  of_arm = λ items body. 1 + body;
  more = λ a xs. refl;
  more_arms = λ b xs. refl;
  if_new = λ test l r. refl;
  if_old = λ test l r. refl;
  case_new = λ on arms rest. refl;
  case_old = λ on arms rest. refl;
  arm_new = λ items body. refl;
  arm_old = λ items body. refl;
  of_set = λ targets value. refl;
  of_later = λ targets value. refl;
  of_show = λ pieces. refl;
  of_finish = refl;
  of_stop = refl;
  of_count = λ c z fits. none_deep c z;
}
