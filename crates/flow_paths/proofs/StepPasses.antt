-- Walks over each kind of step, from walks over its parts.
use Rattle.std.proofs.Common.{◌≡◌, ◌∙◌, sym, ap, ap₂, subst, refl, ℕ, ◌+◌, ◌<◌, ◌≤◌, ◌⊎◌, inl, inr, Bool, true, false, not, ◌||◌, ◌&&◌, List, [], ◌∷◌, ◌++◌}
use Rattle.std.proofs.Common.{length, get_or, take}
use Rattle.std.specs.List.{list_any, list_all}
use Rattle.std.proofs.lemmas.List.Folds.{list_any_more, list_all_more}
use Rattle.cov_types.specs.declared.var.Var.{Var}
use Rattle.design_tree.specs.declared.typed.Typed.{Typed}
use Rattle.design_tree.specs.declared.step.Target.{Target}
use Rattle.design_tree.specs.declared.step.Piece.{Piece}
use Rattle.design_tree.specs.declared.step.StepArm.{StepArm}
use Rattle.design_tree.specs.declared.step.Step.{Step}
use Rattle.design_tree.specs.declared.step.Step.TheVariants as step
use Rattle.circuit_run.specs.States.{Bit}
use Rattle.design_meaning.specs.Spans.{is_in_any, reads_of}
use Rattle.design_meaning.specs.Targets.{surely_names}
use Rattle.design_meaning.specs.Paths.{assign_reads, piece_reads}
use Rattle.flow_marks.specs.declared.slot.Slot.{Slot}
use Rattle.flow_marks.specs.declared.trail.Spot.{Spot}
use Rattle.flow_marks.specs.Slots.{IsIn}
use Rattle.flow_marks.specs.Sets.{MarkSet, has}
use Rattle.flow_marks.specs.Takes.{AreIn, is_listed}
use Rattle.flow_paths.specs.declared.walk.Walk.{Walk}
use Rattle.flow_paths.specs.Walking.{IsEmpty, IsReady, IsUnwritten, Passes, Branches, ArmBranches, IsCommon, TakesAll, always_step, early_step, always_steps}
use Rattle.flow_paths.specs.Walking.{early_steps}
use Rattle.flow_paths.proofs.Passing.{passes_same, passes_none, passes_both, reads_then, joined_none, joined_both, unwritten_by, in_left, in_right, or_cases}
use Rattle.flow_paths.proofs.Branching.{branch_both, branch_same, branch_taken}
use Rattle.flow_paths.proofs.StepPaths.{set_always, set_early, later_always, later_early, if_always, if_early, case_always, case_early, show_always, show_early}
use Rattle.flow_paths.proofs.StepPaths.{finish_always, finish_early, stop_always, stop_early, count_always, count_early, arms_read}

or_nothing : (a : Bool) → (a || false) ≡ a
or_nothing true = refl
or_nothing false = refl

-- in terms of a step that is known
by_step : (o n : Walk) (one x : Step) (w e : Bit → Bool) → one ≡ x → ((b : Bit) → always_step x b ≡ w b) → ((b : Bit) → early_step x b ≡ e b) → Passes o n w e
    → Passes o n (always_step one) (early_step one)
by_step o n one x w e is h k p = passes_same o n w (always_step one) e (early_step one) (λ b i. sym (h b) ∙ ap (λ y. always_step y b) (sym is))
    (λ b i. sym (k b) ∙ ap (λ y. early_step y b) (sym is)) p

pub set_passes : (o m n : Walk) (targets : List Target) (value : Typed) (one : Step) → one ≡ step.Set targets value
    → Passes o m (λ b. false) (λ b. is_in_any b (assign_reads targets value)) → Passes m n (λ b. list_any (surely_names b) targets) (λ b. false)
    → Passes o n (always_step one) (early_step one)
set_passes o m n targets value one is x y = by_step o n one (step.Set targets value) (λ b. list_any (surely_names b) targets)
    (λ b. is_in_any b (assign_reads targets value) || false) is (λ b. set_always b targets value) (λ b. set_early b targets value
    ∙ sym (or_nothing (is_in_any b (assign_reads targets value))))
    (reads_then o m n (λ b. is_in_any b (assign_reads targets value)) (λ b. list_any (surely_names b) targets) (λ b. false) x y)

pub later_passes : (o n : Walk) (targets : List Target) (value : Typed) (one : Step) → one ≡ step.Later targets value
    → Passes o n (λ b. false) (λ b. is_in_any b (assign_reads targets value)) → Passes o n (always_step one) (early_step one)
later_passes o n targets value one is x = by_step o n one (step.Later targets value) (λ b. false) (λ b. is_in_any b (assign_reads targets value)) is
    (λ b. later_always b targets value) (λ b. later_early b targets value) x

pub show_passes : (o n : Walk) (pieces : List Piece) (one : Step) → one ≡ step.Show pieces
    → Passes o n (λ b. false) (λ b. list_any (λ p. is_in_any b (piece_reads p)) pieces) → Passes o n (always_step one) (early_step one)
show_passes o n pieces one is x = by_step o n one (step.Show pieces) (λ b. false) (λ b. list_any (λ p. is_in_any b (piece_reads p)) pieces) is
    (λ b. show_always b pieces) (λ b. show_early b pieces) x

pub finish_passes : (o : Walk) (one : Step) → one ≡ step.Finish → IsEmpty o.spare → Passes o o (always_step one) (early_step one)
finish_passes o one is h = by_step o o one step.Finish (λ b. false) (λ b. false) is finish_always finish_early
    (passes_none o (λ b. false) (λ b. false) h (λ b. refl) (λ b. refl))

pub stop_passes : (o : Walk) (one : Step) → one ≡ step.Stop → IsEmpty o.spare → Passes o o (always_step one) (early_step one)
stop_passes o one is h = by_step o o one step.Stop (λ b. false) (λ b. false) is stop_always stop_early
    (passes_none o (λ b. false) (λ b. false) h (λ b. refl) (λ b. refl))

pub count_passes : (o : Walk) (counter : ℕ) (one : Step) → one ≡ step.Count counter → IsEmpty o.spare → Passes o o (always_step one) (early_step one)
count_passes o counter one is h = by_step o o one (step.Count counter) (λ b. false) (λ b. false) is (λ b. count_always b counter) (λ b. count_early b counter)
    (passes_none o (λ b. false) (λ b. false) h (λ b. refl) (λ b. refl))

-- ---- branches

-- the test is read, each branch is walked and taken back, and what both write is taken
pub if_passes : (vars : List Var) (o m n p q r : Walk) (t s both : List Spot) (test : Typed) (left right : List Step) (one : Step)
    → one ≡ step.If test left right → IsReady vars m
    → Passes o m (λ b. false) (λ b. is_in_any b (reads_of test)) → Branches m n t (always_steps left) (early_steps left)
    → Branches n p s (always_steps right) (early_steps right)
    → q.left ≡ p.left → q.trail.items ≡ p.trail.items → q.early ≡ p.early → IsCommon p.spare q.spare t s both → TakesAll q r both
    → Passes o r (always_step one) (early_step one)
if_passes vars o m n p q r t s both test left right one is ready x y z k l e c a = by_step o r one (step.If test left right)
    (λ b. always_steps left b && always_steps right b)
    (λ b. is_in_any b (reads_of test) || (early_steps left b || early_steps right b)) is (λ b. if_always b test left right) (λ b. if_early b test left right)
    (reads_then o m r (λ b. is_in_any b (reads_of test)) (λ b. always_steps left b && always_steps right b) (λ b. early_steps left b || early_steps right b) x
    (branch_taken m q r both (λ b. always_steps left b && always_steps right b) (λ b. early_steps left b || early_steps right b)
    (branch_both vars m n p q t s both (always_steps left) (always_steps right) (early_steps left) (early_steps right) ready y z k l e c) a))

-- one branch, and then others among its bits
branch_then : (o m n : Walk) (t s : List Spot) (w v e f : Bit → Bool) → Branches o m t w e → Branches m n s (λ b. is_listed t b && v b) f
    → Branches o n s (λ b. w b && v b) (λ b. e b || f b)
branch_then o m n t s w v e f x y = record {
  left_slots = y.left_slots ∙ x.left_slots;
  left = λ b h. y.left b (there b h) ∙ x.left b h;
  trail = y.trail ∙ x.trail;
  slots = y.slots ∙ x.slots;
  empty = y.empty;
  inside = subst (λ (z : List Slot). AreIn z s) x.left_slots y.inside;
  gone = λ b h g. y.gone b (there b h) (x.left b h ∙ g) ∙ ap (λ r. r && v b) (x.gone b h g);
  reads = joined_both o.early m.early n.early (IsUnwritten o.left e) (IsUnwritten m.left f) (IsUnwritten o.left (λ b. e b || f b))
      (unwritten_by o.left o.left e (λ b. e b || f b) refl (λ b i g. g) (λ b i g. in_left (e b) (f b) g))
      (unwritten_by m.left o.left f (λ b. e b || f b) (sym x.left_slots) (λ b i g. sym (x.left b (here b i)) ∙ g) (λ b i g. in_right (e b) (f b) g))
      back x.reads y.reads;
}
  where
    there : (b : Bit) → IsIn o.left.slots b → IsIn m.left.slots b
    there b h = subst (λ (z : List Slot). IsIn z b) (sym x.left_slots) h

    here : (b : Bit) → IsIn m.left.slots b → IsIn o.left.slots b
    here b h = subst (λ (z : List Slot). IsIn z b) x.left_slots h

    back : (u : ℕ) → IsUnwritten o.left (λ b. e b || f b) u → IsUnwritten o.left e u ⊎ IsUnwritten m.left f u
    back u z = elim (or_cases (e z.bit) (f z.bit) z.of_kind) [
      | inl g ↦ inl (record { bit = z.bit; of_variable = z.of_variable; here = z.here; is_left = z.is_left; of_kind = g })
      | inr g ↦ inr (record { bit = z.bit; of_variable = z.of_variable; here = there z.bit z.here; is_left = x.left z.bit z.here ∙ z.is_left; of_kind = g })
    ]

abbrev pub all_always : List StepArm → Bit → Bool
all_always arms b = list_all (λ (arm : StepArm). always_steps arm.body b) arms

abbrev pub any_early : List StepArm → Bit → Bool
any_early arms b = list_any (λ (arm : StepArm). early_steps arm.body b) arms

pub case_passes : (o m n p q r : Walk) (t s : List Spot) (on : Typed) (arms : List StepArm) (rest : List Step) (one : Step) → one ≡ step.Case on arms rest
    → Passes o m (λ b. false) (λ b. is_in_any b (reads_of on)) → Passes m n (λ b. false) (λ b. arms_read b arms)
    → Branches n p t (always_steps rest) (early_steps rest) → Branches p q s (λ b. is_listed t b && all_always arms b) (any_early arms) → TakesAll q r s
    → Passes o r (always_step one) (early_step one)
case_passes o m n p q r t s on arms rest one is x y z k a = by_step o r one (step.Case on arms rest) (λ b. always_steps rest b && all_always arms b)
    (λ b. is_in_any b (reads_of on) || (arms_read b arms || (early_steps rest b || any_early arms b))) is
    (λ b. case_always b on arms rest ∙ turned (all_always arms b) (always_steps rest b))
    (λ b. case_early b on arms rest ∙ five (is_in_any b (reads_of on)) (arms_read b arms) (any_early arms b) (early_steps rest b))
    (reads_then o m r (λ b. is_in_any b (reads_of on)) (λ b. always_steps rest b && all_always arms b)
    (λ b. arms_read b arms || (early_steps rest b || any_early arms b)) x
    (reads_then m n r (λ b. arms_read b arms) (λ b. always_steps rest b && all_always arms b) (λ b. early_steps rest b || any_early arms b) y
    (branch_taken n q r s (λ b. always_steps rest b && all_always arms b) (λ b. early_steps rest b || any_early arms b)
    (branch_then n p q t s (always_steps rest) (all_always arms) (early_steps rest) (any_early arms) z k) a)))
  where
    turned : (a c : Bool) → (a && c) ≡ (c && a)
    turned true true = refl
    turned true false = refl
    turned false true = refl
    turned false false = refl

    five : (a i u v : Bool) → ((a || i) || (u || v)) ≡ (a || (i || (v || u)))
    five true i u v = refl
    five false true u v = refl
    five false false true true = refl
    five false false true false = refl
    five false false false true = refl
    five false false false false = refl

-- ---- the arms of a case

pub arms_none : (o : Walk) (t : List Spot) → IsEmpty o.spare → AreIn o.left.slots t → Branches o o t (λ b. is_listed t b && true) (λ b. false)
arms_none o t h i = record {
  left_slots = refl;
  left = λ b g. refl;
  trail = refl;
  slots = refl;
  empty = h;
  inside = i;
  gone = λ b g k. sym (and_true (is_listed t b));
  reads = joined_none o.early (IsUnwritten o.left (λ b. false)) (λ v x. absurd (cc x.of_kind));
}
  where
    and_true : (a : Bool) → (a && true) ≡ a
    and_true true = refl
    and_true false = refl

pub arms_next : (vars : List Var) (o m n q : Walk) (first t s both : List Spot) (arms : List StepArm) (i : ℕ) (arm : StepArm) → i < length arms
    → arm ≡ get_or arms i arm → IsReady vars o
    → Branches o m t (λ b. is_listed first b && all_always (take i arms) b) (any_early (take i arms))
    → Branches m n s (always_steps arm.body) (early_steps arm.body)
    → q.left ≡ n.left → q.trail.items ≡ n.trail.items → q.early ≡ n.early → IsCommon n.spare q.spare t s both
    → Branches o q both (λ b. is_listed first b && all_always (take (i + 1) arms) b) (any_early (take (i + 1) arms))
arms_next vars o m n q first t s both arms i arm lt is ready x y k l e c = branch_same o q both
    (λ b. (is_listed first b && all_always (take i arms) b) && always_steps arm.body b) (λ b. is_listed first b && all_always (take (i + 1) arms) b)
    (λ b. any_early (take i arms) b || early_steps arm.body b) (any_early (take (i + 1) arms))
    (λ b. assoc (is_listed first b) (all_always (take i arms) b) (always_steps arm.body b)
    ∙ ap (λ r. is_listed first b && r) (ap (λ (a : StepArm). all_always (take i arms) b && always_steps a.body b) is
    ∙ sym (list_all_more (λ (a : StepArm). always_steps a.body b) arms i arm lt)))
    (λ b. ap (λ (a : StepArm). any_early (take i arms) b || early_steps a.body b) is
    ∙ sym (list_any_more (λ (a : StepArm). early_steps a.body b) arms i arm lt))
    (branch_both vars o m n q t s both (λ b. is_listed first b && all_always (take i arms) b) (always_steps arm.body) (any_early (take i arms))
    (early_steps arm.body) ready x y k l e c)
  where
    assoc : (a b d : Bool) → ((a && b) && d) ≡ (a && (b && d))
    assoc true b d = refl
    assoc false b d = refl
