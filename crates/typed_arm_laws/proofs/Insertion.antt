-- Steps with counts for the events of arms are the steps without, with counts at the numbers of the arms: by induction on how
-- they are the typed form.
use Rattle.std.proofs.Common.{
  ◌≡◌,
  ◌∙◌,
  sym,
  ap,
  ap₂,
  refl,
  subst,
  arith,
  ℕ,
  ◌+◌,
  Bool,
  true,
  false,
  List,
  [],
  ◌∷◌,
  ◌++◌,
  map,
  length,
  append-nil,
  length-append,
}
use Rattle.std.specs.List.{flat_map}
use Rattle.cov_types.specs.declared.place.Place.{Place}
use Rattle.elab_types.specs.declared.flat_source.FlatVar.{FlatVar}
use Rattle.elab_types.specs.declared.flat_expression.FlatExpr.{FlatExpr}
use Rattle.elab_types.specs.declared.flat_statement.FlatStmt.{FlatStmt}
use Rattle.elab_types.specs.declared.flat_statement.FlatArm.{FlatArm}
use Rattle.design_tree.specs.declared.typed.Typed.{Typed}
use Rattle.design_tree.specs.declared.step.StepArm.{StepArm}
use Rattle.design_tree.specs.declared.step.Step.{Step}
use Rattle.design_tree.specs.declared.step.Step.TheVariants as s
use Rattle.source_meaning.specs.Events.{Event, Arm, yes_arm, no_arm, case_arm, unwritten}
use Rattle.flat_meaning.specs.FlatTrees.{flat_stmt as stmt, flat_arm}
use Rattle.design_meaning.specs.Steps.{step_arm}
use Rattle.typed_form.specs.Nodes.{test}
use Rattle.typed_form.specs.TypedSteps as typed
use Rattle.typed_form.specs.TypedSteps.{AreSteps, AreStepsOfAll, AreArms, IsRest}
use Rattle.counted_circuit.specs.Inserted.{counts, AreCounted, no_steps, plain, an_if, a_case, ArmsAreCounted, no_arms, an_arm, set, later, show, finish, stop}
use Rattle.typed_drive_laws.specs.FormedBodies.{is_default}
use Rattle.typed_arm_laws.specs.FlatArms.{ArmEvents, unless_default, listed, default_or, entering, default_of, events}
use Rattle.typed_arm_laws.proofs.EventsOf as of

-- one list of steps after the other
counted_append : {carried : ℕ → List ℕ} {n k m : ℕ} {xs cs ys ds : List Step} → AreCounted carried n xs cs k → AreCounted carried k ys ds m
    → AreCounted carried n (xs ++ ys) (cs ++ ds) m
counted_append no_steps d = d
counted_append (plain p c) d = plain p (counted_append c d)
counted_append (an_if on l r c) d = an_if on l r (counted_append c d)
counted_append (a_case on a r c) d = a_case on a r (counted_append c d)

module _ (carried : ℕ → List ℕ) (marks : Event → List ℕ) where
  -- From a number on, numbers carry what stands for these events.
  abbrev pub Follows : ℕ → List Event → Type 0
  Follows n [] = Unit {0}
  Follows n (e ∷ es) = (carried n ≡ marks e) × Follows (n + 1) es

  pub follows_left : (n : ℕ) (xs ys : List Event) → Follows n (xs ++ ys) → Follows n xs
  follows_left n [] ys h = tt
  follows_left n (x ∷ xs) ys h = (h.0, follows_left (n + 1) xs ys h.1)

  pub follows_right : (n m : ℕ) (xs ys : List Event) → m ≡ n + length xs → Follows n (xs ++ ys) → Follows m ys
  follows_right n m [] ys e h = let q : n ≡ m = omega arith in subst (λ k. Follows k ys) q h
  follows_right n m (x ∷ xs) ys e h = follows_right (n + 1) m xs ys (omega arith) h.1

module _ (vars : List FlatVar) (scope : ℕ) (carried : ℕ → List ℕ) (marks : Event → List ℕ) where
  -- with no counts
  abbrev none : Event → List ℕ
  none e = []

  -- Steps with counts, that stand for the statement and have counts at the arms whose numbers begin with n.
  pub record Built (st : FlatStmt) (steps : List Step) (n : ℕ) : Type 0 where
    pub counted : List Step
    pub typed : AreSteps vars scope marks st counted
    pub last : ℕ
    pub inserted : AreCounted carried n steps counted last
    pub number : last ≡ n + length (events scope st)

  record AllBuilt (body : List FlatStmt) (steps : List Step) (n : ℕ) : Type 0 where
    counted : List Step
    typed : AreStepsOfAll vars scope marks body counted
    last : ℕ
    inserted : AreCounted carried n steps counted last
    number : last ≡ n + length (flat_map (λ es. es) (map (events scope) body))

  record ArmsBuilt (size : ℕ) (by_sign : Bool) (arms : List FlatArm) (step_arms : List StepArm) (n : ℕ) : Type 0 where
    counted : List StepArm
    typed : AreArms vars scope marks size by_sign arms counted
    last : ℕ
    inserted : ArmsAreCounted carried n step_arms counted last
    number : last ≡ n + length (listed (map (of.arms scope) arms))

  record RestBuilt (p : Place) (arms : List FlatArm) (rest : List Step) (n : ℕ) : Type 0 where
    counted : List Step
    typed : IsRest vars scope marks p arms (counts (carried n) ++ counted)
    last : ℕ
    inserted : AreCounted carried (n + 1) rest counted last
    number : last ≡ n + length (default_of scope p (map (of.arms scope) arms))

  abbrev Follow : ℕ → List Event → Type 0
  Follow = Follows carried marks

  -- a step without arms
  one_step : {st : FlatStmt} {a : Step} {n : ℕ} → AreSteps vars scope marks st (a ∷ []) → AreCounted carried n (a ∷ []) (a ∷ []) n → events scope st ≡ []
      → Built st (a ∷ []) n
  one_step {st} {a} {n} d c e = record {
    counted = a ∷ [];
    typed = d;
    last = n;
    inserted = c;
    number = omega (arith, ap length e);
  }

  if_steps : Typed → List Step → List Step → List Step
  if_steps a left right = s.If (test a) left right ∷ []

  mutual
    pub built : {st : FlatStmt} {steps : List Step} → AreSteps vars scope none st steps → (n : ℕ) → Follow n (events scope st) → Built st steps n
    built (typed.empty {p}) n f = record {
      counted = [];
      typed = typed.empty;
      last = n;
      inserted = no_steps;
      number = omega (arith, ap length (of.of-Empty scope p));
    }
    built (typed.block {p} {last} {body} {steps} d) n f =
        let e = of.of-Block scope p body last in
        let b = built_all d n (subst (Follow n) e f) in
        record {
          counted = b.counted;
          typed = typed.block b.typed;
          last = b.last;
          inserted = b.inserted;
          number = b.number ∙ sym (ap (λ es. n + length es) e);
        }
    built (typed.if_alone {p} {on} {first} {a} {ys} da d) n f =
        let e = of.of-If scope p on first in
        let yes = entering scope p yes_arm in
        let no = entering scope p no_arm in
        let h = subst (Follow n) e f in
        let b = built d (n + 1) (follows_left carried marks (n + 1) (events scope first) (no ∷ []) h.1) in
        let g = follows_right carried marks (n + 1) b.last (events scope first) (no ∷ []) b.number h.1 in
        record {
          counted = s.If (test a) (counts (marks yes) ++ b.counted) (counts (marks no)) ∷ [];
          typed = typed.if_alone da b.typed;
          last = b.last + 1;
          inserted = subst (λ cs. AreCounted carried n (s.If (test a) ys [] ∷ []) cs (b.last + 1))
              (ap₂ (λ x y. s.If (test a) x y ∷ []) (ap (λ cs. counts cs ++ b.counted) h.0) (append-nil (counts (carried b.last)) ∙ ap counts g.0))
              (an_if (test a) b.inserted no_steps no_steps);
          number = omega (arith, b.number, length-append (events scope first) (no ∷ []), ap length e);
        }
    built (typed.if_else {p} {on} {first} {second} {a} {ys} {ns} da d1 d2) n f =
        let e = of.of-If-else scope p on first second in
        let yes = entering scope p yes_arm in
        let no = entering scope p no_arm in
        let h = subst (Follow n) e f in
        let b = built d1 (n + 1) (follows_left carried marks (n + 1) (events scope first) (no ∷ events scope second) h.1) in
        let g = follows_right carried marks (n + 1) b.last (events scope first) (no ∷ events scope second) b.number h.1 in
        let c = built d2 (b.last + 1) g.1 in
        record {
          counted = s.If (test a) (counts (marks yes) ++ b.counted) (counts (marks no) ++ c.counted) ∷ [];
          typed = typed.if_else da b.typed c.typed;
          last = c.last;
          inserted = subst (λ cs. AreCounted carried n (s.If (test a) ys ns ∷ []) cs c.last)
              (ap₂ (λ x y. s.If (test a) x y ∷ []) (ap (λ cs. counts cs ++ b.counted) h.0) (ap (λ cs. counts cs ++ c.counted) g.0))
              (an_if (test a) b.inserted c.inserted no_steps);
          number = omega (arith, b.number, c.number, length-append (events scope first) (no ∷ events scope second), ap length e);
        }
    built (typed.case {p} {wild} {on} {arms} {a} {step_arms} {rest} da ds dr) n f =
        let e = of.of-Case scope p wild on arms in
        let h = subst (Follow n) e f in
        let named = map (of.arms scope) arms in
        let b = built_arms ds n (follows_left carried marks n (listed named) (default_of scope p named) h) in
        let c = built_rest dr b.last (follows_right carried marks n b.last (listed named) (default_of scope p named) b.number h) in
        record {
          counted = s.Case a b.counted (counts (carried b.last) ++ c.counted) ∷ [];
          typed = typed.case da b.typed c.typed;
          last = c.last;
          inserted = a_case a b.inserted c.inserted no_steps;
          number = omega (arith, b.number, c.number, length-append (listed named) (default_of scope p named), ap length e);
        }
    built (typed.set {p} {target} {value} {ts} {a} dt dv) n f = one_step (typed.set dt dv) (plain (set ts a) no_steps) (of.of-Set scope p target value)
    built (typed.later {p} {target} {value} {ts} {a} dt dv) n f =
        one_step (typed.later dt dv) (plain (later ts a) no_steps) (of.of-Later scope p target value)
    built (typed.show {p} {text} {values} {pieces} d) n f = one_step (typed.show d) (plain (show pieces) no_steps) (of.of-Show scope p text values)
    built (typed.finish {p}) n f = one_step typed.finish (plain finish no_steps) (of.of-Finish scope p)
    built (typed.stop {p}) n f = one_step typed.stop (plain stop no_steps) (of.of-Stop scope p)

    built_all : {body : List FlatStmt} {steps : List Step} → AreStepsOfAll vars scope none body steps → (n : ℕ)
        → Follow n (flat_map (λ es. es) (map (events scope) body)) → AllBuilt body steps n
    built_all typed.no_stmts n f = record { counted = []; typed = typed.no_stmts; last = n; inserted = no_steps; number = omega arith }
    built_all (typed.more_stmts {first} {rest} {xs} {ys} d ds) n f =
        let others = flat_map (λ es. es) (map (events scope) rest) in
        let b = built d n (follows_left carried marks n (events scope first) others f) in
        let c = built_all ds b.last (follows_right carried marks n b.last (events scope first) others b.number f) in
        record {
          counted = b.counted ++ c.counted;
          typed = typed.more_stmts b.typed c.typed;
          last = c.last;
          inserted = counted_append b.inserted c.inserted;
          number = omega (arith, b.number, c.number, length-append (events scope first) others);
        }

    built_arms : {size : ℕ} {by_sign : Bool} {arms : List FlatArm} {step_arms : List StepArm} → AreArms vars scope none size by_sign arms step_arms
        → (n : ℕ) → Follow n (listed (map (of.arms scope) arms)) → ArmsBuilt size by_sign arms step_arms n
    built_arms typed.no_arms n f = record { counted = []; typed = typed.no_arms; last = n; inserted = no_arms; number = omega arith }
    built_arms (typed.listed {size} {by_sign} {p} {item} {items} {body = st} {rest} {its} {steps} {step_arms} di d ds) n f =
        let e = of.of-arm scope p (item ∷ items) st in
        let others = listed (map (of.arms scope) rest) in
        let h = subst (λ (x : ArmEvents). Follow n (unless_default x.is_default x.entered ++ others)) e f in
        let b = built d (n + 1) (follows_left carried marks (n + 1) (events scope st) others h.1) in
        let c = built_arms ds b.last (follows_right carried marks (n + 1) b.last (events scope st) others b.number h.1) in
        let here = entering scope p case_arm in
        record {
          counted = step_arm its (counts (marks here) ++ b.counted) ∷ c.counted;
          typed = typed.listed di b.typed c.typed;
          last = c.last;
          inserted = subst (λ cs. ArmsAreCounted carried n (step_arm its steps ∷ step_arms) (step_arm its (counts cs ++ b.counted) ∷ c.counted) c.last) h.0
              (an_arm its b.inserted c.inserted);
          number = omega (
            arith,
            b.number,
            c.number,
            length-append (events scope st) others,
            ap (λ (x : ArmEvents). length (unless_default x.is_default x.entered ++ others)) e,
          );
        }
    built_arms (typed.default_apart {size} {by_sign} {p} {body = st} {rest} {step_arms} ds) n f =
        let e = of.of-arm scope p [] st in
        let others = listed (map (of.arms scope) rest) in
        let b = built_arms ds n (subst (λ (x : ArmEvents). Follow n (unless_default x.is_default x.entered ++ others)) e f) in
        record {
          counted = b.counted;
          typed = typed.default_apart b.typed;
          last = b.last;
          inserted = b.inserted;
          number = b.number ∙ sym (ap (λ (x : ArmEvents). n + length (unless_default x.is_default x.entered ++ others)) e);
        }

    built_rest : {p : Place} {arms : List FlatArm} {rest : List Step} → IsRest vars scope none p arms rest → (n : ℕ)
        → Follow n (default_of scope p (map (of.arms scope) arms)) → RestBuilt p arms rest n
    built_rest (typed.no_default {p}) n f = record {
      counted = [];
      typed = subst (λ cs. IsRest vars scope marks p [] cs) (ap counts (sym f.0) ∙ sym (append-nil (counts (carried n)))) typed.no_default;
      last = n + 1;
      inserted = no_steps;
      number = omega arith;
    }
    built_rest (typed.at_default {p} {q} {body = st} {rest} {steps} d) n f =
        let e = of.of-arm scope q [] st in
        let others = default_of scope p (map (of.arms scope) rest) in
        let h = subst (λ (x : ArmEvents). Follow n (default_or x.is_default x.entered others)) e f in
        let b = built d (n + 1) h.1 in
        record {
          counted = b.counted;
          typed = subst (λ cs. IsRest vars scope marks p (flat_arm q [] st ∷ rest) (counts cs ++ b.counted)) (sym h.0) (typed.at_default b.typed);
          last = b.last;
          inserted = b.inserted;
          number = omega (arith, b.number, ap (λ (x : ArmEvents). length (default_or x.is_default x.entered others)) e);
        }
    built_rest (typed.past {p} {q} {item} {items} {body = st} {rest} {steps} d) n f =
        let e = of.of-arm scope q (item ∷ items) st in
        let others = default_of scope p (map (of.arms scope) rest) in
        let b = built_rest d n (subst (λ (x : ArmEvents). Follow n (default_or x.is_default x.entered others)) e f) in
        record {
          counted = b.counted;
          typed = typed.past b.typed;
          last = b.last;
          inserted = b.inserted;
          number = b.number ∙ sym (ap (λ (x : ArmEvents). n + length (default_or x.is_default x.entered others)) e);
        }
