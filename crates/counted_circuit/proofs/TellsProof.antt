-- Steps with counts raise what the entered arms carry: the proof, by the rules by which counts are put in.
use Rattle.std.specs.Prelude.{◌≡◌, refl, ℕ, ◌+◌, ◌==◌, Bool, true, false, if◌then◌else◌, List, [], ◌∷◌, ◌++◌, map}
use Rattle.std.specs.List.{list_any}
use Rattle.std.proofs.Common.{sym, ◌∙◌, ap, arith}
use Rattle.std.proofs.lemmas.Grind.{flat_map-append}
use Rattle.design_tree.specs.declared.step.StepArm.{StepArm}
use Rattle.design_tree.specs.declared.step.Step.{Step}
use Rattle.design_tree.specs.declared.step.Step.TheVariants as s
use Rattle.circuit_run.specs.States.{State}
use Rattle.design_meaning.specs.Values.{value_in}
use Rattle.circuit_run.specs.Outcomes.{Outcome, unchanged, joined, Act, in_turn}
use Rattle.design_meaning.specs.Steps.{ArmAct, is_match, chosen, does, all_do}
use Rattle.design_meaning.specs.Steps.{arm_acts}
use Rattle.counted_circuit.specs.Inserted.{counts, IsPlain, set, later, show, finish, stop, AreCounted, no_steps, plain, an_if, a_case, ArmsAreCounted, no_arms}
use Rattle.counted_circuit.specs.Inserted.{an_arm}
use Rattle.counted_circuit.specs.Tells.{tells, arm_telling, arms_of, arms_of_arms, tell_arm, tell_choice, all_tell}
use Rattle.counted_circuit.specs.TellsLaw.{carrying, CountsWhatIsTold}
use Rattle.counted_circuit.proofs.TellsNumbers.{tells-If, tells-Case, tells-arm, does-If, does-Case, does-arm, does-Count, tells_plain, number_after}
use Rattle.counted_circuit.proofs.TellsNumbers.{number_after_arms}
use Rattle.design_meaning.proofs.StepFolds.{fold-Set, fold-Later, fold-Show, fold-Finish, fold-Stop}
use Rattle.design_meaning.specs.Steps.{step_does, arm_does}

add_zero : (n : ℕ) → n + 0 ≡ n
add_zero n = omega arith

number_if : (n m k a left right : ℕ) → a ≡ 2 + left + right → m ≡ n + 1 + left → k ≡ m + 1 + right → n + a ≡ k
number_if n m k a left right e f g = omega arith

number_case : (n m k a arms right : ℕ) → a ≡ 1 + arms + right → m ≡ n + arms → k ≡ m + 1 + right → n + a ≡ k
number_case n m k a arms right e f g = omega arith

-- an outcome that raises some counters first
abbrev raising_first : List ℕ → Outcome ℕ → Outcome ℕ
raising_first counters out = record out { notes = counters ++ out.notes }

module _ (carried : ℕ → List ℕ) where
  abbrev c : Outcome ℕ → Outcome ℕ
  c = carrying carried

  -- joining what is carried
  carrying_joined : (a b : Outcome ℕ) → joined (c a) (c b) ≡ c (joined a b)
  carrying_joined a b = ap (λ raised. record (joined (c a) (c b)) { notes = raised }) (sym (flat_map-append carried a.notes b.notes))

  -- counts raise their counters and do nothing else
  pub raising : (counters : List ℕ) (steps : List Step) (from : State)
      → all_do (counts counters ++ steps) from ≡ raising_first counters (all_do steps from)
  raising [] steps from = refl
  raising (k ∷ ks) steps from =
      ap (λ act. joined (act from) (in_turn (map does (counts ks ++ steps)) (act from).state)) (does-Count k)
      ∙ ap (λ out. joined (record (unchanged from) { notes = k ∷ [] }) out) (raising ks steps from)

  -- the block of an arm
  pub an_arm_counts : (n : ℕ) (steps counted : List Step) (from : State)
      → all_do counted from ≡ c (all_tell steps (n + 1) from)
      → all_do (counts (carried n) ++ counted) from ≡ c (tell_arm (map tells steps) n from)
  an_arm_counts n steps counted from same =
      raising (carried n) counted from
      ∙ ap (raising_first (carried n)) same

  -- a step without arms raises nothing
  raises_nothing : {a : Step} → IsPlain a → (from : State) → c (does a from) ≡ does a from
  raises_nothing (set targets value) from =
      let e = ap (λ act. act from) (fold-Set (Act ℕ) ArmAct step_does arm_does targets value) in ap c e ∙ sym e
  raises_nothing (later targets value) from =
      let e = ap (λ act. act from) (fold-Later (Act ℕ) ArmAct step_does arm_does targets value) in ap c e ∙ sym e
  raises_nothing (show pieces) from =
      let e = ap (λ act. act from) (fold-Show (Act ℕ) ArmAct step_does arm_does pieces) in ap c e ∙ sym e
  raises_nothing finish from =
      let e = ap (λ act. act from) (fold-Finish (Act ℕ) ArmAct step_does arm_does) in ap c e ∙ sym e
  raises_nothing stop from =
      let e = ap (λ act. act from) (fold-Stop (Act ℕ) ArmAct step_does arm_does) in ap c e ∙ sym e

  -- one step and then others
  in_order : (a b : Step) (ss ts : List Step) (n m : ℕ) (from : State)
      → does b from ≡ c ((tells a).act n from)
      → n + (tells a).arms ≡ m
      → ((at : State) → all_do ts at ≡ c (all_tell ss m at))
      → all_do (b ∷ ts) from ≡ c (all_tell (a ∷ ss) n from)
  in_order a b ss ts n m from one number rest =
      ap (λ out. joined out (all_do ts out.state)) one
      ∙ ap (joined (c ((tells a).act n from))) (rest ((tells a).act n from).state)
      ∙ carrying_joined ((tells a).act n from) (all_tell ss m ((tells a).act n from).state)
      ∙ ap (λ k. c (joined ((tells a).act n from) (all_tell ss k ((tells a).act n from).state))) (sym number)

  -- a test
  by_test : (b : Bool) (left right : List Step) (from : State) (x y : Outcome ℕ)
      → all_do left from ≡ c x → all_do right from ≡ c y
      → in_turn (if b then map does right else map does left) from ≡ c (if b then y else x)
  by_test true left right from x y e f = f
  by_test false left right from x y e f = e

  by_match : (b : Bool) (body : List Step) (rest : List (Act ℕ)) (from : State) (x y : Outcome ℕ)
      → all_do body from ≡ c x → in_turn rest from ≡ c y
      → in_turn (if b then map does body else rest) from ≡ c (if b then x else y)
  by_match true body rest from x y e f = e
  by_match false body rest from x y e f = f

  -- ---- steps and arms

  mutual
    pub counted_do : {n m : ℕ} {steps counted : List Step} → AreCounted carried n steps counted m → (from : State)
        → all_do counted from ≡ c (all_tell steps n from)
    counted_do no_steps from = refl
    counted_do (plain {n} {m} {a} {ss} {ts} p rest) from =
        in_order a a ss ts n n from
        (sym (raises_nothing p from) ∙ ap (λ x. c (x.act n from)) (sym (tells_plain p)))
        (ap (λ x. n + x.arms) (tells_plain p) ∙ add_zero n)
        (counted_do rest)
    counted_do (an_if {n} {m} {k} {j} {left} {left'} {right} {right'} {ss} {ts} test l r rest) from =
        in_order (s.If test left right) (s.If test (counts (carried n) ++ left') (counts (carried m) ++ right')) ss ts n k from
        (ap (λ act. act from) (does-If test (counts (carried n) ++ left') (counts (carried m) ++ right'))
        ∙ by_test ((value_in from test).number == 0) (counts (carried n) ++ left') (counts (carried m) ++ right') from
        (tell_arm (map tells left) n from) (tell_arm (map tells right) (n + 1 + arms_of (map tells left)) from)
        (an_arm_counts n left left' from (counted_do l from))
        (an_arm_counts m right right' from (counted_do r from) ∙ ap (λ x. c (tell_arm (map tells right) x from)) (number_after l))
        ∙ ap (λ x. c (x.act n from)) (sym (tells-If test left right)))
        (number_if n m k (tells (s.If test left right)).arms (arms_of (map tells left)) (arms_of (map tells right))
        (ap (λ x. x.arms) (tells-If test left right)) (number_after l) (number_after r))
        (counted_do rest)
    counted_do (a_case {n} {m} {k} {j} {arms} {arms'} {rest = block} {rest' = block'} {ss} {ts} on l r more) from =
        in_order (s.Case on arms block) (s.Case on arms' (counts (carried m) ++ block')) ss ts n k from
        (ap (λ act. act from) (does-Case on arms' (counts (carried m) ++ block'))
        ∙ arms_counted_do l block (counts (carried m) ++ block') (value_in from on).number from (an_arm_counts m block block' from (counted_do r from))
        ∙ ap (λ x. c (x.act n from)) (sym (tells-Case on arms block)))
        (number_case n m k (tells (s.Case on arms block)).arms (arms_of_arms (map arm_telling arms)) (arms_of (map tells block))
        (ap (λ x. x.arms) (tells-Case on arms block)) (number_after_arms l) (number_after r))
        (counted_do more)

    pub arms_counted_do : {n m : ℕ} {arms counted : List StepArm} → ArmsAreCounted carried n arms counted m
        → (block block' : List Step) (v : ℕ) (from : State)
        → all_do block' from ≡ c (tell_arm (map tells block) m from)
        → in_turn (chosen from v (map arm_acts counted) (map does block')) from
        ≡ c (tell_choice from v (map arm_telling arms) (map tells block) n)
    arms_counted_do no_arms block block' v from same = same
    arms_counted_do (an_arm {n} {m} {k} {body} {body'} {arms} {arms'} items b rest) block block' v from same =
        ap (λ x. in_turn (if list_any (is_match from v) x.items then x.body else chosen from v (map arm_acts arms') (map does block')) from)
        (does-arm items (counts (carried n) ++ body'))
        ∙ by_match (list_any (is_match from v) items) (counts (carried n) ++ body') (chosen from v (map arm_acts arms') (map does block')) from
        (tell_arm (map tells body) n from) (tell_choice from v (map arm_telling arms) (map tells block) (n + 1 + arms_of (map tells body)))
        (an_arm_counts n body body' from (counted_do b from))
        (arms_counted_do rest block block' v from same
        ∙ ap (λ x. c (tell_choice from v (map arm_telling arms) (map tells block) x)) (number_after b))
        ∙ ap (λ x. c (if list_any (is_match from v) x.items then tell_arm x.body n from
        else tell_choice from v (map arm_telling arms) (map tells block) (n + 1 + arms_of x.body)))
        (sym (tells-arm items body))

-- the law holds
pub counts_what_is_told : CountsWhatIsTold
counts_what_is_told carried n m steps counted from is = counted_do carried is from
