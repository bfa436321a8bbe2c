-- What folds over steps see is the same with counts and without, where counts add nothing.
use Rattle.std.proofs.Common.{◌≡◌, ℕ, List, [], ◌∷◌, ◌++◌, map, refl, sym, ◌∙◌, ap, ap₂}
use Rattle.std.specs.List.{AllByRecursion}
use Rattle.std.proofs.lemmas.List.{append-nil}
use Rattle.design_tree.specs.declared.typed.Typed.{Typed}
use Rattle.design_tree.specs.declared.step.Target.{Target}
use Rattle.design_tree.specs.declared.step.Piece.{Piece}
use Rattle.design_tree.specs.declared.step.StepItem.{StepItem}
use Rattle.design_tree.specs.declared.step.StepArm.{StepArm, fold-StepArm}
use Rattle.design_tree.specs.declared.step.Step.{Step, Step-F, fold-Step}
use Rattle.design_tree.specs.declared.step.Step.TheVariants as s
use Rattle.design_tree.specs.declared.step.Step.TheOpen as o
use Rattle.design_tree.specs.declared.design.Process.{Process}
use Rattle.design_meaning.specs.Steps.{step_arm}
use Rattle.design_meaning.proofs.StepFolds as steps
use Rattle.counted_circuit.specs.Inserted.{counts, IsPlain, set, later, show, finish, stop, AreCounted, no_steps, plain, an_if, a_case, ArmsAreCounted, no_arms}
use Rattle.counted_circuit.specs.Inserted.{an_arm, IsCountedProcess, assignment, cover, comb, clocked, initial}

-- Two folds over steps, for steps with counts and without. What is seen of a step is made of what is seen of the blocks in it, and what
-- is seen of a block of what is seen of its steps; a count that fits adds nothing; of all other steps both see the same.
pub record Sees {A B V W C E : Type 0} (new old : Step-F A B → A) (new_arm old_arm : o.StepArm-F A B → B)
    (view : A → V) (view_arm : B → W) (sum : List A → C) (sum_arms : List B → E) (Fits : ℕ → Type 0) : Type 0 where
  pub join : V → C → C
  pub join_arms : W → E → E
  pub of_if : Typed → C → C → V
  pub of_case : Typed → E → C → V
  pub of_arm : List StepItem → C → W
  pub more : (a : A) (xs : List A) → sum (a ∷ xs) ≡ join (view a) (sum xs)
  pub more_arms : (b : B) (xs : List B) → sum_arms (b ∷ xs) ≡ join_arms (view_arm b) (sum_arms xs)
  pub if_new : (test : Typed) (left right : List A) → view (new (o.If test left right)) ≡ of_if test (sum left) (sum right)
  pub if_old : (test : Typed) (left right : List A) → view (old (o.If test left right)) ≡ of_if test (sum left) (sum right)
  pub case_new : (on : Typed) (arms : List B) (rest : List A) → view (new (o.Case on arms rest)) ≡ of_case on (sum_arms arms) (sum rest)
  pub case_old : (on : Typed) (arms : List B) (rest : List A) → view (old (o.Case on arms rest)) ≡ of_case on (sum_arms arms) (sum rest)
  pub arm_new : (items : List StepItem) (body : List A) → view_arm (new_arm (record { items = items; body = body })) ≡ of_arm items (sum body)
  pub arm_old : (items : List StepItem) (body : List A) → view_arm (old_arm (record { items = items; body = body })) ≡ of_arm items (sum body)
  pub of_set : (targets : List Target) (value : Typed) → view (new (o.Set targets value)) ≡ view (old (o.Set targets value))
  pub of_later : (targets : List Target) (value : Typed) → view (new (o.Later targets value)) ≡ view (old (o.Later targets value))
  pub of_show : (pieces : List Piece) → view (new (o.Show pieces)) ≡ view (old (o.Show pieces))
  pub of_finish : view (new o.Finish) ≡ view (old o.Finish)
  pub of_stop : view (new o.Stop) ≡ view (old o.Stop)
  pub of_count : (c : ℕ) (z : C) → Fits c → join (view (new (o.Count c))) z ≡ z

module _ {A B V W C E : Type 0} {new old : Step-F A B → A} {new_arm old_arm : o.StepArm-F A B → B}
    {view : A → V} {view_arm : B → W} {sum : List A → C} {sum_arms : List B → E} {Fits : ℕ → Type 0}
    (m : Sees new old new_arm old_arm view view_arm sum sum_arms Fits) where
  -- what is seen of steps with counts, and of steps without
  abbrev with_counts : List Step → C
  with_counts ss = sum (map (fold-Step A B new new_arm) ss)

  abbrev without : List Step → C
  without ss = sum (map (fold-Step A B old old_arm) ss)

  abbrev arms_with_counts : List StepArm → E
  arms_with_counts arms = sum_arms (map (fold-StepArm A B new new_arm) arms)

  abbrev arms_without : List StepArm → E
  arms_without arms = sum_arms (map (fold-StepArm A B old old_arm) arms)

  counts_first : (cs : List ℕ) (ss : List Step) → AllByRecursion Fits cs → with_counts (counts cs ++ ss) ≡ with_counts ss
  counts_first [] ss fit = refl
  counts_first (c ∷ cs) ss fit =
      m.more (fold-Step A B new new_arm (s.Count c)) (map (fold-Step A B new new_arm) (counts cs ++ ss))
      ∙ (ap (λ (a : A). m.join (view a) (with_counts (counts cs ++ ss))) (steps.fold-Count A B new new_arm c)
      ∙ (m.of_count c (with_counts (counts cs ++ ss)) fit.0 ∙ counts_first cs ss fit.1))

  of_plain : {a : Step} → IsPlain a → view (fold-Step A B new new_arm a) ≡ view (fold-Step A B old old_arm a)
  of_plain (set targets value) =
      ap view (steps.fold-Set A B new new_arm targets value) ∙ (m.of_set targets value ∙ sym (ap view (steps.fold-Set A B old old_arm targets value)))
  of_plain (later targets value) =
      ap view (steps.fold-Later A B new new_arm targets value) ∙ (m.of_later targets value ∙ sym (ap view (steps.fold-Later A B old old_arm targets value)))
  of_plain (show pieces) = ap view (steps.fold-Show A B new new_arm pieces) ∙ (m.of_show pieces ∙ sym (ap view (steps.fold-Show A B old old_arm pieces)))
  of_plain finish = ap view (steps.fold-Finish A B new new_arm) ∙ (m.of_finish ∙ sym (ap view (steps.fold-Finish A B old old_arm)))
  of_plain stop = ap view (steps.fold-Stop A B new new_arm) ∙ (m.of_stop ∙ sym (ap view (steps.fold-Stop A B old old_arm)))

  -- one step more
  one_more : (a b : Step) (ss ts : List Step) → view (fold-Step A B new new_arm a) ≡ view (fold-Step A B old old_arm b) → with_counts ts ≡ without ss
      → with_counts (a ∷ ts) ≡ without (b ∷ ss)
  one_more a b ss ts same rest =
      m.more (fold-Step A B new new_arm a) (map (fold-Step A B new new_arm) ts)
      ∙ (ap₂ m.join same rest ∙ sym (m.more (fold-Step A B old old_arm b) (map (fold-Step A B old old_arm) ss)))

  of_an_if : (test : Typed) (left' right' left right : List Step) → with_counts left' ≡ without left → with_counts right' ≡ without right
      → view (fold-Step A B new new_arm (s.If test left' right')) ≡ view (fold-Step A B old old_arm (s.If test left right))
  of_an_if test left' right' left right l r =
      ap view (steps.fold-If A B new new_arm test left' right')
      ∙ (m.if_new test (map (fold-Step A B new new_arm) left') (map (fold-Step A B new new_arm) right')
      ∙ (ap₂ (m.of_if test) l r
      ∙ (sym (m.if_old test (map (fold-Step A B old old_arm) left) (map (fold-Step A B old old_arm) right))
      ∙ sym (ap view (steps.fold-If A B old old_arm test left right)))))

  of_a_case : (on : Typed) (arms' arms : List StepArm) (rest' rest : List Step) → arms_with_counts arms' ≡ arms_without arms
      → with_counts rest' ≡ without rest
      → view (fold-Step A B new new_arm (s.Case on arms' rest')) ≡ view (fold-Step A B old old_arm (s.Case on arms rest))
  of_a_case on arms' arms rest' rest a r =
      ap view (steps.fold-Case A B new new_arm on arms' rest')
      ∙ (m.case_new on (map (fold-StepArm A B new new_arm) arms') (map (fold-Step A B new new_arm) rest')
      ∙ (ap₂ (m.of_case on) a r
      ∙ (sym (m.case_old on (map (fold-StepArm A B old old_arm) arms) (map (fold-Step A B old old_arm) rest))
      ∙ sym (ap view (steps.fold-Case A B old old_arm on arms rest)))))

  module _ (carried : ℕ → List ℕ) (fit : (arm : ℕ) → AllByRecursion Fits (carried arm)) where
    block : (n : ℕ) (ss ts : List Step) → with_counts ts ≡ without ss → with_counts (counts (carried n) ++ ts) ≡ without ss
    block n ss ts is = counts_first (carried n) ts (fit n) ∙ is

    mutual
      steps_seen : {n k : ℕ} {ss ts : List Step} → AreCounted carried n ss ts k → with_counts ts ≡ without ss
      steps_seen no_steps = refl
      steps_seen (plain {n} {m = j} {a} {ss} {ts} p c) = one_more a a ss ts (of_plain p) (steps_seen c)
      steps_seen (an_if {n} {m = i} {k} {j} {left} {left'} {right} {right'} {ss} {ts} test l r c) =
          one_more (s.If test (counts (carried n) ++ left') (counts (carried i) ++ right')) (s.If test left right) ss ts
          (of_an_if test (counts (carried n) ++ left') (counts (carried i) ++ right') left right
          (block n left left' (steps_seen l)) (block i right right' (steps_seen r)))
          (steps_seen c)
      steps_seen (a_case {n} {m = i} {k} {j} {arms} {arms'} {rest} {rest'} {ss} {ts} on a r c) =
          one_more (s.Case on arms' (counts (carried i) ++ rest')) (s.Case on arms rest) ss ts
          (of_a_case on arms' arms (counts (carried i) ++ rest') rest (arms_seen a) (block i rest rest' (steps_seen r)))
          (steps_seen c)

      arms_seen : {n k : ℕ} {arms arms' : List StepArm} → ArmsAreCounted carried n arms arms' k → arms_with_counts arms' ≡ arms_without arms
      arms_seen no_arms = refl
      arms_seen (an_arm {n} {m = i} {k} {body} {body'} {arms} {arms'} items c cs) =
          m.more_arms (fold-StepArm A B new new_arm (step_arm items (counts (carried n) ++ body'))) (map (fold-StepArm A B new new_arm) arms')
          ∙ (ap₂ m.join_arms
          (ap view_arm (steps.fold-arm A B new new_arm items (counts (carried n) ++ body'))
          ∙ (m.arm_new items (map (fold-Step A B new new_arm) (counts (carried n) ++ body'))
          ∙ (ap (m.of_arm items) (block n body body' (steps_seen c))
          ∙ (sym (m.arm_old items (map (fold-Step A B old old_arm) body))
          ∙ sym (ap view_arm (steps.fold-arm A B old old_arm items body))))))
          (arms_seen cs)
          ∙ sym (m.more_arms (fold-StepArm A B old old_arm (step_arm items body)) (map (fold-StepArm A B old old_arm) arms)))

    -- the same is seen of a process
    pub process_seen : {n k : ℕ} {p q : Process} → IsCountedProcess carried n p q k → with_counts q.body ≡ without p.body
    process_seen (assignment {n} {a} p) = one_more a a [] [] (of_plain p) refl
    process_seen (cover {n} test) =
        one_more (s.If test (counts (carried n)) []) (s.If test [] []) [] []
        (of_an_if test (counts (carried n)) [] [] []
        (ap with_counts (sym (append-nil (counts (carried n)))) ∙ counts_first (carried n) [] (fit n)) refl)
        refl
    process_seen (comb {n} {m = i} {body} {body'} c) = block n body body' (steps_seen c)
    process_seen (clocked {n} {m = i} {body} {body'} c) = block n body body' (steps_seen c)
    process_seen (initial {n} {m = i} {body} {body'} c) = block n body body' (steps_seen c)
