-- The passes of a loop, turn by turn.
use Rattle.std.proofs.Common.{◌≡◌, ◌∙◌, sym, ap, ap₂, refl, subst, inl, inr, ℕ, ◌+◌, suc, Bool, true, false, ◌||◌, ◌&&◌, not, List, [], ◌∷◌, ◌++◌, map, append-nil, append_assoc}
use Rattle.std.proofs.Common.{Result, Ok, Err, IfOk}
use Rattle.std.specs.List.{list_any}
use Rattle.cov_types.specs.declared.no_memory.NoMemory.{NoMemory}
use Rattle.source_meaning.specs.Environment.{Environment, in_pass}
use Rattle.source_meaning.specs.Loops.{most_passes}
use Rattle.flat_source_meaning.specs.FixedParts.{is_constant}
use Rattle.flat_source_meaning.specs.ProcessLoops.{ProcessLoop, passes, value_at_first, value_after, lacks, lacks_constant}
use Rattle.flat_passes.specs.declared.turn.Turn.{Turn}
use Rattle.flat_passes.specs.declared.turn.Turn.TheVariants as comes
use Rattle.flat_passes.specs.declared.values.Passes.{Passes}
use Rattle.flat_passes.specs.declared.values.Passes.TheVariants as are
use Rattle.flat_passes.specs.Turns.{IsPasses, IsFrom, IsNext, IsTurn, test_at, values_from, more_than, lacks_from}
use Rattle.flat_passes.proofs.Sequences.{values_pass, values_over, past_pass, past_over}

module _ (env : Environment) (l : ProcessLoop) where
  -- ---- what lacks a constant

  abbrev bad_test : ℕ → Bool
  bad_test = lacks env l l.test

  abbrev bad_step : ℕ → Bool
  bad_step = lacks env l l.step

  or_true : (a b : Bool) → b ≡ true → (a || b) ≡ true
  or_true true b e = refl
  or_true false b e = e

  true_or : (a b : Bool) → a ≡ true → (a || b) ≡ true
  true_or a b e = ap (λ (x : Bool). x || b) e

  -- of a value and those that follow it
  abbrev any_from : ℕ → List ℕ → Bool
  any_from n ns = list_any bad_test (n ∷ map (value_after env l) ns) || list_any bad_step ns

  from_pass : (n : ℕ) (ns : List ℕ) → bad_test n ≡ false → bad_step n ≡ false → any_from n (n ∷ ns) ≡ any_from (value_after env l n) ns
  from_pass n ns no_test no_step =
      ap₂ (λ (a b : Bool). (a || list_any bad_test (map (value_after env l) (n ∷ ns))) || (b || list_any bad_step ns)) no_test no_step

  pub lacks_pass : (most n : ℕ) → bad_test n ≡ false → test_at env l n ≡ true → bad_step n ≡ false
      → lacks_from env l (suc most) n ≡ lacks_from env l most (value_after env l n)
  lacks_pass most n no_test holds no_step =
      ap (any_from n) (values_pass (test_at env l) (value_after env l) most n holds)
      ∙ from_pass n (values_from env l most (value_after env l n)) no_test no_step

  pub lacks_over : (most n : ℕ) → bad_test n ≡ false → test_at env l n ≡ false → lacks_from env l most n ≡ false
  lacks_over most n no_test fails =
      ap (any_from n) (values_over (test_at env l) (value_after env l) most n fails) ∙ ap (λ (a : Bool). (a || false) || false) no_test

  pub lacks_test : (most n : ℕ) → bad_test n ≡ true → lacks_from env l most n ≡ true
  lacks_test most n bad =
      ap (λ (a : Bool). (a || list_any bad_test (map (value_after env l) (values_from env l most n))) || list_any bad_step (values_from env l most n)) bad

  pub lacks_step : (most n : ℕ) → test_at env l n ≡ true → bad_step n ≡ true → lacks_from env l (suc most) n ≡ true
  lacks_step most n holds bad =
      ap (any_from n) (values_pass (test_at env l) (value_after env l) most n holds)
      ∙ or_true (list_any bad_test (n ∷ map (value_after env l) (n ∷ values_from env l most (value_after env l n))))
      (list_any bad_step (n ∷ values_from env l most (value_after env l n)))
      (true_or (bad_step n) (list_any bad_step (values_from env l most (value_after env l n))) bad)

  -- ---- turn by turn

  pub is_turn : (n : ℕ) (r : Result Turn NoMemory) → is_constant (in_pass env l.name n) l.test ≡ true → test_at env l n ≡ true → IfOk r (IsNext env l n)
      → IfOk r (IsTurn env l n)
  is_turn n (Ok (comes.Next m)) there holds h = (ap not there, holds, h.0, h.1)
  is_turn n (Ok comes.Over) there holds h = absurd h
  is_turn n (Ok comes.Lacks) there holds h = inr (holds, h)
  is_turn n (Err e) there holds h = tt

  -- one pass more is made
  pub one_more : (most n m : ℕ) (before more : List ℕ) (p : Passes) → IsTurn env l n (comes.Next m) → more ≡ before ++ n ∷ []
      → IsFrom env l most m more p → IsFrom env l (suc most) n before p
  unfolding IsFrom
  one_more most n m before more p t pushed h = by p h
    where
      next : (P : ℕ → Type 0) → P m → P (value_after env l n)
      next P x = subst P t.3 x

      values : values_from env l (suc most) n ≡ n ∷ values_from env l most (value_after env l n)
      values = values_pass (test_at env l) (value_after env l) most n t.1

      lack : (b : Bool) → lacks_from env l most m ≡ b → lacks_from env l (suc most) n ≡ b
      lack b e = lacks_pass most n t.0 t.1 t.2 ∙ next (λ (k : ℕ). lacks_from env l most k ≡ b) e

      past : (b : Bool) → more_than env l most m ≡ b → more_than env l (suc most) n ≡ b
      past b e = past_pass (test_at env l) (value_after env l) most n t.1 ∙ next (λ (k : ℕ). more_than env l most k ≡ b) e

      by : (p : Passes) → IsFrom env l most m more p → IsFrom env l (suc most) n before p
      by (are.Made ns) h = (
        lack false h.0,
        past false h.1,
        next (λ (k : ℕ). ns ≡ more ++ values_from env l most k) h.2
            ∙ ap (λ (xs : List ℕ). xs ++ values_from env l most (value_after env l n)) pushed
            ∙ append_assoc before (n ∷ []) (values_from env l most (value_after env l n))
            ∙ ap (λ (xs : List ℕ). before ++ xs) (sym values),
      )
      by are.TooMany h = (lack false h.0, past true h.1)
      by are.NotConstant h = lack true h

  -- the loop is over
  pub over_here : (most n : ℕ) (before : List ℕ) → IsTurn env l n comes.Over → IsFrom env l most n before (are.Made before)
  unfolding IsFrom
  over_here most n before t = (
    lacks_over most n t.0 t.1,
    past_over (test_at env l) (value_after env l) most n t.1,
    sym (append-nil before) ∙ ap (λ (xs : List ℕ). before ++ xs) (sym (values_over (test_at env l) (value_after env l) most n t.1)),
  )

  -- something is no constant
  pub lacks_here : (most n : ℕ) (before : List ℕ) → IsTurn env l n comes.Lacks → IsFrom env l (suc most) n before are.NotConstant
  unfolding IsFrom
  lacks_here most n before t = elim t [ inl bad ↦ lacks_test (suc most) n bad | inr s ↦ lacks_step most n s.0 s.1 ]

  -- ---- behind the last pass that may be made

  pub past_here : (n : ℕ) (before : List ℕ) → is_constant (in_pass env l.name n) l.test ≡ true → test_at env l n ≡ true → IsFrom env l 0 n before are.TooMany
  unfolding IsFrom
  past_here n before there holds = (ap (λ (a : Bool). (a || false) || false) (ap not there), holds)

  pub ends_here : (n : ℕ) (before : List ℕ) → is_constant (in_pass env l.name n) l.test ≡ true → test_at env l n ≡ false
      → IsFrom env l 0 n before (are.Made before)
  ends_here n before there fails = over_here 0 n before (ap not there, fails)

  pub lacks_last : (n : ℕ) (before : List ℕ) → is_constant (in_pass env l.name n) l.test ≡ false → IsFrom env l 0 n before are.NotConstant
  unfolding IsFrom
  lacks_last n before missing = lacks_test 0 n (ap not missing)

  -- ---- the whole head

  pub no_first : is_constant env l.from ≡ false → IsPasses env l are.NotConstant
  unfolding IsPasses
  no_first missing =
      ap (λ (c : Bool). (not c || list_any bad_test (value_at_first env l ∷ map (value_after env l) (passes env l))) || list_any bad_step (value_at_first env l ∷ passes env l)) missing

  pub no_step : (n : ℕ) → n ≡ value_at_first env l → is_constant (in_pass env l.name n) l.step ≡ false → IsPasses env l are.NotConstant
  unfolding IsPasses
  no_step n is missing =
      or_true (not (is_constant env l.from) || list_any bad_test (value_at_first env l ∷ map (value_after env l) (passes env l)))
      (list_any bad_step (value_at_first env l ∷ passes env l))
      (true_or (bad_step (value_at_first env l)) (list_any bad_step (passes env l))
      (subst (λ (k : ℕ). not (is_constant (in_pass env l.name k) l.step) ≡ true) is (ap not missing)))

  -- what is lacking in the whole head, its first value and the step there being constants
  whole_lacks : (n : ℕ) (ns : List ℕ) → is_constant env l.from ≡ true → bad_step n ≡ false
      → ((not (is_constant env l.from) || list_any bad_test (n ∷ map (value_after env l) ns)) || list_any bad_step (n ∷ ns)) ≡ any_from n ns
  whole_lacks n ns there no_bad =
      ap₂ (λ (c b : Bool). (not c || list_any bad_test (n ∷ map (value_after env l) ns)) || (b || list_any bad_step ns)) there no_bad

  pub whole_head : (n : ℕ) → is_constant env l.from ≡ true → n ≡ value_at_first env l → is_constant (in_pass env l.name n) l.step ≡ true → (p : Passes)
      → IsFrom env l most_passes n [] p → IsPasses env l p
  unfolding IsFrom IsPasses
  whole_head n there is step_there p h = by p (subst (λ (k : ℕ). IsFrom env l most_passes k [] p) is h)
    where
      lack : (b : Bool) → lacks_from env l most_passes (value_at_first env l) ≡ b → lacks_constant env l ≡ b
      lack b e =
          whole_lacks (value_at_first env l) (passes env l) there
          (subst (λ (k : ℕ). not (is_constant (in_pass env l.name k) l.step) ≡ false) is (ap not step_there)) ∙ e

      by : (p : Passes) → IsFrom env l most_passes (value_at_first env l) [] p → IsPasses env l p
      by (are.Made ns) h =
          (lack false h.0, ap₂ (λ (b c : Bool). not b && c) (lack false h.0) h.1, h.2)
      by are.TooMany h = ap₂ (λ (b c : Bool). not b && c) (lack false h.0) h.1
      by are.NotConstant h = lack true h
