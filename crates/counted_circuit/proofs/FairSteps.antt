-- Steps one after the other, an arm, and an `if` are fair where their parts are.
use Rattle.std.specs.Prelude.{◌≡◌, refl, ℕ, ◌+◌, ◌≤◌, ◌<◌, List, [], ◌∷◌, ◌++◌}
use Rattle.std.specs.List.{AllByRecursion}
use Rattle.std.proofs.Common.{sym, ◌∙◌, ap, ap₂, arith}
use Rattle.circuit_run.specs.States.{State}
use Rattle.circuit_run.specs.Lists.{how_many}
use Rattle.counted_circuit.proofs.HowMany.{how_many_joined, of_same, of_other, skip_middle}
use Rattle.counted_circuit.specs.Tells.{Fork, Telling, arms_of, tell_in_turn, tell_arm, forks_in_turn, forks_of_arm}
use Rattle.counted_circuit.proofs.Fair.{Out, IsInside, IsWithin, directly, deeper, IsEven, IsFair, IsFairArm, all_map, all_joined, all_map_two, even_more}

-- steps in turn as one
abbrev pub turn : List Telling → Telling
turn xs = record { arms = arms_of xs; act = tell_in_turn xs; forks = forks_in_turn xs }

zero_sum : (a b : ℕ) → a ≡ 0 → b ≡ 0 → a + b ≡ 0
zero_sum a b e f = omega arith

-- ---- widening

pub wider : (n m n' m' : ℕ) → n' ≤ n → m ≤ m' → (f : Fork) → IsInside n m f → IsInside n' m' f
wider n m n' m' low high f i = record {
  around_from = let h = i.around_from in omega arith;
  around_to = let h = i.around_to in omega arith;
  yes_from = let h = i.yes_from in omega arith;
  yes_to = let h = i.yes_to in omega arith;
  no_from = let h = i.no_from in omega arith;
  no_to = let h = i.no_to in omega arith;
}

wider_within : (around n m n' m' : ℕ) → n' ≤ n → m ≤ m' → (f : Fork) → IsWithin around n m f → IsWithin around n' m' f
wider_within around n m n' m' low high f (directly e a b c d) = directly e (omega arith) (omega arith) (omega arith) (omega arith)
wider_within around n m n' m' low high f (deeper i) = deeper (wider n m n' m' low high f i)

-- ---- numbers that others don't have

-- the numbers of an `if` that lies in one range aren't in another
abbrev AreOut : ℕ → ℕ → Fork → Type 0
AreOut n m f = Out n m f.around × Out n m f.yes_arm × Out n m f.no_arm

pub out_before : (n m k : ℕ) → k < n → Out n m k
out_before n m k h a b = omega arith

pub out_after : (n m k : ℕ) → m ≤ k → Out n m k
out_after n m k h a b = omega arith

-- of an `if` before, in or around a range that ends where the other begins
out_of_later : (around n m m' : ℕ) → around < n → n ≤ m → (f : Fork) → IsWithin around n m f → AreOut m m' f
out_of_later around n m m' low mid f (directly e a b c d) =
    (out_before m m' f.around (omega arith), out_before m m' f.yes_arm (omega arith), out_before m m' f.no_arm (omega arith))
out_of_later around n m m' low mid f (deeper i) =
    let h1 = i.around_to in let h2 = i.yes_to in let h3 = i.no_to in
    (out_before m m' f.around (omega arith), out_before m m' f.yes_arm (omega arith), out_before m m' f.no_arm (omega arith))

out_of_earlier : (around n m m' : ℕ) → around < n → (f : Fork) → IsWithin around m m' f → AreOut n m f
out_of_earlier around n m m' low f (directly e a b c d) =
    (out_before n m f.around (omega arith), out_after n m f.yes_arm a, out_after n m f.no_arm c)
out_of_earlier around n m m' low f (deeper i) =
    (out_after n m f.around i.around_from, out_after n m f.yes_arm i.yes_from, out_after n m f.no_arm i.no_from)

-- ---- in turn

module _ (x : Telling) (xs : List Telling) (fx : IsFair x) (fxs : IsFair (turn xs)) where
  first : ℕ → State → List ℕ
  first n from = (x.act n from).notes

  more_range : (n : ℕ) (from : State) (k : ℕ) → Out n (n + (x.arms + arms_of xs)) k → how_many k (tell_in_turn (x ∷ xs) n from).notes ≡ 0
  more_range n from k out =
      how_many_joined k (x.act n from).notes (tell_in_turn xs (n + x.arms) (x.act n from).state).notes
      ∙ zero_sum (how_many k (x.act n from).notes) (how_many k (tell_in_turn xs (n + x.arms) (x.act n from).state).notes)
      (fx.range n from k (λ a b. out a (omega arith)))
      (fxs.range (n + x.arms) (x.act n from).state k (λ a b. out (omega arith) (omega arith)))

  more_within : (around n : ℕ) → AllByRecursion (IsWithin around n (n + (x.arms + arms_of xs))) (forks_in_turn (x ∷ xs) around n)
  more_within around n = all_joined (IsWithin around n (n + (x.arms + arms_of xs))) (x.forks around n) (forks_in_turn xs around (n + x.arms))
      (all_map (IsWithin around n (n + x.arms)) (IsWithin around n (n + (x.arms + arms_of xs)))
      (wider_within around n (n + x.arms) n (n + (x.arms + arms_of xs)) (omega arith) (omega arith)) (x.forks around n) (fx.within around n))
      (all_map (IsWithin around (n + x.arms) (n + x.arms + arms_of xs)) (IsWithin around n (n + (x.arms + arms_of xs)))
      (wider_within around (n + x.arms) (n + x.arms + arms_of xs) n (n + (x.arms + arms_of xs)) (omega arith) (omega arith))
      (forks_in_turn xs around (n + x.arms)) (fxs.within around (n + x.arms)))

  abbrev rest : ℕ → State → List ℕ
  rest n from = (tell_in_turn xs (n + x.arms) (x.act n from).state).notes

  more_even : (around n : ℕ) (from : State) → around < n
      → AllByRecursion (IsEven (around ∷ (tell_in_turn (x ∷ xs) n from).notes)) (forks_in_turn (x ∷ xs) around n)
  more_even around n from low = all_joined (IsEven (around ∷ (x.act n from).notes ++ rest n from)) (x.forks around n) (forks_in_turn xs around (n + x.arms))
      (all_map_two (IsWithin around n (n + x.arms)) (IsEven (around ∷ (x.act n from).notes)) (IsEven (around ∷ (x.act n from).notes ++ rest n from))
      (λ f w e. let out = out_of_later around n (n + x.arms) (n + x.arms + arms_of xs) low (omega arith) f w in
      even_more (around ∷ (x.act n from).notes) (rest n from) f e
      (fxs.range (n + x.arms) (x.act n from).state f.around out.0)
      (fxs.range (n + x.arms) (x.act n from).state f.yes_arm out.1)
      (fxs.range (n + x.arms) (x.act n from).state f.no_arm out.2))
      (x.forks around n) (fx.within around n) (fx.even around n from low))
      (all_map_two (IsWithin around (n + x.arms) (n + x.arms + arms_of xs)) (IsEven (around ∷ rest n from)) (IsEven (around ∷ (x.act n from).notes
      ++ rest n from))
      (λ f w e. let out = out_of_earlier around n (n + x.arms) (n + x.arms + arms_of xs) low f w in
      skip_middle f.around around (x.act n from).notes (rest n from) (fx.range n from f.around out.0)
      ∙ e
      ∙ sym (ap₂ (λ a b. a + b)
      (skip_middle f.yes_arm around (x.act n from).notes (rest n from) (fx.range n from f.yes_arm out.1))
      (skip_middle f.no_arm around (x.act n from).notes (rest n from) (fx.range n from f.no_arm out.2))))
      (forks_in_turn xs around (n + x.arms)) (fxs.within around (n + x.arms)) (fxs.even around (n + x.arms) (x.act n from).state (omega arith)))

pub fair_more : (x : Telling) (xs : List Telling) → IsFair x → IsFair (turn xs) → IsFair (turn (x ∷ xs))
fair_more x xs fx fxs = record { range = more_range x xs fx fxs; within = more_within x xs fx fxs; even = more_even x xs fx fxs }

pub fair_none : IsFair (turn [])
fair_none = record { range = λ n from k out. refl; within = λ around n. tt; even = λ around n from low. tt }

-- ---- an arm

module _ (xs : List Telling) (fair : IsFair (turn xs)) where
  arm_range : (n : ℕ) (from : State) (k : ℕ) → Out n (n + 1 + arms_of xs) k → how_many k (tell_arm xs n from).notes ≡ 0
  arm_range n from k out =
      of_other k n (tell_in_turn xs (n + 1) from).notes (λ e. out (omega arith) (omega arith))
      ∙ fair.range (n + 1) from k (λ a b. out (omega arith) (omega arith))

  arm_entered : (n : ℕ) (from : State) → how_many n (tell_arm xs n from).notes ≡ 1
  arm_entered n from =
      of_same n (tell_in_turn xs (n + 1) from).notes
      ∙ ap (λ z. 1 + z) (fair.range (n + 1) from n (λ a b. omega arith))

  inside_arm : (n : ℕ) (f : Fork) → IsWithin n (n + 1) (n + 1 + arms_of xs) f → IsInside n (n + 1 + arms_of xs) f
  inside_arm n f (directly e a b c d) = record {
    around_from = omega arith;
    around_to = omega arith;
    yes_from = omega arith;
    yes_to = b;
    no_from = omega arith;
    no_to = d;
  }
  inside_arm n f (deeper i) = wider (n + 1) (n + 1 + arms_of xs) n (n + 1 + arms_of xs) (omega arith) (omega arith) f i

  pub fair_arm : IsFairArm xs
  fair_arm = record {
    range = arm_range;
    entered = arm_entered;
    inside = λ n. all_map (IsWithin n (n + 1) (n + 1 + arms_of xs)) (IsInside n (n + 1 + arms_of xs)) (inside_arm n) (forks_of_arm xs n)
        (fair.within n (n + 1));
    even = λ n from. fair.even n (n + 1) from (omega arith);
  }
