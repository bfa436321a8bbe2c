-- What the notes of steps and arms are like: their numbers, and the balance of each `if`.
use Rattle.std.specs.Prelude.{◌≡◌, ℕ, ◌+◌, ◌≤◌, ◌<◌, List, [], ◌∷◌, ◌++◌}
use Rattle.std.specs.List.{AllByRecursion}
use Rattle.std.proofs.Common.{sym, ◌∙◌, ap₂, arith}
use Rattle.circuit_run.specs.States.{State}
use Rattle.circuit_run.specs.Lists.{how_many}
use Rattle.counted_circuit.proofs.HowMany.{how_many_joined, of_other}
use Rattle.counted_circuit.specs.Tells.{Fork, Telling, arms_of, tell_arm, forks_of_arm}

-- the number isn't among those from n up to m
abbrev pub Out : ℕ → ℕ → ℕ → Type 0
Out n m k = n ≤ k → k < m → ⊥

-- the numbers of an `if` lie from n up to m
pub record IsInside (n m : ℕ) (f : Fork) : Type 0 where
  pub around_from : n ≤ f.around
  pub around_to : f.around < m
  pub yes_from : n ≤ f.yes_arm
  pub yes_to : f.yes_arm < m
  pub no_from : n ≤ f.no_arm
  pub no_to : f.no_arm < m

-- or the arm around it is this one
pub data IsWithin (around n m : ℕ) (f : Fork) : Type 0 where
  directly : f.around ≡ around → n ≤ f.yes_arm → f.yes_arm < m → n ≤ f.no_arm → f.no_arm < m → IsWithin around n m f
  deeper : IsInside n m f → IsWithin around n m f

abbrev pub IsEven : List ℕ → Fork → Type 0
IsEven ns f = how_many f.around ns ≡ how_many f.yes_arm ns + how_many f.no_arm ns

-- steps in an arm
pub record IsFair (x : Telling) : Type 0 where
  pub range : (n : ℕ) (from : State) (k : ℕ) → Out n (n + x.arms) k → how_many k (x.act n from).notes ≡ 0
  pub within : (around n : ℕ) → AllByRecursion (IsWithin around n (n + x.arms)) (x.forks around n)
  pub even : (around n : ℕ) (from : State) → around < n → AllByRecursion (IsEven (around ∷ (x.act n from).notes)) (x.forks around n)

-- an arm
pub record IsFairArm (steps : List Telling) : Type 0 where
  pub range : (n : ℕ) (from : State) (k : ℕ) → Out n (n + 1 + arms_of steps) k → how_many k (tell_arm steps n from).notes ≡ 0
  pub entered : (n : ℕ) (from : State) → how_many n (tell_arm steps n from).notes ≡ 1
  pub inside : (n : ℕ) → AllByRecursion (IsInside n (n + 1 + arms_of steps)) (forks_of_arm steps n)
  pub even : (n : ℕ) (from : State) → AllByRecursion (IsEven (tell_arm steps n from).notes) (forks_of_arm steps n)

-- ---- lists

pub all_map : (P Q : Fork → Type 0) → ((x : Fork) → P x → Q x) → (xs : List Fork) → AllByRecursion P xs → AllByRecursion Q xs
all_map P Q f [] h = tt
all_map P Q f (x ∷ xs) h = (f x h.0, all_map P Q f xs h.1)

pub all_joined : (P : Fork → Type 0) (xs ys : List Fork) → AllByRecursion P xs → AllByRecursion P ys → AllByRecursion P (xs ++ ys)
all_joined P [] ys h k = k
all_joined P (x ∷ xs) ys h k = (h.0, all_joined P xs ys h.1 k)

pub all_map_two : (P Q R : Fork → Type 0) → ((x : Fork) → P x → Q x → R x) → (xs : List Fork)
    → AllByRecursion P xs → AllByRecursion Q xs → AllByRecursion R xs
all_map_two P Q R f [] h k = tt
all_map_two P Q R f (x ∷ xs) h k = (f x h.0 k.0, all_map_two P Q R f xs h.1 k.1)

-- ---- evenness of joined notes

sum_even : (a a' b b' c c' : ℕ) → a ≡ b + c → a' ≡ 0 → b' ≡ 0 → c' ≡ 0 → a + a' ≡ b + b' + (c + c')
sum_even a a' b b' c c' e f g h = omega arith

sum_even_last : (a a' b b' c c' : ℕ) → a' ≡ b' + c' → a ≡ 0 → b ≡ 0 → c ≡ 0 → a + a' ≡ b + b' + (c + c')
sum_even_last a a' b b' c c' e f g h = omega arith

-- more notes that have none of its numbers
pub even_more : (ns ms : List ℕ) (f : Fork) → IsEven ns f
    → how_many f.around ms ≡ 0 → how_many f.yes_arm ms ≡ 0 → how_many f.no_arm ms ≡ 0 → IsEven (ns ++ ms) f
even_more ns ms f e p q r =
    how_many_joined f.around ns ms
    ∙ sum_even (how_many f.around ns) (how_many f.around ms) (how_many f.yes_arm ns) (how_many f.yes_arm ms) (how_many f.no_arm ns) (how_many f.no_arm ms) e p q
    r
    ∙ sym (ap₂ (λ a b. a + b) (how_many_joined f.yes_arm ns ms) (how_many_joined f.no_arm ns ms))

pub even_after : (ns ms : List ℕ) (f : Fork) → IsEven ms f
    → how_many f.around ns ≡ 0 → how_many f.yes_arm ns ≡ 0 → how_many f.no_arm ns ≡ 0 → IsEven (ns ++ ms) f
even_after ns ms f e p q r =
    how_many_joined f.around ns ms
    ∙ sum_even_last (how_many f.around ns) (how_many f.around ms) (how_many f.yes_arm ns) (how_many f.yes_arm ms) (how_many f.no_arm ns) (how_many f.no_arm ms)
    e p q r
    ∙ sym (ap₂ (λ a b. a + b) (how_many_joined f.yes_arm ns ms) (how_many_joined f.no_arm ns ms))

-- one note more that is none of its numbers
pub even_one_more : (n : ℕ) (ns : List ℕ) (f : Fork) → IsEven ns f
    → (n ≡ f.around → ⊥) → (n ≡ f.yes_arm → ⊥) → (n ≡ f.no_arm → ⊥) → IsEven (n ∷ ns) f
even_one_more n ns f e p q r =
    of_other f.around n ns p ∙ e ∙ sym (ap₂ (λ a b. a + b) (of_other f.yes_arm n ns q) (of_other f.no_arm n ns r))

-- notes that have none of its numbers
pub even_without : (ns : List ℕ) (f : Fork) → how_many f.around ns ≡ 0 → how_many f.yes_arm ns ≡ 0 → how_many f.no_arm ns ≡ 0 → IsEven ns f
even_without ns f p q r = none (how_many f.around ns) (how_many f.yes_arm ns) (how_many f.no_arm ns) p q r where
  none : (a b c : ℕ) → a ≡ 0 → b ≡ 0 → c ≡ 0 → a ≡ b + c
  none a b c e f g = omega arith
