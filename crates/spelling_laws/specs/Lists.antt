-- Lists of values, one behind the other, each in the light of a state that those before it lead to.
use Rattle.std.specs.Prelude.{◌≡◌, ℕ, List, [], ◌∷◌, ◌++◌, length, Option, None, Some}

-- so many values
pub record Many (A : Type 0) (n : ℕ) : Type 0 where
  pub items : List A
  pub count : length items ≡ n

abbrev pub many : {A : Type 0} → (n : ℕ) → (xs : List A) → length xs ≡ n → Many A n
many n xs count = record { items = xs; count = count }

module _ {A S M : Type 0} (spelled : S → A → List M) (next : S → A → S) where
  -- the state behind values
  abbrev pub state_behind : S → List A → S
  state_behind s [] = s
  state_behind s (x ∷ xs) = state_behind (next s x) xs

  -- the marks of values, one behind the other
  abbrev pub all_marks : S → List A → List M
  all_marks s [] = []
  all_marks s (x ∷ xs) = spelled s x ++ all_marks (next s x) xs

  -- those of so many
  abbrev pub many_marks : (n : ℕ) → S → Many A n → List M
  many_marks n s m = all_marks s m.items

  -- a heading that says how many there are, and they
  abbrev pub headed_marks : (ℕ → List M) → (ℕ → S) → List A → List M
  headed_marks head start xs = head (length xs) ++ all_marks (start (length xs)) xs

  -- all of them and what ends them
  abbrev pub ended_marks : (S → List M) → S → List A → List M
  ended_marks ends s xs = all_marks s xs ++ ends (state_behind s xs)

-- one value more, or what ends them
abbrev pub end_or : {A S M : Type 0} → (S → A → List M) → (S → List M) → S → Option A → List M
end_or spelled ends s None = ends s
end_or spelled ends s (Some x) = spelled s x
