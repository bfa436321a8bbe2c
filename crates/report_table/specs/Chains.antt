-- Private: elements that pass a test, found one from the other.
use Rattle.std.specs.Prelude.{◌≡◌, ℕ, suc, ◌<◌, ◌≤◌, Bool, true, cond, List, [], ◌∷◌, length, drop, get_or, Option, None, Some}

-- the place of the first that passes, where the list begins at k of another
abbrev pub place_in : {A : Type 0} → (A → Bool) → List A → ℕ → Option ℕ
place_in p [] k = None
place_in p (x ∷ xs) k = cond (p x) (Some k) (place_in p xs (suc k))

-- the place of the first that passes from a place on
abbrev pub first_at : {A : Type 0} → (A → Bool) → List A → ℕ → Option ℕ
first_at p up k = place_in p (drop k up) k

-- from a place on, each element that passes has with it the place of the next
pub record IsLinked {A : Type 0} (p : A → Bool) (up : List A) (next : List (Option ℕ)) (k : ℕ) : Type 0 where
  pub next_is : (j : ℕ) → k ≤ j → j < length up → ((d : A) → p (get_or up j d) ≡ true) → get_or next j None ≡ first_at p up (suc j)

-- the next place stands behind
abbrev pub Rises : List (Option ℕ) → ℕ → Type 0
Rises next n = (k j : ℕ) → get_or next k None ≡ Some j → (k < j) × (j < n)
