-- Lists cut at the elements that pass a test.
use Rattle.std.proofs.Common.{◌≡◌, ℕ, zero, suc, ◌+◌, ◌-◌, ◌<◌, ◌≤◌, Bool, true, false, cond, not, List, [], ◌∷◌, length, take, drop, refl, sym, ◌∙◌, ap, arith}
use Rattle.std.specs.List.{position_or_len, slice_split, onto_first}
use Rattle.std.proofs.lemmas.List.{drop-drop, drop_all, length-drop}

-- the list is empty, or its first element passes
abbrev pub Begins : (ℕ → Bool) → List ℕ → Type 0
Begins p [] = Unit {0}
Begins p (x ∷ xs) = p x ≡ true

-- what is left from the first element on that passes
pub begins_there : (p : ℕ → Bool) (xs : List ℕ) → Begins p (drop (position_or_len p xs) xs)
begins_there p [] = tt
begins_there p (x ∷ xs) =
    elim (p x) as (λ t. p x ≡ t → Begins p (drop (cond (not t) (1 + position_or_len p xs) 0) (x ∷ xs))) [
      | true ↦ λ is. is
      | false ↦ λ is. let e : 1 + position_or_len p xs ≡ suc (position_or_len p xs) = omega arith in rw e (begins_there p xs)
    ] refl

-- the parts of a list are its front and the parts behind
pub split_front : (p : ℕ → Bool) (xs : List ℕ) → slice_split p xs ≡ take (position_or_len p xs) xs ∷ drop 1 (slice_split p (drop (position_or_len p xs) xs))
split_front p [] = refl
split_front p (x ∷ xs) =
    elim (p x) as (λ t. p x ≡ t → cond t ([] ∷ slice_split p xs) (onto_first x (slice_split p xs))
    ≡ take (cond (not t) (1 + position_or_len p xs) 0) (x ∷ xs) ∷ drop 1 (slice_split p (drop (cond (not t) (1 + position_or_len p xs) 0) (x ∷ xs)))) [
      | true ↦ λ is. ap (λ (t : Bool). [] ∷ drop 1 (cond t ([] ∷ slice_split p xs) (onto_first x (slice_split p xs)))) (sym is)
      | false ↦ λ is.
          let e : 1 + position_or_len p xs ≡ suc (position_or_len p xs) = omega arith in
          rw e (ap (onto_first x) (split_front p xs))
    ] refl

-- what an element that passes begins
pub behind_mark : (p : ℕ → Bool) (rest : List ℕ) → 0 < length rest → Begins p rest → drop 1 (slice_split p rest) ≡ slice_split p (drop 1 rest)
behind_mark p [] some begins = absurd (omega arith)
behind_mark p (b ∷ bs) some begins = ap (λ (t : Bool). drop 1 (cond t ([] ∷ slice_split p bs) (onto_first b (slice_split p bs)))) begins

-- a list in which none passes is one part
pub split_none : (p : ℕ → Bool) (xs : List ℕ) (n : ℕ) → n ≡ position_or_len p xs → length xs ≤ n → slice_split p xs ≡ take n xs ∷ []
split_none p xs n at all = rw at (split_front p xs
    ∙ ap (λ (ys : List ℕ). take (position_or_len p xs) xs ∷ drop 1 (slice_split p ys)) (drop_all (position_or_len p xs) xs (omega arith)))

-- the first that passes ends the first part
pub split_some : (p : ℕ → Bool) (xs : List ℕ) (n : ℕ) → n ≡ position_or_len p xs → n < length xs
    → slice_split p xs ≡ take n xs ∷ slice_split p (drop (n + 1) xs)
split_some p xs n at some =
    let rest = drop n xs in
    let long : length rest ≡ length xs - n = length-drop n xs in
    let begins : Begins p rest = rw at (begins_there p xs) in
    let one : drop 1 rest ≡ drop (n + 1) xs = drop-drop 1 n xs in
    let front : slice_split p xs ≡ take n xs ∷ drop 1 (slice_split p rest) = rw at (split_front p xs) in
    front ∙ ap (λ (ps : List (List ℕ)). take n xs ∷ ps) (behind_mark p rest (omega arith) begins ∙ ap (slice_split p) one)
