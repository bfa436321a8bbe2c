-- Lines of things each of which is behind all before it.
use Rattle.std.proofs.Common.{◌≡◌, ℕ, zero, suc, Bool, true, false, List, [], ◌∷◌, ◌++◌, refl, sym, ◌∙◌, arith}
use Rattle.std.specs.Prelude.{◌&&◌, AllPairs}
use Rattle.std.specs.List.{list_all, AllByRecursion}
use Rattle.std.proofs.lemmas.List.Kept.{AllPairs-cons}
use Rattle.design_meaning.proofs.Listed.{by_recursion, by_index}
use Rattle.cvd_text.specs.Lines.{Load, Line}
use Rattle.cvd_text.specs.Sections.{lines_behind}
use Rattle.spelling_laws.proofs.Fitting.{first_true, second_true, both_true}
use Rattle.cvd_valid_laws.proofs.Conditions.{all_join, all_front, all_back}
use Rattle.cvd_valid_laws.proofs.Standing.{holds_all, sum_of}

pub all_map : {X : Type 0} (P Q : X → Type 0) (xs : List X) → ((x : X) → P x → Q x) → AllByRecursion P xs → AllByRecursion Q xs
all_map P Q [] f h = tt
all_map P Q (x ∷ xs) f h = (f x h.0, all_map P Q xs f h.1)

pub and_true : (b : Bool) → (b && true) ≡ b
and_true true = refl
and_true false = refl

module _ {A : Type 0} (r : A → A → Bool) where
  -- each is behind all before it
  abbrev pub Behind : List A → List A → Type 0
  Behind before [] = Unit {0}
  Behind before (x ∷ xs) = (list_all (λ u. r u x) before ≡ true) × Behind (before ++ x ∷ []) xs

  -- each is before all behind it
  abbrev pub Pairs : List A → Type 0
  Pairs [] = Unit {0}
  Pairs (x ∷ xs) = AllByRecursion (λ y. r x y ≡ true) xs × Pairs xs

  abbrev AllBefore : List A → A → Type 0
  AllBefore before x = list_all (λ u. r u x) before ≡ true

  each_behind : (before xs : List A) → Behind before xs → AllByRecursion (AllBefore before) xs
  each_behind before [] h = tt
  each_behind before (x ∷ xs) h = (
    h.0,
    all_map (AllBefore (before ++ x ∷ [])) (AllBefore before) xs (λ y e. all_front (λ u. r u y) before (x ∷ []) e) (each_behind (before
        ++ x ∷ []) xs h.1),
  )

  pub pairs_of : (before xs : List A) → Behind before xs → Pairs xs
  pairs_of before [] h = tt
  pairs_of before (x ∷ xs) h = (
    all_map (AllBefore (before ++ x ∷ [])) (λ y. r x y ≡ true) xs (λ y e. first_true (r x y) true (all_back (λ u. r u y) before (x ∷ []) e))
        (each_behind (before ++ x ∷ []) xs h.1),
    pairs_of (before ++ x ∷ []) xs h.1,
  )

  both_before : (before : List A) (x : A) (xs : List A) → AllByRecursion (AllBefore before) xs → AllByRecursion (λ y. r x y ≡ true) xs
      → AllByRecursion (AllBefore (before ++ x ∷ [])) xs
  both_before before x [] a b = tt
  both_before before x (y ∷ xs) a b = (all_join (λ u. r u y) before (x ∷ []) a.0 (both_true (r x y) true b.0 refl), both_before before x xs a.1 b.1)

  behind_of : (before xs : List A) → AllByRecursion (AllBefore before) xs → Pairs xs → Behind before xs
  behind_of before [] a p = tt
  behind_of before (x ∷ xs) a p = (a.0, behind_of (before ++ x ∷ []) xs (both_before before x xs a.1 p.0) p.1)

  none_before : (xs : List A) → AllByRecursion (AllBefore []) xs
  none_before [] = tt
  none_before (x ∷ xs) = (refl, none_before xs)

  pub behind_pairs : (xs : List A) → Pairs xs → Behind [] xs
  behind_pairs xs p = behind_of [] xs (none_before xs) p

  module _ (R : A → A → Type 0) where
    pub all_pairs : ((x y : A) → r x y ≡ true → R x y) → (xs : List A) → Pairs xs → AllPairs R xs
    all_pairs f [] p = λ i j e a b. absurd (omega (arith, b))
    all_pairs f (x ∷ xs) p =
        AllPairs-cons R x xs (by_index (R x) xs (all_map (λ y. r x y ≡ true) (R x) xs (λ y e. f x y e) p.0)) (all_pairs f xs p.1)

    pub pairs_all : ((x y : A) → R x y → r x y ≡ true) → (xs : List A) → AllPairs R xs → Pairs xs
    pairs_all f [] h = tt
    pairs_all f (x ∷ xs) h = (
      all_map (R x) (λ y. r x y ≡ true) xs (λ y e. f x y e) (by_recursion (R x) xs (λ k e lt. h zero (suc k) e (omega arith) (omega (arith, lt)))),
      pairs_all f xs (λ i j e a b. h (suc i) (suc j) e (omega (arith, a)) (omega (arith, b))),
    )

-- ---- their lines

module _ {A : Type 0} (row : List A → A → Line) (own : A → Bool) (r : A → A → Bool) (last : List A → A → Bool)
    (says : (before : List A) (x : A) → (row before x).holds ≡ ((own x && list_all (λ u. r u x) before) && last before x)) where
  abbrev pub Last : List A → List A → Type 0
  Last before [] = Unit {0}
  Last before (x ∷ xs) = (last before x ≡ true) × Last (before ++ x ∷ []) xs

  pub record Rows (before xs : List A) : Type 0 where
    pub each : AllByRecursion (λ x. own x ≡ true) xs
    pub order : Behind r before xs
    pub ends : Last before xs

  pub rows_told : (before xs : List A) → holds_all (lines_behind row before xs) ≡ true → Rows before xs
  rows_told before [] e = record { each = tt; order = tt; ends = tt }
  rows_told before (x ∷ xs) e =
      let lines = lines_behind row (before ++ x ∷ []) xs in
      let here = sym (says before x) ∙ first_true (row before x).holds (holds_all lines) e in
      let all = list_all (λ u. r u x) before in
      let front = first_true (own x && all) (last before x) here in
      let more = rows_told (before ++ x ∷ []) xs (second_true (row before x).holds (holds_all lines) e) in
      record {
        each = (first_true (own x) all front, more.each);
        order = (second_true (own x) all front, more.order);
        ends = (second_true (own x && all) (last before x) here, more.ends);
      }

  pub rows_stand : (before xs : List A) → Rows before xs → holds_all (lines_behind row before xs) ≡ true
  rows_stand before [] h = refl
  rows_stand before (x ∷ xs) h =
      let all = list_all (λ u. r u x) before in
      both_true (row before x).holds (holds_all (lines_behind row (before ++ x ∷ []) xs))
      (says before x ∙ both_true (own x && all) (last before x) (both_true (own x) all h.each.0 h.order.0) h.ends.0)
      (rows_stand (before ++ x ∷ []) xs (record { each = h.each.1; order = h.order.1; ends = h.ends.1 }))

module _ {A : Type 0} (row : List A → A → Line) (f : Load → ℕ) (none : (before : List A) (x : A) → f (row before x).load ≡ 0) where
  -- lines that add nothing
  pub rows_add : (before xs : List A) → sum_of f (lines_behind row before xs) ≡ 0
  rows_add before [] = refl
  rows_add before (x ∷ xs) = let more = rows_add (before ++ x ∷ []) xs in let here = none before x in omega arith
