-- Elements that pass a test, found one from the other.
use Rattle.std.proofs.Common.{◌≡◌, ℕ, suc, ◌+◌, ◌<◌, ◌≤◌, Bool, true, false, cond, List, [], ◌∷◌, ◌++◌, length, drop, filter, get_or, Option, None, Some, refl}
use Rattle.std.proofs.Common.{sym, ap, ◌∙◌, subst, arith, length-drop, drop-drop, get_or-drop, drop-cons, append_assoc}
use Rattle.report_table.specs.Chains.{place_in, first_at}

-- what passes from a place on, where there is one
abbrev pub from_place : {A : Type 0} → (A → Bool) → List A → Option ℕ → List A
from_place p up None = []
from_place p up (Some j) = filter p (drop j up)

-- the place is one where the test passes
abbrev pub IsPlace : {A : Type 0} → (A → Bool) → List A → Option ℕ → Type 0
IsPlace p up None = Unit {0}
IsPlace {A} p up (Some j) = (j < length up) × ((d : A) → p (get_or up j d) ≡ true)

drop_tail : {A : Type 0} (up : List A) (k : ℕ) (x : A) (xs : List A) → drop k up ≡ x ∷ xs → drop (suc k) up ≡ xs
drop_tail up k x xs e = ap (λ (n : ℕ). drop n up) {x = suc k} {y = k + 1} (omega arith) ∙ sym (drop-drop 1 k up) ∙ ap (drop 1) e

at_drop : {A : Type 0} (up : List A) (k : ℕ) (x : A) (xs : List A) → drop k up ≡ x ∷ xs → (d : A) → get_or up k d ≡ x
at_drop up k x xs e d = ap (λ (n : ℕ). get_or up n d) {x = k} {y = k + 0} (omega arith) ∙ sym (get_or-drop k up 0 d) ∙ ap (λ l. get_or l 0 d) e

long_drop : {A : Type 0} (up : List A) (k : ℕ) (x : A) (xs : List A) → drop k up ≡ x ∷ xs → k < length up
long_drop up k x xs e = omega (arith, length-drop k up, ap length e)

module _ {A : Type 0} (p : A → Bool) where
  rest_at : (up xs : List A) (k : ℕ) → drop k up ≡ xs → filter p xs ≡ from_place p up (place_in p xs k)
  rest_at up [] k e = refl
  rest_at up (x ∷ xs) k e =
      elim (p x) as (λ b. p x ≡ b → cond b (x ∷ filter p xs) (filter p xs) ≡ from_place p up (cond b (Some k) (place_in p xs (suc k)))) [
        | true ↦ λ t. ap (λ b. cond b (x ∷ filter p xs) (filter p xs)) (sym t) ∙ ap (filter p) (sym e)
        | false ↦ λ t. rest_at up xs (suc k) (drop_tail up k x xs e)
      ] refl

  -- what passes from a place on is what passes from the first such place on
  pub rest_of_first : (up : List A) (k : ℕ) → filter p (drop k up) ≡ from_place p up (first_at p up k)
  rest_of_first up k = rest_at up (drop k up) k refl

  place_at : (up xs : List A) (k : ℕ) → drop k up ≡ xs → IsPlace p up (place_in p xs k)
  place_at up [] k e = tt
  place_at up (x ∷ xs) k e =
      elim (p x) as (λ b. p x ≡ b → IsPlace p up (cond b (Some k) (place_in p xs (suc k)))) [
        | true ↦ λ t. (long_drop up k x xs e, λ d. ap p (at_drop up k x xs e d) ∙ t)
        | false ↦ λ t. place_at up xs (suc k) (drop_tail up k x xs e)
      ] refl

  -- the first such place is one
  pub place_of_first : (up : List A) (k : ℕ) → IsPlace p up (first_at p up k)
  place_of_first up k = place_at up (drop k up) k refl

  -- from a place where it passes on
  pub rest_of_place : (up : List A) (k : ℕ) (d : A) → k < length up → p (get_or up k d) ≡ true
      → filter p (drop k up) ≡ get_or up k d ∷ filter p (drop (suc k) up)
  rest_of_place up k d w t = ap (filter p) (drop-cons up k d w) ∙ ap (λ b. cond b (get_or up k d ∷ filter p (drop (suc k) up)) (filter p (drop (suc k) up))) t

  -- one element of a group more
  pub follow_step : (up before after : List A) (k : ℕ) (next : Option ℕ) (d : A) → after ≡ before ++ get_or up k d ∷ []
      → before ++ from_place p up (Some k) ≡ filter p up → IsPlace p up (Some k)
      → next ≡ first_at p up (suc k) → (after ++ from_place p up next ≡ filter p up) × IsPlace p up next
  follow_step up before after k next d push so_far place is = (
    ap (λ (xs : List A). xs ++ from_place p up next) push
        ∙ append_assoc before (get_or up k d ∷ []) (from_place p up next)
        ∙ ap (λ (o : Option ℕ). before ++ get_or up k d ∷ from_place p up o) is
        ∙ ap (λ (xs : List A). before ++ get_or up k d ∷ xs) (sym (rest_of_first up (suc k)))
        ∙ ap (λ (xs : List A). before ++ xs) (sym (rest_of_place up k d place.0 (place.1 d)))
        ∙ so_far,
    subst (IsPlace p up) (sym is) (place_of_first up (suc k)),
  )

  -- the first place from a place on is that place, or the first behind it
  pub first_step : (up : List A) (k : ℕ) (d : A) → k < length up → first_at p up k ≡ cond (p (get_or up k d)) (Some k) (first_at p up (suc k))
  first_step up k d within = ap (λ xs. place_in p xs k) (drop-cons up k d within)

  place_from : (xs : List A) (k j : ℕ) → place_in p xs k ≡ Some j → k ≤ j
  place_from [] k j e = absurd (cc)
  place_from (x ∷ xs) k j e =
      elim (p x) as (λ b. cond b (Some k) (place_in p xs (suc k)) ≡ Some j → k ≤ j) [
        | true ↦ λ t. let same : k ≡ j = cc in omega arith
        | false ↦ λ t. let later = place_from xs (suc k) j t in omega arith
      ] e

  -- the first place behind another
  pub first_rises : (up : List A) (k j : ℕ) → first_at p up (suc k) ≡ Some j → (k < j) × (j < length up)
  first_rises up k j e =
      let later = place_from (drop (suc k) up) (suc k) j e in
      let place : IsPlace p up (Some j) = subst (IsPlace p up) e (place_of_first up (suc k)) in
      (omega arith, place.0)
