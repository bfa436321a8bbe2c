-- The arms of points, of one arm more.
use Rattle.std.proofs.Common.{◌≡◌, ℕ, ◌+◌, ◌<◌, ◌≤◌, zero, suc, Bool, true, false, cond, List, [], ◌∷◌, ◌++◌, map, length, take, get_or, refl, sym, ◌∙◌, ap, arith}
use Rattle.std.specs.Prelude.{Option, None, filter}
use Rattle.std.proofs.lemmas.List.{take_more}
use Rattle.circuit_run.specs.Lists.{numbered}
use Rattle.counted_circuit.specs.Counts.{is_number}
use Rattle.row_lists.specs.Lists.{list_at}
use Rattle.point_lists.specs.Arms.{arms_of}

-- those whose numbers begin at m
abbrev arms_from : ℕ → List (Option ℕ) → ℕ → List ℕ
arms_from m points k = map (λ a. a.0) (filter (λ a. is_number k a.1) (numbered m points))

at_end : (b : Bool) (m j : ℕ) (x : Option ℕ) → j ≡ m → map (λ (a : ℕ × Option ℕ). a.0) (cond b ((m, x) ∷ []) []) ≡ cond b (j ∷ []) []
at_end true m j x e = ap (λ i. i ∷ []) (sym e)
at_end false m j x e = refl

in_front : (b : Bool) (a : ℕ × Option ℕ) (fs gs : List (ℕ × Option ℕ)) (more : List ℕ) → map (λ z. z.0) fs ≡ map (λ z. z.0) gs ++ more
    → map (λ z. z.0) (cond b (a ∷ fs) fs) ≡ map (λ z. z.0) (cond b (a ∷ gs) gs) ++ more
in_front true a fs gs more e = ap (λ zs. a.0 ∷ zs) e
in_front false a fs gs more e = e

arms_push : (m k : ℕ) (points : List (Option ℕ)) (x : Option ℕ)
    → arms_from m (points ++ x ∷ []) k ≡ arms_from m points k ++ cond (is_number k x) ((m + length points) ∷ []) []
arms_push m k [] x = let e : m + 0 ≡ m = omega arith in at_end (is_number k x) m (m + 0) x e
arms_push m k (y ∷ points) x =
    let e : m + 1 + length points ≡ m + length (y ∷ points) = omega arith in
    in_front (is_number k y) (m, y) (filter (λ a. is_number k a.1) (numbered (m + 1) (points ++ x ∷ [])))
    (filter (λ a. is_number k a.1) (numbered (m + 1) points)) (cond (is_number k x) ((m + length (y ∷ points)) ∷ []) [])
    (arms_push (m + 1) k points x ∙ ap (λ j. arms_from (m + 1) points k ++ cond (is_number k x) (j ∷ []) []) e)

front_length : {X : Type 0} (n : ℕ) (xs : List X) → n ≤ length xs → length (take n xs) ≡ n
front_length zero xs h = refl
front_length (suc n) [] h = absurd (omega arith)
front_length (suc n) (x ∷ xs) h = ap suc (front_length n xs (omega arith))

pub arms_more : (points : List (Option ℕ)) (n k : ℕ) → n < length points
    → arms_of (take (n + 1) points) k ≡ arms_of (take n points) k ++ cond (is_number k (get_or points n None)) (n ∷ []) []
arms_more points n k lt =
    let e : 0 + length (take n points) ≡ n = omega (arith, front_length n points (omega arith)) in
    ap (λ (xs : List (Option ℕ)). arms_of xs k) (take_more points n None lt)
    ∙ (arms_push 0 k (take n points) (get_or points n None)
    ∙ ap (λ j. arms_of (take n points) k ++ cond (is_number k (get_or points n None)) (j ∷ []) []) e)

-- a list with nothing in it, put behind lists, is as good as none
pub none_pushed : (lists : List (List ℕ)) (k : ℕ) → list_at (lists ++ [] ∷ []) k ≡ list_at lists k
none_pushed [] zero = refl
none_pushed [] (suc k) = refl
none_pushed (x ∷ lists) zero = refl
none_pushed (x ∷ lists) (suc k) = none_pushed lists k
