use Rattle.std.proofs.Common.{◌≡◌, ℕ, zero, suc, ◌+◌, ◌<◌, ◌≤◌, true, false, ltb, Some, None, length, get_or, set, List, [], ◌∷◌, ◌++◌, map, arith, refl}
use Rattle.std.proofs.Common.{⊎_elim}
use Rattle.std.proofs.lemmas.Bool.{cases_lt}
use Rattle.std.proofs.lemmas.Bool.Decides.{nat_tests}
use Rattle.std.specs.List.{AllByRecursion}
use Rattle.cov_types.specs.declared.limit.LimitName.TheVariants.{CoveredPairs}
use Rattle.test_rank.specs.Ranking.{Ascends, Covers, limit_passed, pairs_of}
use Rattle.test_rank.specs.Counting.{total}

-- one element in place of another
pub total-set : (xs : List ℕ) (k n : ℕ) → k < length xs → total (set xs k n) + get_or xs k 0 ≡ total xs + n
total-set [] k n h = absurd (omega arith)
total-set (x ∷ xs) zero n h = omega arith
total-set (x ∷ xs) (suc k) n h = let rest = total-set xs k n (omega arith) in omega arith

pub at-most-total : (xs : List ℕ) (k : ℕ) → get_or xs k 0 ≤ total xs
at-most-total [] k = omega arith
at-most-total (x ∷ xs) zero = omega arith
at-most-total (x ∷ xs) (suc k) = let rest = at-most-total xs k in omega arith

-- what isn't 0 stands in the list
pub within-some : (xs : List ℕ) (k : ℕ) → 0 < get_or xs k 0 → k < length xs
within-some [] k h = absurd (omega arith)
within-some (x ∷ xs) zero h = omega arith
within-some (x ∷ xs) (suc k) h = let rest = within-some xs k h in omega arith

-- where none is greater, neither is the sum
pub total-below : (xs ys : List ℕ) → length xs ≡ length ys → ((k : ℕ) → get_or xs k 0 ≤ get_or ys k 0) → total xs ≤ total ys
total-below [] [] len below = omega arith
total-below [] (y ∷ ys) len below = omega arith
total-below (x ∷ xs) [] len below = absurd (omega arith)
total-below (x ∷ xs) (y ∷ ys) len below = let rest = total-below xs ys (omega arith) (λ k. below (suc k)) in let here = below 0 in omega arith

-- and where one is less, so is the sum
pub total-less : (xs ys : List ℕ) (at : ℕ) → length xs ≡ length ys → ((k : ℕ) → get_or xs k 0 ≤ get_or ys k 0) → get_or xs at 0 < get_or ys at 0
    → total xs < total ys
total-less [] [] at len below less = absurd (omega arith)
total-less [] (y ∷ ys) at len below less = absurd (omega arith)
total-less (x ∷ xs) [] at len below less = absurd (omega arith)
total-less (x ∷ xs) (y ∷ ys) zero len below less = let rest = total-below xs ys (omega arith) (λ k. below (suc k)) in omega arith
total-less (x ∷ xs) (y ∷ ys) (suc at) len below less = let rest = total-less xs ys at (omega arith) (λ k. below (suc k)) less in let here = below 0 in
    omega arith

-- where the greatest is 0, or the sum is, all are
pub zero-total : (xs : List ℕ) (k : ℕ) → total xs ≡ 0 → get_or xs k 0 ≡ 0
zero-total xs k none = let most = at-most-total xs k in omega arith

pub some-total : (xs : List ℕ) → 0 < total xs → 0 < length xs
some-total [] h = absurd (omega arith)
some-total (x ∷ xs) h = omega arith

total-zeros : (xs : List ℕ) → ((k : ℕ) → get_or xs k 0 ≤ 0) → total xs ≡ 0
total-zeros [] none = refl
total-zeros (x ∷ xs) none = let here = none 0 in let rest = total-zeros xs (λ k. none (suc k)) in omega arith

-- the greatest of numbers that aren't all 0 isn't 0
pub most-some : (xs : List ℕ) (best : ℕ) → ((k : ℕ) → get_or xs k 0 ≤ get_or xs best 0) → 0 < total xs → 0 < get_or xs best 0
most-some [] best most h = absurd (omega arith)
most-some (x ∷ xs) best most h =
    ⊎_elim (λ (some : 0 < get_or (x ∷ xs) best 0). some)
    (λ (none : get_or (x ∷ xs) best 0 ≤ 0). let zero = total-zeros (x ∷ xs) (λ k. let below = most k in omega arith) in absurd (omega arith))
    (cases_lt 0 (get_or (x ∷ xs) best 0))

-- pairs
pub pairs-pushed : (covers : Covers) (points : List ℕ) → pairs_of (covers ++ points ∷ []) ≡ pairs_of covers + length points
pairs-pushed [] points = omega arith
pairs-pushed (ps ∷ covers) points = let rest = pairs-pushed covers points in omega arith

pub pairs-total : (covers : Covers) → total (map (λ points. length points) covers) ≡ pairs_of covers
pairs-total [] = refl
pairs-total (ps ∷ covers) = let rest = pairs-total covers in omega arith

pub sizes-at : (covers : Covers) (k : ℕ) → get_or (map (λ points. length points) covers) k 0 ≡ length (get_or covers k [])
sizes-at [] k = refl
sizes-at (ps ∷ covers) zero = refl
sizes-at (ps ∷ covers) (suc k) = sizes-at covers k

-- the default of a place that is there
pub get_or-any : {X : Type 0} (xs : List X) (k : ℕ) (d e : X) → k < length xs → get_or xs k d ≡ get_or xs k e
get_or-any [] k d e h = absurd (omega arith)
get_or-any (x ∷ xs) zero d e h = refl
get_or-any (x ∷ xs) (suc k) d e h = get_or-any xs k d e (omega arith)

-- the limit on pairs
pub limit-over : (covers : Covers) (points : List ℕ) (pairs : ℕ) → pairs ≡ pairs_of covers → 268435456 < pairs + length points
    → limit_passed (covers ++ points ∷ []) ≡ Some CoveredPairs
limit-over covers points pairs is over =
    let all = pairs-pushed covers points in
    let above : ltb 268435456 (pairs_of (covers ++ points ∷ [])) ≡ true = let h : 268435456 < pairs_of (covers ++ points ∷ []) = omega arith in
    grind (arith, nat_tests) in
    rw above refl

pub limit-within : (covers : Covers) (points : List ℕ) (pairs : ℕ) → pairs ≡ pairs_of covers → pairs + length points ≤ 268435456
    → limit_passed (covers ++ points ∷ []) ≡ None
limit-within covers points pairs is within =
    let all = pairs-pushed covers points in
    let below : ltb 268435456 (pairs_of (covers ++ points ∷ [])) ≡ false = let h : pairs_of (covers ++ points ∷ []) ≤ 268435456 = omega arith in
    grind (arith, nat_tests) in
    rw below refl

pub ascend-pushed : (covers : Covers) (points : List ℕ) → AllByRecursion Ascends covers → Ascends points → AllByRecursion Ascends (covers ++ points ∷ [])
ascend-pushed [] points all h = (h, tt)
ascend-pushed (ps ∷ covers) points all h = (all.0, ascend-pushed covers points all.1 h)
