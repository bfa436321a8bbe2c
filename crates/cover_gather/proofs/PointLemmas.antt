-- Numbers in ascending order, each once.
use Rattle.std.proofs.Common.{◌≡◌, ◌≢◌, ℕ, zero, suc, ◌+◌, ◌<◌, ◌≤◌, Bool, true, false, cond, ◌||◌, eqb, max, List, [], ◌∷◌, filter, refl, sym, ◌∙◌, ap, subst}
use Rattle.std.proofs.Common.{arith, ⊎_elim}
use Rattle.std.specs.List.{AllByRecursion, range_with_len, dedup, dedup_from}
use Rattle.std.specs.List.Sorted.{IsPermutation, IsSorted, IsStrictlySortedBy}
use Rattle.std.specs.Ordering.{nat_cmp}
use Rattle.std.specs.declared.cmp.Ordering.TheVariants.{Less}
use Rattle.std.proofs.lemmas.Bool.{cases_lt, false≢true}
use Rattle.std.proofs.lemmas.Bool.Decides.{nat_tests}
use Rattle.std.proofs.lemmas.List.Sorted.{list_any-IsPermutation}
use Rattle.std.proofs.lemmas.Map.Keys.{IsStrictlyIncreasing-dedup, sorted_from_strictly_increasing, sorted_head, sorted_tail}
use Rattle.test_rank.specs.Ranking.{Ascends, is_among}
use Rattle.cover_gather.specs.Points.{ascending, end_of}

-- ---- what is among numbers

pub eqb-same : (n : ℕ) → eqb n n ≡ true
eqb-same n = grind (arith, nat_tests)

eqb-other : (n m : ℕ) → n ≢ m → eqb n m ≡ false
eqb-other n m h = grind (arith, nat_tests)

pub eqb-is : (n m : ℕ) → eqb n m ≡ true → n ≡ m
eqb-is n m h = grind (arith, nat_tests)

-- a number among further ones
pub among_later : (y n : ℕ) (ys : List ℕ) → is_among ys n ≡ true → is_among (y ∷ ys) n ≡ true
among_later y n ys h = elim (eqb n y) as (λ t. (t || is_among ys n) ≡ true) [ true ↦ refl | false ↦ h ]

pub among_first : (y : ℕ) (ys : List ℕ) → is_among (y ∷ ys) y ≡ true
among_first y ys = ap (λ (t : Bool). t || is_among ys y) (eqb-same y)

-- what holds of each number among these
pub all_from_among : (P : ℕ → Type 0) (ys : List ℕ) → ((n : ℕ) → is_among ys n ≡ true → P n) → AllByRecursion P ys
all_from_among P [] h = tt
all_from_among P (y ∷ ys) h = (h y (among_first y ys), all_from_among P ys (λ n there. h n (among_later y n ys there)))

-- none of greater numbers is this one
none_below : (n : ℕ) (ys : List ℕ) → AllByRecursion (λ y. n < y) ys → is_among ys n ≡ false
none_below n [] h = refl
none_below n (y ∷ ys) h = let apart : eqb n y ≡ false = eqb-other n y (λ same. let less = h.0 in absurd (omega arith)) in rw apart (none_below n ys h.1)

all_weaker : (P Q : ℕ → Type 0) (ys : List ℕ) → ((n : ℕ) → P n → Q n) → AllByRecursion P ys → AllByRecursion Q ys
all_weaker P Q [] weaker all = tt
all_weaker P Q (y ∷ ys) weaker all = (weaker y all.0, all_weaker P Q ys weaker all.1)

-- ---- a list that ascends is what a filter leaves of a range

less_than : (a b : ℕ) → nat_cmp a b ≡ Less → a < b
less_than a b h = grind (arith, nat_tests)

above : (y : ℕ) (ys : List ℕ) → IsStrictlySortedBy nat_cmp (y ∷ ys) → AllByRecursion (λ n. y < n) ys
above y ys sorted = all_weaker _ _ ys (λ n. less_than y n) (sorted_head nat_cmp y ys sorted)

-- numbers that ascend within a range
pub record Within (ys : List ℕ) (s k : ℕ) : Type 0 where
  pub sorted : IsStrictlySortedBy nat_cmp ys
  pub from : AllByRecursion (λ y. s ≤ y) ys
  pub below : AllByRecursion (λ y. y < s + k) ys

none_within : (y s : ℕ) (ys : List ℕ) → Within (y ∷ ys) s 0 → ⊥
none_within y s ys h = let low = h.from.0 in let high = h.below.0 in absurd (omega arith)

from_next : (s k : ℕ) (ys : List ℕ) → AllByRecursion (λ y. y < s + suc k) ys → AllByRecursion (λ y. y < s + 1 + k) ys
from_next s k ys h = all_weaker _ _ ys (λ n less. omega arith) h

behind_first : (s k : ℕ) (ys : List ℕ) → Within (s ∷ ys) s (suc k) → Within ys (s + 1) k
behind_first s k ys h = record {
  sorted = sorted_tail nat_cmp s ys h.sorted;
  from = all_weaker _ _ ys (λ n less. omega arith) (above s ys h.sorted);
  below = from_next s k ys h.below.1;
}

behind_none : (s k y : ℕ) (ys : List ℕ) → s < y → Within (y ∷ ys) s (suc k) → Within (y ∷ ys) (s + 1) k
behind_none s k y ys less h = record {
  sorted = h.sorted;
  from = (omega arith, all_weaker _ _ ys (λ n more. omega arith) (above y ys h.sorted));
  below = from_next s k (y ∷ ys) h.below;
}

behind_nothing : (s k : ℕ) → Within [] s (suc k) → Within [] (s + 1) k
behind_nothing s k h = record { sorted = h.sorted; from = tt; below = tt }

-- a test that passes these numbers alone, from a number on
abbrev Passes : (ℕ → Bool) → List ℕ → ℕ → Type 0
Passes p ys s = (n : ℕ) → s ≤ n → p n ≡ is_among ys n

passes_next : (p : ℕ → Bool) (s : ℕ) (ys : List ℕ) → Passes p ys s → Passes p ys (s + 1)
passes_next p s ys h n more = h n (omega arith)

passes_behind : (p : ℕ → Bool) (s : ℕ) (ys : List ℕ) → Passes p (s ∷ ys) s → Passes p ys (s + 1)
passes_behind p s ys h n more = h n (omega arith) ∙ ap (λ (t : Bool). t || is_among ys n) (eqb-other n s (λ same. absurd (omega arith)))

-- the numbers of which the first begins the range, where those behind it are what is left of the rest
first_taken : (p : ℕ → Bool) (y s k : ℕ) (ys : List ℕ) → y ≡ s → Within (y ∷ ys) s (suc k) → Passes p (y ∷ ys) s
    → (Within ys (s + 1) k → Passes p ys (s + 1) → filter p (range_with_len (s + 1) k) ≡ ys) → filter p (range_with_len s (suc k)) ≡ y ∷ ys
first_taken p y s k ys same h passes rest =
    let here = subst (λ (n : ℕ). Within (n ∷ ys) s (suc k)) same h in
    let there = subst (λ (n : ℕ). Passes p (n ∷ ys) s) same passes in
    let is : p s ≡ true = there s (omega arith) ∙ among_first s ys in
    rw is (ap (λ (ns : List ℕ). s ∷ ns) (rest (behind_first s k ys here) (passes_behind p s ys there)) ∙ ap (λ (n : ℕ). n ∷ ys) (sym same))

pub filtered_range : (p : ℕ → Bool) (ys : List ℕ) (s k : ℕ) → Within ys s k → Passes p ys s → filter p (range_with_len s k) ≡ ys
filtered_range p [] s zero h passes = refl
filtered_range p (y ∷ ys) s zero h passes = absurd (none_within y s ys h)
filtered_range p [] s (suc k) h passes =
    rw (passes s (omega arith)) (filtered_range p [] (s + 1) k (behind_nothing s k h) (passes_next p s [] passes))
filtered_range p (y ∷ ys) s (suc k) h passes =
    ⊎_elim (λ (less : s < y).
    let none : p s ≡ false = passes s (omega arith) ∙ none_below s (y ∷ ys) (less, all_weaker _ _ ys (λ n more. omega arith) (above y ys h.sorted)) in
    rw none (filtered_range p (y ∷ ys) (s + 1) k (behind_none s k y ys less h) (passes_next p s (y ∷ ys) passes)))
    (λ (least : y ≤ s).
    let same : y ≡ s = let low = h.from.0 in omega arith in
    first_taken p y s k ys same h passes (filtered_range p ys (s + 1) k)) (cases_lt s y)

-- ---- what a sort and a `dedup` leave

pub below_end : (xs : List ℕ) (n : ℕ) → is_among xs n ≡ true → n < end_of xs
below_end [] n h = absurd (false≢true h)
below_end (x ∷ xs) n h =
    elim (eqb n x) as (λ t. eqb n x ≡ t → (t || is_among xs n) ≡ true → n < max (x + 1) (end_of xs)) [
      | true ↦ λ e so. let same = eqb-is n x e in omega arith
      | false ↦ λ e so. let rest = below_end xs n so in omega arith
    ] refl h

either_way : (a b c : Bool) → (a ≡ true → b ≡ true) → (a || (b || c)) ≡ (b || c)
either_way true b c h = let is : b ≡ true = h refl in rw is refl
either_way false b c h = refl

among_from : (k n : ℕ) (xs : List ℕ) → is_among (dedup_from eqb k xs) n ≡ (eqb n k || is_among xs n)
among_from k n [] = refl
among_from k n (x ∷ xs) =
    elim (eqb x k) as (λ t. eqb x k ≡ t → is_among (cond t (dedup_from eqb k xs) (k ∷ dedup_from eqb x xs)) n ≡ (eqb n k || (eqb n x || is_among xs n))) [
      | true ↦ λ e. let same = eqb-is x k e in
          among_from k n xs ∙ ap (λ (m : ℕ). eqb n m || is_among xs n) (sym same)
          ∙ sym (ap (λ (m : ℕ). eqb n m || (eqb n x || is_among xs n)) (sym same) ∙ either_way (eqb n x) (eqb n x) (is_among xs n) (λ so. so))
      | false ↦ λ e. ap (λ (t : Bool). eqb n k || t) (among_from x n xs)
    ] refl

among_dedup : (xs : List ℕ) (n : ℕ) → is_among (dedup eqb xs) n ≡ is_among xs n
among_dedup [] n = refl
among_dedup (x ∷ xs) n = among_from x n xs

ascends : (ys : List ℕ) → IsStrictlySortedBy nat_cmp ys → Ascends ys
ascends [] h = tt
ascends (n ∷ []) h = tt
ascends (n ∷ m ∷ ns) h = ((above n (m ∷ ns) h).0, ascends (m ∷ ns) (sorted_tail nat_cmp n (m ∷ ns) h))

-- a sorted list without repeats
pub record IsOrdered (xs ys : List ℕ) : Type 0 where
  pub value : ys ≡ ascending xs
  pub ascends_is : Ascends ys

pub ordered : (xs sorted ys : List ℕ) → IsPermutation xs sorted → IsSorted nat_cmp sorted → ys ≡ dedup eqb sorted → IsOrdered xs ys
unfolding ascending
ordered xs sorted ys moved in_order is =
    let strict : IsStrictlySortedBy nat_cmp ys =
    subst (λ (l : List ℕ). IsStrictlySortedBy nat_cmp l) (sym is) (sorted_from_strictly_increasing (dedup eqb sorted)
    (IsStrictlyIncreasing-dedup sorted in_order)) in
    let same : (n : ℕ) → is_among xs n ≡ is_among ys n = λ n. list_any-IsPermutation (eqb n) xs sorted moved ∙ sym (among_dedup sorted n)
    ∙ ap (λ (l : List ℕ). is_among l n) (sym is) in
    record {
      value = sym (filtered_range (is_among xs) ys 0 (end_of xs) (record {
        sorted = strict;
        from = all_from_among (λ n. 0 ≤ n) ys (λ n there. omega arith);
        below = all_from_among (λ n. n < 0 + end_of xs) ys (λ n there. let less = below_end xs n (same n ∙ there) in omega arith);
      }) (λ n low. same n));
      ascends_is = ascends ys strict;
    }
