use Rattle.std.proofs.Common.{◌≡◌, ◌≢◌, ℕ, zero, suc, ◌+◌, ◌<◌, ◌≤◌, true, false, cond, ◌||◌, eqb, ltb, length, get_or, set, take, List, [], ◌∷◌, ◌++◌, filter}
use Rattle.std.proofs.Common.{arith, add-one, get_or-set_other, get_or-set_same, refl, sym, ◌∙◌, ap, subst, ⊎_elim}
use Rattle.std.proofs.Math.Seq.{take-suc}
use Rattle.std.proofs.lemmas.Bool.{cases_lt, false≢true, true≢false}
use Rattle.std.proofs.lemmas.Bool.Decides.{nat_tests}
use Rattle.test_rank.specs.Ranking.{Covers, points_of, is_among}
use Rattle.test_rank.specs.Counting.{count, tests_at, IsIndex, HasAdded}

-- a number is itself
pub eqb-same : (n : ℕ) → eqb n n ≡ true
eqb-same n = grind (arith, nat_tests)

pub eqb-other : (n m : ℕ) → n ≢ m → eqb n m ≡ false
eqb-other n m h = grind (arith, nat_tests)

pub eqb-is : (n m : ℕ) → eqb n m ≡ true → n ≡ m
eqb-is n m h = grind (arith, nat_tests)

pub count-append : (n : ℕ) (xs ys : List ℕ) → count n (xs ++ ys) ≡ count n xs + count n ys
count-append n [] ys = omega arith
count-append n (x ∷ xs) ys = let rest = count-append n xs ys in omega arith

-- what a list keeps below an end
pub count-below : (end n : ℕ) (xs : List ℕ) → n < end → count n (filter (λ t. ltb t end) xs) ≡ count n xs
count-below end n [] h = refl
count-below end n (x ∷ xs) h =
    let rest = count-below end n xs h in
    elim (ltb x end) as (λ t. ltb x end ≡ t → count n (cond t (x ∷ filter (λ t. ltb t end) xs) (filter (λ t. ltb t end) xs))
    ≡ cond (eqb n x) 1 0 + count n xs) [
      | true ↦ λ e. omega arith
      | false ↦ λ e. let ne : n ≢ x = λ same. false≢true (sym e
          ∙ (subst (λ (k : ℕ). ltb k end ≡ true) same (let l : ltb n end ≡ true = grind (arith, nat_tests) in l))) in
          rw (eqb-other n x ne) (omega arith)
    ] refl

pub count-gone : (end n : ℕ) (xs : List ℕ) → end ≤ n → count n (filter (λ t. ltb t end) xs) ≡ 0
count-gone end n [] h = refl
count-gone end n (x ∷ xs) h =
    let rest = count-gone end n xs h in
    elim (ltb x end) as (λ t. ltb x end ≡ t → count n (cond t (x ∷ filter (λ t. ltb t end) xs) (filter (λ t. ltb t end) xs)) ≡ 0) [
      | true ↦ λ e. let ne : n ≢ x = λ same. true≢false (sym e
          ∙ (subst (λ (k : ℕ). ltb k end ≡ false) same (let l : ltb n end ≡ false = grind (arith, nat_tests) in l))) in
          rw (eqb-other n x ne) (omega arith)
      | false ↦ λ e. omega arith
    ] refl

-- what stands in a list counts there
pub count-here : (xs : List ℕ) (k : ℕ) → k < length xs → 0 < count (get_or xs k 0) xs
count-here [] k h = absurd (omega arith)
count-here (x ∷ xs) zero h = rw (eqb-same x) (omega arith)
count-here (x ∷ xs) (suc k) h = let rest = count-here xs k (omega arith) in omega arith

pub among-counts : (xs : List ℕ) (n : ℕ) → is_among xs n ≡ true → 0 < count n xs
among-counts [] n h = absurd (false≢true h)
among-counts (x ∷ xs) n h =
    elim (eqb n x) as (λ t. (t || is_among xs n) ≡ true → 0 < cond t 1 0 + count n xs) [
      | true ↦ λ e. omega arith
      | false ↦ λ e. let rest = among-counts xs n e in omega arith
    ] h

pub counts-among : (xs : List ℕ) (n : ℕ) → 0 < count n xs → is_among xs n ≡ true
counts-among [] n h = absurd (omega arith)
counts-among (x ∷ xs) n h =
    elim (eqb n x) as (λ t. 0 < cond t 1 0 + count n xs → (t || is_among xs n) ≡ true) [
      | true ↦ λ e. refl
      | false ↦ λ e. counts-among xs n (omega arith)
    ] h

-- one element more
pub count-pushed : (n : ℕ) (xs : List ℕ) (x : ℕ) → count n (xs ++ x ∷ []) ≡ count n xs + cond (eqb n x) 1 0
count-pushed n xs x = count-append n xs (x ∷ []) ∙ omega arith

-- one list more at the end, or one list in place of another
pub get_or-past : (xss : List (List ℕ)) (k : ℕ) → length xss ≤ k → get_or xss k [] ≡ []
get_or-past [] k h = refl
get_or-past (xs ∷ xss) zero h = absurd (omega arith)
get_or-past (xs ∷ xss) (suc k) h = get_or-past xss k (omega arith)

pub get_or-before : (xss : List (List ℕ)) (ys : List ℕ) (k : ℕ) → k < length xss → get_or (xss ++ ys ∷ []) k [] ≡ get_or xss k []
get_or-before [] ys k h = absurd (omega arith)
get_or-before (xs ∷ xss) ys zero h = refl
get_or-before (xs ∷ xss) ys (suc k) h = get_or-before xss ys k (omega arith)

pub get_or-last : (xss : List (List ℕ)) (ys : List ℕ) (k : ℕ) → k ≡ length xss → get_or (xss ++ ys ∷ []) k [] ≡ ys
get_or-last [] ys zero h = refl
get_or-last [] ys (suc k) h = absurd (omega arith)
get_or-last (xs ∷ xss) ys zero h = absurd (omega arith)
get_or-last (xs ∷ xss) ys (suc k) h = get_or-last xss ys k (omega arith)

-- an empty list at the end adds nothing
pub get_or-empty_pushed : (xss : List (List ℕ)) (k : ℕ) → get_or (xss ++ [] ∷ []) k [] ≡ get_or xss k []
get_or-empty_pushed [] zero = refl
get_or-empty_pushed [] (suc k) = refl
get_or-empty_pushed (xs ∷ xss) zero = refl
get_or-empty_pushed (xs ∷ xss) (suc k) = get_or-empty_pushed xss k

-- where a test counts at a point, the point is below the length of the index
pub point-within : (covers : Covers) (index : List (List ℕ)) (test point : ℕ) → IsIndex covers index → 0 < count point (points_of covers test)
    → point < length index
point-within covers index test point is h =
    let at = is test point in
    ⊎_elim (λ (l : point < length index). l) (λ (l : length index ≤ point). let none = ap (count test) (get_or-past index point l) in
    absurd (omega arith)) (cases_lt point (length index))

-- an index with a test more at each point of a list
pub added-none : (test : ℕ) (old : List (List ℕ)) → HasAdded test [] old old
added-none test old t p = elim (eqb t test) as (λ b. count t (tests_at old p)
    ≡ count t (tests_at old p) + cond b 0 0) [ true ↦ omega arith | false ↦ omega arith ]

pub added-same : (test : ℕ) (points : List ℕ) (old mid new : List (List ℕ)) → HasAdded test points old mid → ((p : ℕ) → tests_at new p ≡ tests_at mid p)
    → HasAdded test points old new
added-same test points old mid new has same t p = ap (count t) (same p) ∙ has t p

pub added-more : (test : ℕ) (points : List ℕ) (point : ℕ) (old mid new : List (List ℕ)) → HasAdded test points old mid → HasAdded test (point ∷ []) mid new
    → HasAdded test (points ++ point ∷ []) old new
added-more test points point old mid new has more t p =
    let a = has t p in
    let b = more t p in
    let joined = count-append p points (point ∷ []) in
    b ∙ ap (λ (n : ℕ). n + cond (eqb t test) (count p (point ∷ [])) 0) a
    ∙ elim (eqb t test) as (λ q. count t (tests_at old p) + cond q (count p points) 0 + cond q (count p (point ∷ [])) 0
    ≡ count t (tests_at old p) + cond q (count p (points ++ point ∷ [])) 0) [
      | true ↦ omega arith
      | false ↦ omega arith
    ]

pub added-others : (test : ℕ) (points : List ℕ) (old new : List (List ℕ)) → HasAdded test points old new → (t p : ℕ) → t ≢ test
    → count t (tests_at new p) ≡ count t (tests_at old p)
added-others test points old new has t p ne = has t p ∙ (rw (eqb-other t test ne) (omega arith))

-- one list in place of another
pub get_or-set_lists : (xss : List (List ℕ)) (k j : ℕ) (ys : List ℕ) → k < length xss → get_or (set xss k ys) j [] ≡ cond (eqb j k) ys (get_or xss j [])
get_or-set_lists xss k j ys h =
    elim (eqb j k) as (λ b. eqb j k ≡ b → get_or (set xss k ys) j [] ≡ cond b ys (get_or xss j [])) [
      | true ↦ λ e. ap (λ (i : ℕ). get_or (set xss k ys) i []) (eqb-is j k e) ∙ get_or-set_same xss k ys [] h
      | false ↦ λ e. let ne : j ≢ k = λ same. false≢true (sym e ∙ ap (λ (i : ℕ). eqb i k) same ∙ eqb-same k) in get_or-set_other xss k j ys [] ne
    ] refl

pub put-added : (index : List (List ℕ)) (point test : ℕ) → point < length index
    → HasAdded test (point ∷ []) index (set index point (tests_at index point ++ test ∷ []))
put-added index point test within t p =
    ap (count t) (get_or-set_lists index point p (tests_at index point ++ test ∷ []) within)
    ∙ elim (eqb p point) as (λ b. eqb p point ≡ b → count t (cond b (tests_at index point ++ test ∷ []) (tests_at index p))
    ≡ count t (tests_at index p) + cond (eqb t test) (cond b 1 0 + 0) 0) [
      | true ↦ λ e. count-pushed t (tests_at index point) test ∙ ap (λ (k : ℕ). count t (tests_at index k) + cond (eqb t test) 1 0) (sym (eqb-is p point e))
      | false ↦ λ e. elim (eqb t test) as (λ b. count t (tests_at index p)
          ≡ count t (tests_at index p) + cond b 0 0) [ true ↦ omega arith | false ↦ omega arith ]
    ] refl

-- in front of a place a number stands less often than in the whole
pub count-front : (xs : List ℕ) (k : ℕ) → k < length xs → count (get_or xs k 0) (take k xs) < count (get_or xs k 0) xs
count-front [] k h = absurd (omega arith)
count-front (x ∷ xs) zero h = rw (eqb-same x) (omega arith)
count-front (x ∷ xs) (suc k) h = let rest = count-front xs k (omega arith) in omega arith

-- one place further
pub count-take_more : (n : ℕ) (xs : List ℕ) (k : ℕ) → k < length xs → count n (take (k + 1) xs) ≡ count n (take k xs) + cond (eqb n (get_or xs k 0)) 1 0
count-take_more n xs k h = ap (λ (m : ℕ). count n (take m xs)) (add-one k) ∙ ap (count n) (take-suc xs k 0 h) ∙ count-pushed n (take k xs) (get_or xs k 0)

pub length_pushed : (xss : List (List ℕ)) (ys : List ℕ) → length (xss ++ ys ∷ []) ≡ length xss + 1
length_pushed [] ys = refl
length_pushed (xs ∷ xss) ys = let rest = length_pushed xss ys in omega arith

-- the index of a test more
pub index-pushed : (covers : Covers) (points : List ℕ) (old new : List (List ℕ)) → IsIndex covers old → HasAdded (length covers) points old new
    → IsIndex (covers ++ points ∷ []) new
index-pushed covers points old new is has t p =
    has t p ∙ ap (λ (n : ℕ). n + cond (eqb t (length covers)) (count p points) 0) (is t p)
    ∙ ⊎_elim (λ (l : t < length covers). let ne : t ≢ length covers = λ e. absurd (omega arith) in
    rw (eqb-other t (length covers) ne, get_or-before covers points t l) (omega arith))
    (λ (ge : length covers ≤ t). elim (eqb t (length covers)) as (λ b. eqb t (length covers) ≡ b
    → count p (points_of covers t) + cond b (count p points) 0 ≡ count p (points_of (covers ++ points ∷ []) t)) [
      | true ↦ λ e. rw (get_or-past covers t ge, get_or-last covers points t (eqb-is t (length covers) e)) (omega arith)
      | false ↦ λ e. let ne : t ≢ length covers = λ same. false≢true (sym e ∙ ap (λ (k : ℕ). eqb k (length covers)) same ∙ eqb-same (length covers)) in
          let past : length (covers ++ points ∷ []) ≤ t = let one = length_pushed covers points in omega arith in
          rw (get_or-past covers t ge, get_or-past (covers ++ points ∷ []) t past) refl
    ] refl)
    (cases_lt t (length covers))

-- no test from the number of tests on stands in the index
pub index-free : (covers : Covers) (index : List (List ℕ)) → IsIndex covers index → (t p : ℕ) → length covers ≤ t → count t (tests_at index p) ≡ 0
index-free covers index is t p ge = is t p ∙ ap (count p) (get_or-past covers t ge)

-- an index that answers alike is one of the same tests
pub index-same : (covers : Covers) (old new : List (List ℕ)) → IsIndex covers old → ((t p : ℕ) → count t (tests_at new p) ≡ count t (tests_at old p))
    → IsIndex covers new
index-same covers old new is same t p = same t p ∙ is t p
