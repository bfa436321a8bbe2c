-- Words for the parts of a ranking: what is counted, and which tests stand at a point.
use Rattle.std.specs.Prelude.{◌≡◌, ℕ, ◌+◌, Bool, false, not, nat_eq, List, [], ◌∷◌, length, filter, get_or, if◌then◌else◌}
use Rattle.test_rank.specs.Ranking.{Covers, points_of}

-- how often a number stands among these
abbrev pub count : ℕ → List ℕ → ℕ
count n [] = 0
count n (x ∷ xs) = (if nat_eq n x then 1 else 0) + count n xs

-- the sum of numbers
abbrev pub total : List ℕ → ℕ
total [] = 0
total (n ∷ ns) = n + total ns

-- whether a number is marked
abbrev pub marked : List Bool → ℕ → Bool
marked marks n = get_or marks n false

-- how many of these aren't covered
abbrev pub uncovered : (ℕ → Bool) → List ℕ → ℕ
uncovered covered points = length (filter (λ p. not (covered p)) points)

-- the tests that stand at a point
abbrev pub tests_at : List (List ℕ) → ℕ → List ℕ
tests_at index point = get_or index point []

-- a test stands at a point as often as the point stands among those of the test
abbrev pub IsIndex : Covers → List (List ℕ) → Type 0
IsIndex covers index = (test point : ℕ) → count test (tests_at index point) ≡ count point (points_of covers test)

-- an index with a test more at each of some points
abbrev pub HasAdded : ℕ → List ℕ → List (List ℕ) → List (List ℕ) → Type 0
HasAdded added points old new = (test point : ℕ) → count test (tests_at new point)
    ≡ count test (tests_at old point) + (if nat_eq test added then count point points else 0)

-- these are the numbers of points that each test adds to the covered ones
abbrev pub AreGains : Covers → (ℕ → Bool) → List ℕ → Type 0
AreGains covers covered gains = (test : ℕ) → get_or gains test 0 ≡ uncovered covered (points_of covers test)
