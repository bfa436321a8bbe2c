-- Which tests a ranking chooses, and its table (docs/formats.md, "Ranking").
use Rattle.std.specs.Prelude.{◌≡◌, ℕ, ◌+◌, ◌<◌, ◌≤◌, Bool, not, nat_eq, nat_lt, List, [], ◌∷◌, ◌++◌, map, length, filter, codes, decimal, get_or, Option, None}
use Rattle.std.specs.Prelude.{Some, if◌then◌else◌}
use Rattle.std.specs.List.{list_any, flat_map, enumerate_from}
use Rattle.cov_types.specs.declared.limit.LimitName.{LimitName}
use Rattle.cov_types.specs.declared.limit.LimitName.TheVariants.{CoveredPairs}
use Rattle.test_rank.specs.declared.ranking.RankRow.{RankRow}

-- the numbers of the points that each test covers, ascending; tests by their number
abbrev pub Covers : Type 0
Covers = List (List ℕ)

abbrev pub points_of : Covers → ℕ → List ℕ
points_of covers test = get_or covers test []

-- numbers that ascend, so that none stands twice
abbrev pub Ascends : List ℕ → Type 0
Ascends [] = Unit {0}
Ascends (n ∷ []) = Unit {0}
Ascends (n ∷ m ∷ ns) = (n < m) × Ascends (m ∷ ns)

-- how many pairs there are of a test and a point that it covers
abbrev pub pairs_of : Covers → ℕ
pairs_of [] = 0
pairs_of (points ∷ covers) = length points + pairs_of covers

-- the limit that so many pairs pass, if they pass it
abbrev pub limit_passed : Covers → Option LimitName
limit_passed covers = if nat_lt 268435456 (pairs_of covers) then Some CoveredPairs else None

-- whether a number is one of these
abbrev pub is_among : List ℕ → ℕ → Bool
is_among numbers n = list_any (nat_eq n) numbers

-- all points that these tests cover
abbrev pub covered_by : Covers → List ℕ → List ℕ
covered_by covers tests = flat_map (points_of covers) tests

-- the points that a test adds to those of other tests, and their number
abbrev pub added_points : Covers → List ℕ → ℕ → List ℕ
added_points covers tests test = filter (λ p. not (is_among (covered_by covers tests) p)) (points_of covers test)

abbrev pub gain : Covers → List ℕ → ℕ → ℕ
gain covers tests test = length (added_points covers tests test)

-- Behind these tests this one comes next: it adds a point, no test adds more, and no earlier one as many.
pub record ComesNext (covers : Covers) (before : List ℕ) (test : ℕ) : Type 0 where
  pub given : test < length covers
  pub adds : 0 < gain covers before test
  pub most : (other : ℕ) → gain covers before other ≤ gain covers before test
  pub earliest : (other : ℕ) → other < test → gain covers before other < gain covers before test

-- The chosen tests behind others, in order: each comes next behind those before it, and behind the last no test adds a point.
pub data AreChosenBehind (covers : Covers) : List ℕ → List ℕ → Type 0 where
  next : {before tests : List ℕ} {test : ℕ} → ComesNext covers before test → AreChosenBehind covers (before ++ test ∷ []) tests
      → AreChosenBehind covers before (test ∷ tests)
  complete : {before : List ℕ} → ((other : ℕ) → gain covers before other ≡ 0) → AreChosenBehind covers before []

abbrev pub AreChosen : Covers → List ℕ → Type 0
AreChosen covers chosen = AreChosenBehind covers [] chosen

abbrev pub rank_row : Covers → ℕ → ℕ → ℕ → RankRow
rank_row covers test rank points = record { test = test; rank = rank; rank_points = points; covered = length (points_of covers test) }

-- the rows of chosen tests behind others: the last has rank 1, and each before it one more
abbrev pub chosen_rows : Covers → List ℕ → List ℕ → List RankRow
chosen_rows covers before [] = []
chosen_rows covers before (test ∷ tests) = rank_row covers test (length tests + 1) (gain covers before test) ∷ chosen_rows covers (before ++ test ∷ []) tests

-- the rows of the tests that aren't chosen, in the given order
abbrev pub other_rows : Covers → List ℕ → List RankRow
other_rows covers chosen =
    map (λ (t : ℕ × List ℕ). rank_row covers t.0 0 0) (filter (λ (t : ℕ × List ℕ). not (is_among chosen t.0)) (enumerate_from 0 covers))

-- This is the ranking of the tests.
pub record IsRanking (covers : Covers) (rows : List RankRow) : Type 0 where
  pub chosen : List ℕ
  pub are_chosen : AreChosen covers chosen
  pub in_order : rows ≡ chosen_rows covers [] chosen ++ other_rows covers chosen

-- the rows of chosen tests, which have a rank above 0
abbrev pub ranked : List RankRow → List RankRow
ranked rows = filter (λ (r : RankRow). not (nat_eq r.rank 0)) rows

-- a row as a line, with the test's name
abbrev pub row_line : List (List ℕ) → RankRow → List ℕ
row_line names r = decimal r.rank ++ codes " " ++ decimal r.rank_points ++ codes " " ++ decimal r.covered ++ codes " " ++ get_or names r.test [] ++ 10 ∷ []

-- the table of a ranking
abbrev pub rank_text : List (List ℕ) → List RankRow → List ℕ
rank_text names rows = codes "Rank RankPts Covered Test" ++ 10 ∷ flat_map (row_line names) rows
