-- Words for tests that are chosen one after the other.
use Rattle.std.specs.Prelude.{ℕ, ◌+◌, Bool, not, List, [], ◌∷◌, ◌++◌, map, length, filter}
use Rattle.std.specs.List.{enumerate_from}
use Rattle.test_rank.specs.declared.choose.Pick.{Pick}
use Rattle.test_rank.specs.declared.ranking.RankRow.{RankRow}
use Rattle.test_rank.specs.Ranking.{Covers, AreChosenBehind, AreChosen, gain, rank_row}

abbrev pub pick : ℕ → ℕ → Pick
pick test points = record { test = test; points = points }

-- the picked tests
abbrev pub tests_of : List Pick → List ℕ
tests_of picks = map (λ (p : Pick). p.test) picks

-- tests with the points that each adds to those before it
abbrev pub picks_behind : Covers → List ℕ → List ℕ → List Pick
picks_behind covers before [] = []
picks_behind covers before (test ∷ tests) = pick test (gain covers before test) ∷ picks_behind covers (before ++ test ∷ []) tests

-- tests that come next behind these make with them the chosen tests
abbrev pub BeginsChosen : Covers → List ℕ → Type 0
BeginsChosen covers begun = (rest : List ℕ) → AreChosenBehind covers begun rest → AreChosen covers (begun ++ rest)

-- the rows of picked tests, of which the last has rank 1
abbrev pub picked_rows : Covers → List Pick → List RankRow
picked_rows covers [] = []
picked_rows covers (p ∷ ps) = rank_row covers p.test (length ps + 1) p.points ∷ picked_rows covers ps

-- the rows of the tests from a number on that aren't chosen
abbrev pub unchosen_rows : Covers → (ℕ → Bool) → ℕ → List (List ℕ) → List RankRow
unchosen_rows covers chosen n rest =
    map (λ (t : ℕ × List ℕ). rank_row covers t.0 0 0) (filter (λ (t : ℕ × List ℕ). not (chosen t.0)) (enumerate_from n rest))
