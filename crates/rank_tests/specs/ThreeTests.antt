-- Three tests: the first covers the points 1, 2 and 3, the second 3 and 4, the third 1 and 2.
use Rattle.std.specs.Prelude.{ℕ, List, [], ◌∷◌, ◌++◌}
use Rattle.test_rank.specs.declared.ranking.RankRow.{RankRow}
use Rattle.test_rank.specs.Ranking.{Covers, chosen_rows, other_rows}

abbrev pub three_covers : Covers
three_covers = (1 ∷ 2 ∷ 3 ∷ []) ∷ (3 ∷ 4 ∷ []) ∷ (1 ∷ 2 ∷ []) ∷ []

-- the first and the second are chosen
abbrev pub three_rows : List RankRow
three_rows = chosen_rows three_covers [] (0 ∷ 1 ∷ []) ++ other_rows three_covers (0 ∷ 1 ∷ [])
