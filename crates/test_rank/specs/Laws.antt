-- Laws of rankings.
use Rattle.std.specs.Prelude.{◌≡◌, ℕ, true, List}
use Rattle.std.specs.List.{flat_map}
use Rattle.test_rank.specs.declared.ranking.RankRow.{RankRow}
use Rattle.test_rank.specs.Ranking.{Covers, points_of, is_among, ranked, IsRanking}

-- each point that some test covers is covered by a chosen test
abbrev pub ReachesAll : Covers → List RankRow → Type 0
ReachesAll covers rows = (test point : ℕ) → is_among (points_of covers test) point ≡ true
    → is_among (flat_map (λ (r : RankRow). points_of covers r.test) (ranked rows)) point ≡ true

-- tests have one ranking
abbrev pub OneRanking : Type 0
OneRanking = (covers : Covers) (rows others : List RankRow) → IsRanking covers rows → IsRanking covers others → rows ≡ others
