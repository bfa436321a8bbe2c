-- Private: numbers in ascending order, each once.
use Rattle.std.specs.Prelude.{ℕ, ◌+◌, max, List, [], ◌∷◌, filter}
use Rattle.std.specs.List.{range_with_len}
use Rattle.test_rank.specs.Ranking.{is_among}

-- the least number above all of these
abbrev pub end_of : List ℕ → ℕ
end_of [] = 0
end_of (n ∷ ns) = max (n + 1) (end_of ns)

-- these numbers, ascending, and each once
unfoldable pub ascending : List ℕ → List ℕ
ascending numbers = filter (is_among numbers) (range_with_len 0 (end_of numbers))
