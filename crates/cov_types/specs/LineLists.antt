-- Line lists: sets of line numbers, written as runs (this project's own).
use Rattle.std.specs.Prelude.{◌≡◌, ℕ, ◌+◌, ◌<◌, ◌≤◌, ◌==◌, ◌↔◌, List, [], ◌∷◌, ◌++◌, map, Contains, codes, decimal, ⊤, if◌then◌else◌}
use Rattle.cov_types.specs.declared.line_range.LineRange.{LineRange}

-- a run of one number is that number, a longer one its ends with `-` between
abbrev pub range_text : LineRange → List ℕ
range_text r = if r.from == r.to then decimal r.from else decimal r.from ++ codes "-" ++ decimal r.to

-- texts with another between each and the next
abbrev pub separated : List ℕ → List (List ℕ) → List ℕ
separated by [] = []
separated by (t ∷ []) = t
separated by (t ∷ u ∷ ts) = t ++ by ++ separated by (u ∷ ts)

-- the runs with commas between
abbrev pub lines_text : List LineRange → List ℕ
lines_text rs = separated (codes ",") (map range_text rs)

-- the number lies in one of the runs
abbrev pub IsInRuns : List LineRange → ℕ → Type 0
IsInRuns rs n = (r : LineRange) × Contains rs r × (r.from ≤ n) × (n ≤ r.to)

-- ascending maximal runs: none descends, and between two of them at least one number is missing
abbrev pub AreRuns : List LineRange → Type 0
AreRuns [] = ⊤
AreRuns (r ∷ []) = r.from ≤ r.to
AreRuns (r ∷ q ∷ rs) = (r.from ≤ r.to) × (r.to + 1 < q.from) × AreRuns (q ∷ rs)

-- the runs are the line list of a set of numbers: they are ascending and maximal, and have these numbers
pub record IsLineListOf (lines : ℕ → Type 0) (rs : List LineRange) : Type 0 where
  pub runs : AreRuns rs
  pub same : (n : ℕ) → lines n ↔ IsInRuns rs n

-- a set has one line list at most
abbrev pub OneLineList : Type 1
OneLineList = (lines : ℕ → Type 0) (rs qs : List LineRange) → IsLineListOf lines rs → IsLineListOf lines qs → rs ≡ qs
