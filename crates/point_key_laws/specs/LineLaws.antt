-- What line lists tell.
use Rattle.std.specs.Prelude.{◌≡◌, ℕ, ◌<◌, ◌≤◌, ◌^◌, ◌↔◌, List}
use Rattle.std.specs.List.{AllByRecursion}
use Rattle.cov_types.specs.declared.line_range.LineRange.{LineRange}
use Rattle.cov_types.specs.LineLists.{AreRuns, IsInRuns, lines_text}

-- Lists of runs that have the same numbers are one list: what `OneLineList` says of a set, of the set's two lists alone.
abbrev pub RunsTellLists : Type 0
RunsTellLists = (rs qs : List LineRange) → AreRuns rs → AreRuns qs → ((n : ℕ) → IsInRuns rs n ↔ IsInRuns qs n) → rs ≡ qs

-- a range that can be written: it doesn't descend, and its numbers are below 2 ^ 64
pub record MayBeWritten (r : LineRange) : Type 0 where
  pub order : r.from ≤ r.to
  pub last : r.to < 2 ^ 64

-- lists of such ranges with one text are one list
abbrev pub TextTellsLists : Type 0
TextTellsLists = (rs qs : List LineRange) → AllByRecursion MayBeWritten rs → AllByRecursion MayBeWritten qs → lines_text rs ≡ lines_text qs → rs ≡ qs
