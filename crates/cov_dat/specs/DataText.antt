-- The text of a data file.
use Rattle.std.specs.Prelude.{ℕ, List, [], ◌∷◌, ◌++◌, codes, decimal}
use Rattle.std.specs.List.{flat_map}
use Rattle.std.specs.Ordering.{nat_cmp}
use Rattle.std.specs.Cmp.Lexicographic.{slice_cmp}
use Rattle.std.specs.FinMap.{FinMap, entries, from_entries}
use Rattle.cov_dat.specs.DataLine.{header}
use Rattle.cov_dat.specs.Merging.{Counts}

-- a finite map from keys to counts, whose entries stand in byte order of keys
abbrev pub CountMap : Type 0
CountMap = FinMap (slice_cmp nat_cmp) ℕ

-- counts in any order, as a map
abbrev pub count_map : Counts → CountMap
count_map counts = from_entries counts

-- a key and its count as a line
abbrev pub record_text : List ℕ × ℕ → List ℕ
record_text e = codes "C '" ++ e.0 ++ codes "' " ++ decimal e.1 ++ 10 ∷ []

-- the header and a line for each entry
abbrev pub lines_text : Counts → List ℕ
lines_text counts = header ++ 10 ∷ [] ++ flat_map record_text counts

-- the data file of a map: the header, and one record per key in byte order of keys
abbrev pub data_text : CountMap → List ℕ
data_text counts = lines_text (entries counts)
