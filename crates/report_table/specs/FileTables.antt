-- Private: the table of a file, from its points alone.
use Rattle.std.specs.Prelude.{ℕ, ◌==◌, nat_lt, List, map, filter}
use Rattle.std.specs.List.{flat_map, list_any}
use Rattle.std.specs.Option.{option_map_or}
use Rattle.std.specs.Ordering.{nat_cmp}
use Rattle.cov_dat.specs.Merging.{Counts}
use Rattle.report_text.specs.Items.{Point, in_order, least, line_of, lines_of_point}
use Rattle.report_text.specs.Tables.{PlacedPoint, Table, placed_at, seen_point}
use Rattle.report_text.specs.declared.file_table.CountedLine.{CountedLine}
use Rattle.report_text.specs.declared.file_table.LinePoint.{LinePoint}

-- the lines of points, ascending
abbrev pub lines_of_points : Counts → List ℕ
lines_of_points ps = in_order nat_cmp (flat_map lines_of_point ps)

abbrev pub counted_in_points : Counts → ℕ → CountedLine
counted_in_points ps n = record { line = n; count = least (map (λ (p : Point). p.1) (filter (λ p. list_any (λ m. m == n) (lines_of_point p)) ps)) }

abbrev pub lines_table : Counts → List CountedLine
lines_table ps = map (counted_in_points ps) (lines_of_points ps)

-- the points whose own line this is
abbrev pub placed_in : Counts → ℕ → List PlacedPoint
placed_in ps n = map (placed_at n) (filter (λ p. option_map_or (λ m. m == n) (line_of p) (nat_lt 1 0)) ps)

abbrev pub table_of_points : List ℕ → Counts → Table
table_of_points name ps = record { name = name; lines = lines_table ps; points = flat_map (placed_in ps) (lines_of_points ps) }

-- the entries of a map as lines
abbrev pub counted_in : List (ℕ × ℕ) → List CountedLine
counted_in es = map (λ e. record { line = e.0; count = e.1 }) es

-- the numbers of lines
abbrev pub numbers_of : List CountedLine → List ℕ
numbers_of ls = map (λ l. l.line) ls

abbrev pub seen_placed : List LinePoint → List PlacedPoint
seen_placed ps = map seen_point ps
