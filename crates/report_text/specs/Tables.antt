-- What reports say of each source file, as a table: its lines with their counts, and its points line by line.
-- Counts stand here in byte order of their keys.
use Rattle.std.specs.Prelude.{ℕ, List, map}
use Rattle.std.specs.List.{flat_map}
use Rattle.std.specs.Borrow.{Bor}
use Rattle.cov_dat.specs.Merging.{Counts}
use Rattle.report_text.specs.Items.{Point, files_of, lines_in, line_count}
use Rattle.report_text.specs.Annotation.{points_at}
use Rattle.report_text.specs.declared.file_table.CountedLine.{CountedLine}
use Rattle.report_text.specs.declared.file_table.LinePoint.{LinePoint}
use Rattle.report_text.specs.declared.file_table.FileTable.{FileTable}

-- a point with the line that it stands at
pub record PlacedPoint : Type 0 where
  pub line : ℕ
  pub key : List ℕ
  pub count : ℕ

-- a source file: its name, its lines that have items, and its points
pub record Table : Type 0 where
  pub name : List ℕ
  pub lines : List CountedLine
  pub points : List PlacedPoint

-- a line of a file with its count
abbrev pub counted : Counts → List ℕ → ℕ → CountedLine
counted counts file n = record { line = n; count = line_count counts file n }

abbrev pub placed_at : ℕ → Point → PlacedPoint
placed_at n p = record { line = n; key = p.0; count = p.1 }

-- the points whose own line this is, in byte order of keys
abbrev pub placed_points : Counts → List ℕ → ℕ → List PlacedPoint
placed_points counts file n = map (placed_at n) (points_at counts file n)

-- the table of a file: its lines ascend, and its points stand line by line, those of a line in byte order of keys
abbrev pub table_of : Counts → List ℕ → Table
table_of counts file = record {
  name = file;
  lines = map (counted counts file) (lines_in counts file);
  points = flat_map (placed_points counts file) (lines_in counts file);
}

-- the tables of all files that have points, in byte order of their names
abbrev pub tables_of : Counts → List Table
tables_of counts = map (table_of counts) (files_of counts)

-- what contracts see of tables that borrow their names and keys
abbrev pub seen_point : LinePoint → PlacedPoint
seen_point p = record { line = p.line; key = p.key.now; count = p.count }

abbrev pub seen_table : FileTable → Table
seen_table t = record { name = t.name.now; lines = t.lines.items; points = map seen_point t.points.items }

abbrev pub seen_tables : List FileTable → List Table
seen_tables ts = map seen_table ts
