-- Private: how the texts are made from tables, in one walk over lines and points.
use Rattle.std.specs.Prelude.{ℕ, ◌+◌, ◌==◌, Bool, not, nat_lt, List, [], ◌∷◌, ◌++◌, map, filter, length, codes, if◌then◌else◌}
use Rattle.std.specs.List.{flat_map, enumerate_from}
use Rattle.std.specs.Str.{bytes_eq}
use Rattle.cov_dat.specs.KeyFields.{kind}
use Rattle.cov_port.specs.Lines.{Line}
use Rattle.cov_port.specs.Sums.{total}
use Rattle.report_text.specs.Annotation.{counted_line, plain_line, point_line}
use Rattle.report_text.specs.Info.{branch_line, count_line}
use Rattle.report_text.specs.Tables.{PlacedPoint, Table}
use Rattle.report_text.specs.declared.file_table.CountedLine.{CountedLine}

-- the points at the front that stand at a line
abbrev pub points_here : ℕ → List PlacedPoint → List PlacedPoint
points_here n [] = []
points_here n (p ∷ ps) = if p.line == n then p ∷ points_here n ps else []

-- the points behind them
abbrev pub points_behind : ℕ → List PlacedPoint → List PlacedPoint
points_behind n [] = []
points_behind n (p ∷ ps) = if p.line == n then points_behind n ps else p ∷ ps

-- the lines with items behind a line
abbrev pub lines_behind : ℕ → List CountedLine → List CountedLine
lines_behind n [] = []
lines_behind n (l ∷ ls) = if l.line == n then ls else l ∷ ls

-- ---- annotated sources

-- a source line, where the first of some lines with items tells whether it has some
abbrev pub source_text : ℕ → List CountedLine → ℕ → List ℕ → List ℕ
source_text minimum [] n text = plain_line text
source_text minimum (l ∷ ls) n text = if l.line == n then counted_line (nat_lt l.count minimum) l.count text else plain_line text

abbrev pub placed_line : ℕ → PlacedPoint → List ℕ
placed_line minimum p = point_line minimum (p.key, p.count)

-- points as lines, where they are asked for
abbrev pub points_text : Bool → ℕ → List PlacedPoint → List ℕ
points_text wanted minimum ps = if wanted then flat_map (placed_line minimum) ps else []

-- source lines from a number on
abbrev pub annotated_from : ℕ → Bool → ℕ → List CountedLine → List PlacedPoint → List Line → List ℕ
annotated_from minimum wanted n ls ps [] = []
annotated_from minimum wanted n ls ps (l ∷ source) =
    source_text minimum ls n l.0 ++ points_text wanted minimum (points_here n ps)
    ++ annotated_from minimum wanted (n + 1) (lines_behind n ls) (points_behind n ps) source

-- ---- info files

abbrev pub is_branch : PlacedPoint → Bool
is_branch p = bytes_eq (kind p.key) (codes "branch")

-- the branch points among some points of a line, numbered from a number on
abbrev pub branches_from : ℕ → ℕ → List PlacedPoint → List ℕ
branches_from k n ps = flat_map (λ (b : ℕ × PlacedPoint). branch_line n b.0 b.1.count) (enumerate_from k (filter is_branch ps))

abbrev pub branches_text : List CountedLine → List PlacedPoint → List ℕ
branches_text [] ps = []
branches_text (l ∷ ls) ps = branches_from 0 l.line (points_here l.line ps) ++ branches_text ls (points_behind l.line ps)

abbrev pub counts_text : List CountedLine → List ℕ
counts_text ls = flat_map (λ (l : CountedLine). count_line l.line l.count) ls

-- the lines of a file
abbrev pub table_text : Table → List ℕ
table_text t =
    codes "SF:" ++ t.name ++ 10 ∷ counts_text t.lines ++ branches_text t.lines t.points ++ codes "end_of_record" ++ 10 ∷ []

-- ---- totals

-- how many lines aren't low
abbrev pub reached_in : ℕ → List CountedLine → ℕ
reached_in minimum ls = length (filter (λ (l : CountedLine). not (nat_lt l.count minimum)) ls)

abbrev pub all_reached : ℕ → List Table → ℕ
all_reached minimum ts = total (map (λ (t : Table). reached_in minimum t.lines) ts)

abbrev pub all_counted : List Table → ℕ
all_counted ts = total (map (λ (t : Table). length t.lines) ts)
