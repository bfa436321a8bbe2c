-- The lines of source files that counts tell of (docs/formats.md, "Lines").
-- Counts stand here in byte order of their keys.
use Rattle.std.specs.Prelude.{ℕ, ◌+◌, ◌-◌, ◌==◌, ◌&&◌, ◌||◌, min, Bool, false, nat_lt, is_none, is_some, List, [], ◌∷◌, ◌++◌, map, filter, find, length, codes}
use Rattle.std.specs.Prelude.{Option, None, Some, option_and_then, option_to_list, if◌then◌else◌}
use Rattle.std.specs.FinMap.{put}
use Rattle.std.specs.List.{list_any, flat_map, filter_map, range_with_len}
use Rattle.std.specs.Option.{option_map_or}
use Rattle.std.specs.Ordering.{nat_cmp}
use Rattle.std.specs.declared.cmp.Ordering.{Ordering}
use Rattle.std.specs.Str.{bytes_eq}
use Rattle.std.specs.Cmp.Lexicographic.{slice_cmp}
use Rattle.cov_dat.specs.Merging.{Counts}
use Rattle.cov_port.specs.Sums.{total}
use Rattle.cov_dat.specs.KeyFields.{field}
use Rattle.cov_types.specs.declared.line_range.LineRange.{LineRange}
use Rattle.cov_port.specs.LineReading.{line_number, runs_of}

-- a key and its count
abbrev pub Point : Type 0
Point = List ℕ × ℕ

-- the file of a point, if it has one
abbrev pub file_of : Point → Option (List ℕ)
file_of p = field p.0 (codes "f")

abbrev pub is_of_file : List ℕ → Point → Bool
is_of_file file p = option_map_or (bytes_eq file) (file_of p) false

-- the points of a file
abbrev pub points_of : Counts → List ℕ → List Point
points_of counts file = filter (is_of_file file) counts

-- the line of a point, if its `l` is the number of one
abbrev pub line_of : Point → Option ℕ
line_of p = option_and_then line_number (field p.0 (codes "l"))

-- the runs of its line list, if that is one; a point without a list has none
abbrev pub runs_or_none : Option (List ℕ) → Option (List LineRange)
runs_or_none None = Some []
runs_or_none (Some text) = runs_of text

abbrev pub runs_in : Point → Option (List LineRange)
runs_in p = runs_or_none (field p.0 (codes "S"))

-- a point of a file whose line is missing or none, or whose line list is none
abbrev pub is_badly_placed : Point → Bool
is_badly_placed p = is_some (file_of p) && (is_none (line_of p) || is_none (runs_in p))

-- the file of the first such point in byte order of keys
abbrev pub bad_key_line : Counts → Option (List ℕ)
bad_key_line counts = option_and_then file_of (find is_badly_placed counts)

-- the lines of a run, the first and the last included
abbrev pub lines_of_range : LineRange → List ℕ
lines_of_range r = range_with_len r.from (r.to + 1 - r.from)

-- the lines that a point counts towards the limit: those of the runs of its list as written, or 1 without a list
abbrev pub entries_of : Point → ℕ
entries_of p =
    if is_none (file_of p) then 0
    else if is_none (field p.0 (codes "S")) then 1
    else total (map (λ r. length (lines_of_range r)) (option_map_or (λ rs. rs) (runs_in p) []))

abbrev pub line_entries : Counts → ℕ
line_entries counts = total (map entries_of counts)

-- all lines of a point: its own and those of its list
abbrev pub lines_of_point : Point → List ℕ
lines_of_point p = option_to_list (line_of p) ++ flat_map lines_of_range (option_map_or (λ rs. rs) (runs_in p) [])

-- the points that are items of a line of a file
abbrev pub items_of : Counts → List ℕ → ℕ → List Point
items_of counts file n = filter (λ p. list_any (λ m. m == n) (lines_of_point p)) (points_of counts file)

-- each of some things once, in their order
abbrev pub placed : {K : Type 0} → (K → K → Ordering) → List K → List (K × Unit {0})
placed R [] = []
placed R (k ∷ ks) = put R k tt (placed R ks)

abbrev pub in_order : {K : Type 0} → (K → K → Ordering) → List K → List K
in_order R ks = map (λ e. e.0) (placed R ks)

-- the files that have points, in byte order
abbrev pub files_of : Counts → List (List ℕ)
files_of counts = in_order (slice_cmp nat_cmp) (filter_map file_of counts)

-- the lines of a file that have items, ascending
abbrev pub lines_in : Counts → List ℕ → List ℕ
lines_in counts file = in_order nat_cmp (flat_map lines_of_point (points_of counts file))

-- the least of numbers
abbrev pub least : List ℕ → ℕ
least [] = 0
least (n ∷ []) = n
least (n ∷ m ∷ ns) = min n (least (m ∷ ns))

-- the count of a line: the least of its items'
abbrev pub line_count : Counts → List ℕ → ℕ → ℕ
line_count counts file n = least (map (λ (p : Point). p.1) (items_of counts file n))

-- a line is low where its count is below a minimum
abbrev pub is_low : ℕ → Counts → List ℕ → ℕ → Bool
is_low minimum counts file n = nat_lt (line_count counts file n) minimum
