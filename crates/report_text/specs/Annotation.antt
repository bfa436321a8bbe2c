-- The text of an annotated file (docs/formats.md, "Text of an annotated file").
use Rattle.std.specs.Prelude.{ℕ, ◌-◌, ◌==◌, Bool, nat_lt, List, [], ◌∷◌, ◌++◌, filter, length, replicate, codes, decimal, Option, None, Some, if◌then◌else◌}
use Rattle.std.specs.List.{list_any, flat_map, enumerate_from}
use Rattle.std.specs.Option.{option_map_or}
use Rattle.cov_port.specs.Lines.{Line, lines_of}
use Rattle.cov_dat.specs.Merging.{Counts}
use Rattle.cov_dat.specs.KeyFields.{field_or_empty, kind}
use Rattle.report_text.specs.Items.{Point, points_of, items_of, line_of, lines_in, line_count, is_low}

-- a count with at least six digits
abbrev pub six_digits : ℕ → List ℕ
six_digits n = replicate (6 - length (decimal n)) 48 ++ decimal n

-- a line with items: whether it is low, its count, and its text
abbrev pub counted_line : Bool → ℕ → List ℕ → List ℕ
counted_line low count text = (if low then codes "%" else codes " ") ++ six_digits count ++ 9 ∷ text ++ 10 ∷ []

abbrev pub plain_line : List ℕ → List ℕ
plain_line text = 9 ∷ text ++ 10 ∷ []

-- a point as a line: whether it is below the minimum, its count, type, comment and hierarchy
abbrev pub point_line : ℕ → Point → List ℕ
point_line minimum p =
    (if nat_lt p.1 minimum then codes "-" else codes "+") ++ six_digits p.1 ++ 9 ∷ codes "point: type=" ++ kind p.0
    ++ codes " comment=" ++ field_or_empty p.0 (codes "o") ++ codes " hier=" ++ field_or_empty p.0 (codes "h") ++ 10 ∷ []

-- the points whose own line this is, in byte order of keys
abbrev pub points_at : Counts → List ℕ → ℕ → List Point
points_at counts file n = filter (λ p. option_map_or (λ m. m == n) (line_of p) (nat_lt 1 0)) (points_of counts file)

-- how reports are made: the minimum of a line that isn't low, whether all files are annotated, and whether points follow their lines
pub record Options : Type 0 where
  pub minimum : ℕ
  pub all : Bool
  pub points : Bool

-- a source line and what follows it
abbrev pub source_line : Options → Counts → List ℕ → ℕ × Line → List ℕ
source_line options counts file l =
    (if nat_lt 0 (length (items_of counts file l.0)) then counted_line (is_low options.minimum counts file l.0) (line_count counts file l.0) l.1.0 else
    plain_line l.1.0)
    ++ (if options.points then flat_map (point_line options.minimum) (points_at counts file l.0) else [])

-- the text of an annotated file
abbrev pub annotated_text : Options → Counts → List ℕ → List ℕ → List ℕ
annotated_text options counts file source =
    9 ∷ codes "// vcov annotation" ++ 10 ∷ flat_map (source_line options counts file) (enumerate_from 1 (lines_of source))

-- the number of lines of a source that lacks a line with items
abbrev pub short_source : Counts → List ℕ → List ℕ → Option ℕ
short_source counts file source =
    if list_any (λ n. nat_lt (length (lines_of source)) n) (lines_in counts file) then Some (length (lines_of source)) else None
