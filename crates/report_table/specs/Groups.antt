-- Private: the groups of points.
use Rattle.std.specs.Prelude.{ℕ, ◌==◌, Bool, false, List}
use Rattle.std.specs.Option.{option_map_or}
use Rattle.report_text.specs.Items.{is_of_file, line_of}
use Rattle.report_table.specs.declared.data_point.DataPoint.{DataPoint}
use Rattle.report_table.specs.Seen.{seen_point}

-- the points of a file
abbrev pub of_file : List ℕ → DataPoint → Bool
of_file file p = is_of_file file (seen_point p)

-- the points whose own line this is
abbrev pub at_line : ℕ → DataPoint → Bool
at_line n p = option_map_or (λ m. m == n) (line_of (seen_point p)) false
