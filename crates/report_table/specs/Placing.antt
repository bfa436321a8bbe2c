-- Private: how many lines a key counts towards the limit, counted up to one past it.
use Rattle.std.specs.Prelude.{ℕ, min, List, map, length, Option, None, Some, option_map, if◌then◌else◌}
use Rattle.cov_types.specs.declared.line_range.LineRange.{LineRange}
use Rattle.report_text.specs.Items.{file_of, is_badly_placed, entries_of, lines_of_range}
use Rattle.report_text.specs.declared.report_fault.ReportFault.{ReportFault}
use Rattle.report_text.specs.declared.report_fault.ReportFault.TheVariants as fault

-- a number, or one past the limit where it is greater
abbrev pub capped : ℕ → ℕ
capped n = min n 67108865

-- the lengths of runs
abbrev pub run_lengths : List LineRange → List ℕ
run_lengths rs = map (λ r. length (lines_of_range r)) rs

-- what a key counts, if it isn't badly placed
abbrev pub entries_if_placed : List ℕ → Option ℕ
entries_if_placed key = if is_badly_placed (key, 0) then None else Some (capped (entries_of (key, 0)))

-- the fault of a badly placed key
abbrev pub bad_line_of : List ℕ → Option ReportFault
bad_line_of key = option_map fault.BadKeyLine (file_of (key, 0))
