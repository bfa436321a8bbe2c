-- Reading line lists (docs/formats.md, "Points": line lists).
use Rattle.std.specs.Prelude.{◌≡◌, ℕ, ◌<◌, ◌≤◌, ◌==◌, nat_le, length, Bool, true, false, List, [], ◌∷◌, ◌++◌, codes, map, Option, None, Some, if◌then◌else◌}
use Rattle.std.specs.List.{AllByRecursion, after_first, before_first, list_any, slice_split}
use Rattle.std.specs.Option.{option_map}
use Rattle.cov_port.specs.Decimal.{decimal_of}
use Rattle.cov_types.specs.LineLists.{lines_text, range_text}
use Rattle.cov_types.specs.declared.line_range.LineRange.{LineRange}

-- 1 is the least number of a line
abbrev pub if_positive : Option ℕ → Option ℕ
if_positive None = None
if_positive (Some n) = if nat_le 1 n then Some n else None

-- the number of a line: 1 to 4,194,304, as `read_dec` reads it
abbrev pub line_number : List ℕ → Option ℕ
line_number text = if_positive (decimal_of text 4194304)

-- a run that doesn't descend
abbrev pub run_between : Option ℕ → Option ℕ → Option LineRange
run_between None to = None
run_between (Some from) None = None
run_between (Some from) (Some to) = if nat_le from to then Some (record { from = from; to = to }) else None

-- a run is one number, or two with `-` between
abbrev pub run_of : List ℕ → Option LineRange
run_of text =
    if list_any (λ b. b == 45) text
    then run_between (line_number (before_first (λ b. b == 45) text)) (line_number (after_first (λ b. b == 45) text))
    else run_between (line_number text) (line_number text)

-- all of them, if all are there
abbrev pub all_there : {A : Type 0} → List (Option A) → Option (List A)
all_there [] = Some []
all_there (None ∷ rest) = None
all_there (Some a ∷ rest) = option_map (λ more. a ∷ more) (all_there rest)

-- the runs of a line list as written: one or more, with commas between
abbrev pub runs_of : List ℕ → Option (List LineRange)
runs_of text = all_there (map run_of (slice_split (λ b. b == 44) text))

-- a text with a run behind it, and a comma between where the run isn't the first
abbrev pub with_run : List ℕ → Bool → LineRange → List ℕ
with_run text true range = text ++ range_text range
with_run text false range = (text ++ codes ",") ++ range_text range

-- a run that can be read: it doesn't descend, and its numbers are those of lines
pub record MayBeRead (r : LineRange) : Type 0 where
  pub first : 1 ≤ r.from
  pub order : r.from ≤ r.to
  pub last : r.to ≤ 4194304

-- the text of such runs is read as these runs
abbrev pub ReadsAgain : Type 0
ReadsAgain = (rs : List LineRange) → 0 < length rs → AllByRecursion MayBeRead rs → runs_of (lines_text rs) ≡ Some rs
