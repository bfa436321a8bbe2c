-- The total line (docs/formats.md, "Total").
use Rattle.std.specs.Prelude.{ℕ, ◌*◌, ◌/◌, ◌%◌, ◌==◌, not, List, [], ◌∷◌, ◌++◌, map, filter, length, codes, decimal, if◌then◌else◌}
use Rattle.cov_dat.specs.Merging.{Counts}
use Rattle.cov_port.specs.Sums.{total}
use Rattle.report_text.specs.Items.{files_of, lines_in, is_low}

-- how many lines have items, and how many of these aren't low
abbrev pub all_lines : Counts → ℕ
all_lines counts = total (map (λ file. length (lines_in counts file)) (files_of counts))

abbrev pub reached_lines : ℕ → Counts → ℕ
reached_lines minimum counts = total (map (λ file. length (filter (λ n. not (is_low minimum counts file n)) (lines_in counts file))) (files_of counts))

-- a hundred times a part of a whole, in hundredths, cut; nothing of nothing is 0
abbrev pub hundredths : ℕ → ℕ → ℕ
hundredths part whole = if whole == 0 then 0 else part * 10000 / whole

-- a number of hundredths with two decimals
abbrev pub two_decimals : ℕ → List ℕ
two_decimals n = decimal (n / 100) ++ codes "." ++ decimal (n % 100 / 10) ++ decimal (n % 10)

-- `Total coverage (A/B) P%`
abbrev pub total_line : ℕ → ℕ → List ℕ
total_line part whole =
    codes "Total coverage (" ++ decimal part ++ codes "/" ++ decimal whole ++ codes ") " ++ two_decimals (hundredths part whole) ++ codes "%" ++ 10 ∷ []

abbrev pub total_text : ℕ → Counts → List ℕ
total_text minimum counts = total_line (reached_lines minimum counts) (all_lines counts)
