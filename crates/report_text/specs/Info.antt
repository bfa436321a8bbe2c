-- The info file (docs/formats.md, "Info file"; the lines are those of lcov's geninfo).
use Rattle.std.specs.Prelude.{ℕ, List, [], ◌∷◌, ◌++◌, filter, codes, decimal}
use Rattle.std.specs.List.{flat_map, enumerate_from}
use Rattle.std.specs.Str.{bytes_eq}
use Rattle.cov_dat.specs.Merging.{Counts}
use Rattle.cov_dat.specs.KeyFields.{kind}
use Rattle.report_text.specs.Items.{Point, files_of, lines_in, line_count}
use Rattle.report_text.specs.Annotation.{points_at}

-- `DA:line,count`
abbrev pub count_line : ℕ → ℕ → List ℕ
count_line n count = codes "DA:" ++ decimal n ++ codes "," ++ decimal count ++ 10 ∷ []

abbrev pub count_lines : Counts → List ℕ → List ℕ
count_lines counts file = flat_map (λ n. count_line n (line_count counts file n)) (lines_in counts file)

-- the branch points whose own line this is, in byte order of keys
abbrev pub branches_at : Counts → List ℕ → ℕ → List Point
branches_at counts file n = filter (λ (p : Point). bytes_eq (kind p.0) (codes "branch")) (points_at counts file n)

-- `BRDA:line,0,k,count`, where k numbers the branch points of the line from 0
abbrev pub branch_line : ℕ → ℕ → ℕ → List ℕ
branch_line n k count = codes "BRDA:" ++ decimal n ++ codes ",0," ++ decimal k ++ codes "," ++ decimal count ++ 10 ∷ []

abbrev pub branch_lines : Counts → List ℕ → ℕ → List ℕ
branch_lines counts file n = flat_map (λ (b : ℕ × Point). branch_line n b.0 b.1.1) (enumerate_from 0 (branches_at counts file n))

-- the lines of a file
abbrev pub file_text : Counts → List ℕ → List ℕ
file_text counts file =
    codes "SF:" ++ file ++ 10 ∷ count_lines counts file
    ++ flat_map (branch_lines counts file) (lines_in counts file) ++ codes "end_of_record" ++ 10 ∷ []

-- the info text of all files with items, in byte order
abbrev pub info_text : Counts → List ℕ
info_text counts = codes "TN:vcov" ++ 10 ∷ flat_map (file_text counts) (files_of counts)
