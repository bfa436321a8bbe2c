-- A few reports, by computation.
use Rattle.std.specs.Prelude.{◌≡◌, ℕ, true, false, List, [], ◌∷◌, ◌++◌, codes, None, Some, refl}
use Rattle.std.specs.Fmt.{digits}
use Rattle.std.specs.Str.{is_utf8, chars}
use Rattle.std.specs.List.{flat_map}
use Rattle.cov_dat.specs.Merging.{Counts}
use Rattle.cov_dat.specs.KeyFields.{field, kind}
use Rattle.cov_port.specs.LineReading.{runs_of}
use Rattle.cov_types.specs.declared.line_range.LineRange.{LineRange}
use Rattle.report_text.specs.Items.{bad_key_line, line_entries}
use Rattle.report_text.specs.Totals.{total_text}
use Rattle.report_text.specs.FileNames.{annotated_files, bad_file_name, same_base_name}
use Rattle.report_text.specs.Annotation.{Options, annotated_text, short_source}
use Rattle.report_text.specs.Info.{info_text}

abbrev text_of : List (List ℕ) → List ℕ
text_of ls = flat_map (λ l. l ++ 10 ∷ []) ls

abbrev key_of : List (List ℕ × List ℕ) → List ℕ
key_of fields = flat_map (λ f. 1 ∷ f.0 ++ 2 ∷ f.1) fields

-- ---- one source

abbrev s_v : List ℕ → List (List ℕ × List ℕ)
s_v l = (codes "f", codes "s.v") ∷ (codes "l", l) ∷ []

abbrev four : Counts
four =
    (key_of (s_v (codes "1")), 9) ∷ (key_of (s_v (codes "2")), 10) ∷ (key_of (s_v (codes "3")), 9)
    ∷ (key_of (s_v (codes "3") ++ (codes "o", codes "x") ∷ (codes "S", codes "3,2-3") ∷ []), 10) ∷ []

abbrev source : List ℕ
source = text_of (codes "a" ∷ codes "b" ∷ codes "c" ∷ [])

abbrev options : Options
options = record { minimum = 10; all = false; points = false }

total_of_four : total_text 10 four ≡ text_of (codes "Total coverage (1/3) 33.33%" ∷ [])
unfolding digits
total_of_four = refl

info_of_four : info_text four ≡ text_of (codes "TN:vcov" ∷ codes "SF:s.v" ∷ codes "DA:1,9" ∷ codes "DA:2,10" ∷ codes "DA:3,9" ∷ codes "end_of_record" ∷ [])
unfolding digits
info_of_four = refl

annotated_four : annotated_text options four (codes "s.v") source
    ≡ text_of ((9 ∷ codes "// vcov annotation") ∷ (codes "%000009" ++ 9 ∷ codes "a") ∷ (codes " 000010" ++ 9 ∷ codes "b") ∷ (codes "%000009"
    ++ 9 ∷ codes "c") ∷ [])
unfolding digits
annotated_four = refl

-- a line in two runs of a list counts twice
entries_of_four : line_entries four ≡ 6
entries_of_four = refl

files_of_four : annotated_files false 10 four ≡ codes "s.v" ∷ []
files_of_four = refl

nothing : total_text 10 [] ≡ text_of (codes "Total coverage (0/0) 0.00%" ∷ [])
unfolding digits
nothing = refl

-- ---- types

-- a key without type, by its page
page : kind (key_of ((codes "page", codes "v_line/t") ∷ (codes "h", codes "TOP.t") ∷ [])) ≡ codes "line"
page = refl

-- the first field of a name
first_field : field (key_of ((codes "o", codes "x") ∷ (codes "o", codes "y") ∷ [])) (codes "o") ≡ Some (codes "x")
first_field = refl

-- ---- refusals

abbrev low_in : List ℕ → List ℕ × ℕ
low_in file = (key_of ((codes "f", file) ∷ (codes "l", codes "1") ∷ []), 0)

same_base : same_base_name (annotated_files false 10 (low_in (codes "a/s.v") ∷ low_in (codes "b/s.v") ∷ [])) ≡ Some (codes "b/s.v")
same_base = refl

short : short_source ((key_of (s_v (codes "3")), 0) ∷ []) (codes "s.v") (text_of (codes "a" ∷ [])) ≡ Some 1
short = refl

bad_line : bad_key_line ((key_of (s_v (codes "0")), 0) ∷ []) ≡ Some (codes "s.v")
bad_line = refl

no_line : bad_key_line ((key_of ((codes "f", codes "s.v") ∷ []), 0) ∷ []) ≡ Some (codes "s.v")
no_line = refl

-- ---- a point behind its line

with_point : annotated_text (record options { points = true }) ((
  key_of (s_v (codes "1")
      ++ (codes "t", codes "line") ∷ (codes "o", codes "block") ∷ []),
  9,
) ∷ []) (codes "s.v") (text_of (codes "a" ∷ []))
    ≡ text_of ((9 ∷ codes "// vcov annotation") ∷ (codes "%000009" ++ 9 ∷ codes "a") ∷ (codes "-000009"
    ++ 9 ∷ codes "point: type=line comment=block hier=") ∷ [])
unfolding digits
with_point = refl

-- ---- line lists

abbrev run : ℕ → ℕ → LineRange
run from to = record { from = from; to = to }

read_lines : runs_of (codes "3,2-3") ≡ Some (run 3 3 ∷ run 2 3 ∷ [])
read_lines = refl

descending : runs_of (codes "4-3") ≡ None
descending = refl

no_range : runs_of (codes "3,") ≡ None
no_range = refl

-- a base name of two dots (whether a name is UTF-8 needs its own word opened)
bad_name : bad_file_name (codes "a/.." ∷ []) ≡ Some (codes "a/..")
unfolding is_utf8 chars lib.Utf8.encode
bad_name = refl

-- the branch lines of one line
abbrev branch : List ℕ → List ℕ → List ℕ
branch l comment = key_of ((codes "f", codes "c.v") ∷ (codes "l", l) ∷ (codes "n", codes "5") ∷ (codes "t", codes "branch") ∷ (codes "o", comment) ∷
    (codes "S", codes "3") ∷ [])

branch_lines : info_text ((branch (codes "3") (codes "else"), 3) ∷ (branch (codes "3") (codes "if"), 1) ∷ [])
    ≡ text_of (codes "TN:vcov" ∷ codes "SF:c.v" ∷ codes "DA:3,1" ∷ codes "BRDA:3,0,0,3" ∷ codes "BRDA:3,0,1,1" ∷ codes "end_of_record" ∷ [])
unfolding digits
branch_lines = refl
