-- A few answers of `cover`, by computation.
use Rattle.std.specs.Prelude.{◌≡◌, ℕ, true, false, T, List, [], ◌∷◌, ◌++◌, codes, None, Some, refl, if◌then◌else◌}
use Rattle.std.proofs.Common.{sym, ◌∙◌, subst, ap, arith}
use Rattle.std.specs.Fmt.{digits}
use Rattle.std.specs.FinMap.{entries, entries_sorted, get-entries, get-from_entries, is_sorted, slice_cmp-IsAntisymmetric, nat_cmp-IsAntisymmetric}
use Rattle.std.specs.FinMap.Entries.{same_entries}
use Rattle.std.specs.List.{flat_map}
use Rattle.std.specs.Ordering.{nat_cmp}
use Rattle.std.specs.Str.{bytes_eq, is_utf8, chars}
use Rattle.std.specs.Cmp.Lexicographic.{slice_cmp, nat_list_cmp_total}
use Rattle.cov_port.specs.Files.{Names}
use Rattle.cov_dat.specs.DataText.{count_map, lines_text}
use Rattle.cov_dat.specs.Merging.{Counts}
use Rattle.cov_words.specs.Command.{Covering}
use Rattle.command_ending.specs.Answer.{done, absent, bad_data}
use Rattle.cover_answer.specs.CoverAnswer.{IsCoverAnswer, unread, unreported, reported, arrivals_for, counts_in}
use Rattle.cover_answer.specs.Gathering.{covers_in}
use Rattle.cover_answer.specs.Reports.{bad_file, cover_out, cover_stores, report_refusal}
use Rattle.cover_answer.proofs.GatherLemmas.{gathers}

abbrev text_of : List (List ℕ) → List ℕ
text_of ls = flat_map (λ l. l ++ 10 ∷ []) ls

abbrev key_of : List (List ℕ × List ℕ) → List ℕ
key_of fields = flat_map (λ f. 1 ∷ f.0 ++ 2 ∷ f.1) fields

abbrev record_line : List ℕ → List ℕ → List ℕ
record_line key count = codes "C '" ++ key ++ codes "' " ++ count

-- a data file of these record lines
abbrev data_of : List (List ℕ) → List ℕ
data_of ls = text_of (codes "# SystemC::Coverage-3" ∷ ls)

-- entries that ascend are those of their map
entries-sorted : (es : Counts) → is_sorted (slice_cmp nat_cmp) es ≡ true → entries (count_map es) ≡ es
entries-sorted es sorted =
    same_entries (slice_cmp nat_cmp) nat_list_cmp_total (slice_cmp-IsAntisymmetric nat_cmp-IsAntisymmetric) (entries (count_map es)) es
    (entries_sorted (count_map es)) (subst T (sym sorted) tt)
    (λ q. sym (get-entries (count_map es) q) ∙ get-from_entries nat_list_cmp_total es q)

-- a `cover` of these files that asks for nothing
abbrev plain : List (List ℕ) → Covering
plain files = record {
  write = None;
  write_info = None;
  rank = false;
  annotate = None;
  annotate_all = false;
  annotate_points = false;
  annotate_min = None;
  filter_type = None;
  files = files;
}

-- ---- one data file and its source

abbrev in_s_v : List ℕ → List ℕ
in_s_v l = key_of ((codes "f", codes "s.v") ∷ (codes "l", l) ∷ [])

abbrev with_list : List ℕ
with_list = in_s_v (codes "3") ++ key_of ((codes "o", codes "x") ∷ (codes "S", codes "3,2-3") ∷ [])

abbrev held : Names
held name =
    if bytes_eq name (codes "x.dat") then Some (data_of (record_line (in_s_v (codes "1")) (codes "9") ∷ record_line (in_s_v (codes "2")) (codes "10")
    ∷ record_line (in_s_v (codes "3")) (codes "9") ∷ record_line with_list (codes "10") ∷ []))
    else if bytes_eq name (codes "s.v") then Some (text_of (codes "a" ∷ codes "b" ∷ codes "c" ∷ []))
    else None

abbrev four : Counts
four = (in_s_v (codes "1"), 9) ∷ (in_s_v (codes "2"), 10) ∷ (in_s_v (codes "3"), 9) ∷ (with_list, 10) ∷ []

abbrev asked : Covering
asked = record (plain (codes "x.dat" ∷ [])) { write_info = Some (codes "i"); annotate = Some (codes "d") }

counts-four : counts_in (arrivals_for held asked) ≡ four
counts-four = entries-sorted four refl

annotated : IsCoverAnswer held asked (done (text_of (codes "Total coverage (1/3) 33.33%" ∷ []))
    ((codes "i", text_of (codes "TN:vcov" ∷ codes "SF:s.v" ∷ codes "DA:1,9" ∷ codes "DA:2,10" ∷ codes "DA:3,9" ∷ codes "end_of_record" ∷ []))
    ∷ (
      codes "d/s.v",
      text_of ((9 ∷ codes "// vcov annotation") ∷ (codes "%000009" ++ 9 ∷ codes "a") ∷ (codes " 000010" ++ 9 ∷ codes "b") ∷ (codes "%000009"
          ++ 9 ∷ codes "c") ∷ []),
    ) ∷ []))
unfolding digits is_utf8 chars lib.Utf8.encode
annotated = subst (λ c. IsCoverAnswer held asked (done (cover_out asked c []) (cover_stores held asked c))) counts-four
    (reported [] (omega arith) (gathers false (arrivals_for held asked)) (ap (report_refusal held asked) counts-four ∙ refl) tt)

-- ---- data files that are refused

absent_file : IsCoverAnswer held (plain (codes "y.dat" ∷ [])) (absent (codes "y.dat"))
absent_file = unread (absent (codes "y.dat")) (omega arith) (gathers false (arrivals_for held (plain (codes "y.dat" ∷ []))))

abbrev cut_short : Names
cut_short name = Some (codes "# SystemC::Coverage-3" ++ 10 ∷ codes "C '" ++ 1 ∷ codes "f" ++ 2 ∷ codes "a")

bad_record : IsCoverAnswer cut_short (plain (codes "d.dat" ∷ [])) (bad_data (codes "d.dat") 2 (codes "BadRecord"))
unfolding digits
bad_record = unread (bad_data (codes "d.dat") 2 (codes "BadRecord")) (omega arith) (gathers false (arrivals_for cut_short (plain (codes "d.dat" ∷ []))))

abbrev empty_files : Names
empty_files name = Some []

bad_header : IsCoverAnswer empty_files (plain (codes "d.dat" ∷ [])) (bad_data (codes "d.dat") 1 (codes "BadHeader"))
unfolding digits
bad_header = unread (bad_data (codes "d.dat") 1 (codes "BadHeader")) (omega arith) (gathers false (arrivals_for empty_files (plain (codes "d.dat" ∷ []))))

-- ---- reports that aren't made

abbrev low_in : List ℕ → List ℕ
low_in file = key_of ((codes "f", file) ∷ (codes "l", codes "1") ∷ [])

abbrev asks_annotation : Covering
asks_annotation = record (plain (codes "x.dat" ∷ [])) { annotate = Some (codes "d") }

abbrev two_low : Names
two_low name =
    if bytes_eq name (codes "x.dat") then Some
    (data_of (record_line (low_in (codes "a/s.v")) (codes "0") ∷ record_line (low_in (codes "b/s.v")) (codes "0") ∷ [])) else None

same_base : IsCoverAnswer two_low asks_annotation (bad_file (codes "SameBaseName") (codes "b/s.v"))
unfolding is_utf8 chars lib.Utf8.encode
same_base = unreported (bad_file (codes "SameBaseName") (codes "b/s.v")) (omega arith) (gathers false (arrivals_for two_low asks_annotation))
    (ap (report_refusal two_low asks_annotation) (entries-sorted ((low_in (codes "a/s.v"), 0) ∷ (low_in (codes "b/s.v"), 0) ∷ []) refl) ∙ refl)

abbrev dots : Names
dots name = if bytes_eq name (codes "x.dat") then Some (data_of (record_line (low_in (codes "a/..")) (codes "0") ∷ [])) else None

bad_name : IsCoverAnswer dots asks_annotation (bad_file (codes "BadFileName") (codes "a/.."))
unfolding is_utf8 chars lib.Utf8.encode
bad_name = unreported (bad_file (codes "BadFileName") (codes "a/..")) (omega arith) (gathers false (arrivals_for dots asks_annotation))
    (ap (report_refusal dots asks_annotation) (entries-sorted ((low_in (codes "a/.."), 0) ∷ []) refl) ∙ refl)

-- a key whose line is no number; that is looked for without `--annotate` too, but not where the merged file alone is stored
abbrev no_line : Names
no_line name = Some (data_of (record_line (in_s_v (codes "x")) (codes "0") ∷ []))

bad_key : IsCoverAnswer no_line (plain (codes "x.dat" ∷ [])) (bad_file (codes "BadKeyLine") (codes "s.v"))
bad_key = unreported (bad_file (codes "BadKeyLine") (codes "s.v")) (omega arith) (gathers false (arrivals_for no_line (plain (codes "x.dat" ∷ []))))
    (ap (report_refusal no_line (plain (codes "x.dat" ∷ []))) (entries-sorted ((in_s_v (codes "x"), 0) ∷ []) refl) ∙ refl)

-- a source of one line, and a key of its third
abbrev short_held : Names
short_held name =
    if bytes_eq name (codes "x.dat") then Some (data_of (record_line (in_s_v (codes "3")) (codes "0") ∷ []))
    else if bytes_eq name (codes "s.v") then Some (text_of (codes "a" ∷ []))
    else None

short_source : IsCoverAnswer short_held asks_annotation (bad_data (codes "s.v") 1 (codes "ShortSource"))
unfolding digits is_utf8 chars lib.Utf8.encode
short_source = unreported (bad_data (codes "s.v") 1 (codes "ShortSource")) (omega arith) (gathers false (arrivals_for short_held asks_annotation))
    (ap (report_refusal short_held asks_annotation) (entries-sorted ((in_s_v (codes "3"), 0) ∷ []) refl) ∙ refl)

-- an absent source
abbrev without_source : Names
without_source name = if bytes_eq name (codes "x.dat") then short_held name else None

absent_source : IsCoverAnswer without_source asks_annotation (absent (codes "s.v"))
unfolding is_utf8 chars lib.Utf8.encode
absent_source = unreported (absent (codes "s.v")) (omega arith) (gathers false (arrivals_for without_source asks_annotation))
    (ap (report_refusal without_source asks_annotation) (entries-sorted ((in_s_v (codes "3"), 0) ∷ []) refl) ∙ refl)

-- ---- totals, merged files and filters

-- a file with the header alone
abbrev header_alone : Names
header_alone name = Some (data_of [])

no_keys : IsCoverAnswer header_alone (plain (codes "x.dat" ∷ [])) (done (text_of (codes "Total coverage (0/0) 0.00%" ∷ [])) [])
unfolding digits
no_keys = subst (λ c. IsCoverAnswer header_alone (plain (codes "x.dat" ∷ [])) (done (cover_out (plain (codes "x.dat" ∷ [])) c []) [])) (entries-sorted [] refl)
    (reported [] (omega arith) (gathers false (arrivals_for header_alone (plain (codes "x.dat" ∷ []))))
    (ap (report_refusal header_alone (plain (codes "x.dat" ∷ []))) (entries-sorted [] refl) ∙ refl) tt)

-- two files, one key: the sum ends at 2^64 - 1
abbrev quoted : List ℕ
quoted = key_of ((codes "f", codes "a'b.v") ∷ (codes "l", codes "1") ∷ [])

abbrev two_files : Names
two_files name =
    if bytes_eq name (codes "a.dat") then Some (data_of (record_line quoted (codes "3") ∷ []))
    else Some (data_of (record_line quoted (codes "18446744073709551614") ∷ []))

abbrev asks_merge : Covering
asks_merge = record (plain (codes "a.dat" ∷ codes "b.dat" ∷ [])) { write = Some (codes "o.dat") }

saturates : IsCoverAnswer two_files asks_merge (done [] ((codes "o.dat", data_of (record_line quoted (codes "18446744073709551615") ∷ [])) ∷ []))
unfolding digits
saturates = subst (λ c. IsCoverAnswer two_files asks_merge (done [] ((codes "o.dat", lines_text c) ∷ [])))
    (entries-sorted ((quoted, 18446744073709551615) ∷ []) refl)
    (reported [] (omega arith) (gathers false (arrivals_for two_files asks_merge)) refl tt)

-- empty lines and notes are skipped; a key without type is kept by its page, and one of another type isn't
abbrev paged : List ℕ
paged = key_of ((codes "page", codes "v_line/t") ∷ (codes "h", codes "TOP.t") ∷ (codes "l", codes "7") ∷ (codes "f", codes "t.v") ∷ (codes "x", codes "1") ∷ [])

abbrev one_file : Names
one_file name = Some (data_of ([] ∷ codes "# note" ∷ record_line paged (codes "12") ∷ record_line (key_of ((codes "t", codes "toggle") ∷ [])) (codes "1") ∷ []))

abbrev asks_lines : Covering
asks_lines = record (plain (codes "a.dat" ∷ [])) { write = Some (codes "o.dat"); filter_type = Some (codes "line") }

keeps_lines : IsCoverAnswer one_file asks_lines (done [] ((codes "o.dat", data_of (record_line paged (codes "12") ∷ [])) ∷ []))
unfolding digits
keeps_lines = subst (λ c. IsCoverAnswer one_file asks_lines (done [] ((codes "o.dat", lines_text c) ∷ []))) (entries-sorted ((paged, 12) ∷ []) refl)
    (reported [] (omega arith) (gathers false (arrivals_for one_file asks_lines)) refl tt)

-- ---- which points tests cover

abbrev point : List ℕ → List ℕ
point name = key_of ((codes "o", name) ∷ [])

-- three tests: the first covers the points 0, 1 and 2, the second 2 and 3, and the third 0 and 1, one of them by its second record
abbrev three : Names
three name =
    if bytes_eq name (codes "a.dat") then Some
    (data_of (record_line (point (codes "p")) (codes "1") ∷ record_line (point (codes "q")) (codes "2") ∷ record_line (point (codes "r")) (codes "3") ∷ []))
    else if bytes_eq name (codes "b.dat") then Some (data_of (record_line (point (codes "s")) (codes "1") ∷ record_line (point (codes "r")) (codes "1") ∷ []))
    else Some (data_of (record_line (point (codes "q")) (codes "0") ∷ record_line (point (codes "p")) (codes "1") ∷ record_line (point (codes "q"))
    (codes "1") ∷ record_line (point (codes "s")) (codes "0") ∷ []))

abbrev asks_ranks : Covering
asks_ranks = record (plain (codes "a.dat" ∷ codes "b.dat" ∷ codes "c.dat" ∷ [])) { rank = true }

three_tests : covers_in (arrivals_for three asks_ranks) ≡ (0 ∷ 1 ∷ 2 ∷ []) ∷ (2 ∷ 3 ∷ []) ∷ (0 ∷ 1 ∷ []) ∷ []
three_tests = refl
