-- Which files are annotated, and which names they can't have (docs/formats.md, "Annotated files").
use Rattle.std.specs.Prelude.{ℕ, ◌==◌, ◌&&◌, ◌||◌, Bool, not, nat_le, List, [], ◌∷◌, ◌++◌, filter, find, length, codes, Option, None, Some, if◌then◌else◌}
use Rattle.std.specs.List.{list_any, list_all, after_last}
use Rattle.std.specs.Str.{bytes_eq, is_utf8}
use Rattle.cov_dat.specs.Merging.{Counts}
use Rattle.report_text.specs.Items.{files_of, lines_in, is_low}

-- a file with a low line
abbrev pub has_low_line : ℕ → Counts → List ℕ → Bool
has_low_line minimum counts file = list_any (is_low minimum counts file) (lines_in counts file)

-- the annotated files, in byte order: those with a low line, or all
abbrev pub annotated_files : Bool → ℕ → Counts → List (List ℕ)
annotated_files all minimum counts = filter (λ file. all || has_low_line minimum counts file) (files_of counts)

-- what follows the last `/`
abbrev pub base_name : List ℕ → List ℕ
base_name file = after_last (λ b. b == 47) file

-- a name of a file: 1 to 4,096 bytes, none below the blank and not the delete byte
abbrev pub is_name : List ℕ → Bool
is_name text = nat_le 1 (length text) && nat_le (length text) 4096 && list_all (λ b. nat_le 32 b && not (b == 127)) text

-- a base name under which no file is written: none, this folder, or the one above
abbrev pub is_reserved : List ℕ → Bool
is_reserved base = list_any (bytes_eq base) ([] ∷ codes "." ∷ codes ".." ∷ [])

-- a file that can be read by its name and written under its base name
abbrev pub is_good_name : List ℕ → Bool
is_good_name file = is_utf8 file && is_name file && not (is_reserved (base_name file))

-- the first annotated file whose name isn't good
abbrev pub bad_file_name : List (List ℕ) → Option (List ℕ)
bad_file_name files = find (λ file. not (is_good_name file)) files

-- the first whose base name is that of one before it
abbrev pub same_base_behind : List (List ℕ) → List (List ℕ) → Option (List ℕ)
same_base_behind before [] = None
same_base_behind before (file ∷ files) =
    if list_any (λ other. bytes_eq (base_name other) (base_name file)) before then Some file else same_base_behind (before ++ file ∷ []) files

abbrev pub same_base_name : List (List ℕ) → Option (List ℕ)
same_base_name files = same_base_behind [] files
