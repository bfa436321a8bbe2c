-- Which reports a `cover` makes, why it makes none, and what it prints and stores (docs/commands.md, "cover").
use Rattle.std.specs.Prelude.{ℕ, ◌&&◌, ◌||◌, Bool, not, nat_lt, is_some, is_none, List, [], ◌∷◌, ◌++◌, length, map, codes, Option, None, Some, option_map}
use Rattle.std.specs.Prelude.{option_to_list, if◌then◌else◌}
use Rattle.std.specs.FinMap.{entries}
use Rattle.std.specs.List.{flat_map}
use Rattle.std.specs.Option.{option_map_or}
use Rattle.cov_types.specs.Limits.{most}
use Rattle.cov_types.specs.declared.limit.LimitName.TheVariants.{LineEntries, SourceBytes}
use Rattle.cov_port.specs.Files.{Names}
use Rattle.cov_port.specs.Sums.{total}
use Rattle.cov_dat.specs.DataText.{count_map, lines_text}
use Rattle.cov_dat.specs.Merging.{Counts}
use Rattle.cov_words.specs.Command.{Covering}
use Rattle.test_rank.specs.Ranking.{rank_text}
use Rattle.test_rank.specs.declared.ranking.RankRow.{RankRow}
use Rattle.report_text.specs.Items.{bad_key_line, line_entries}
use Rattle.report_text.specs.Totals.{total_text}
use Rattle.report_text.specs.FileNames.{annotated_files, base_name, bad_file_name, same_base_name}
use Rattle.report_text.specs.Annotation.{Options, annotated_text, short_source}
use Rattle.report_text.specs.Info.{info_text}
use Rattle.command_ending.specs.Answer.{Answer, refused_with, over_limit, absent, bad_data}
use Rattle.command_ending.specs.ErrorLines.{error_line}
use Rattle.command_ending.specs.declared.status.Status.TheVariants.{BadData}

-- ---- what is asked for

-- a total is asked for by `--annotate`, and where nothing else is
abbrev pub prints_total : Covering → Bool
prints_total asked = is_some asked.annotate || (is_none asked.write && is_none asked.write_info && not asked.rank)

-- whether lines of source files are looked at
abbrev pub looks_at_lines : Covering → Bool
looks_at_lines asked = prints_total asked || is_some asked.write_info

-- the least count of a line that isn't low
abbrev pub minimum_of : Covering → ℕ
minimum_of asked = option_map_or (λ n. n) asked.annotate_min 10

abbrev pub options_of : Covering → Options
options_of asked = record { minimum = minimum_of asked; all = asked.annotate_all; points = asked.annotate_points }

-- the source files that are annotated, in byte order
abbrev pub sources_of : Covering → Counts → List (List ℕ)
sources_of asked counts = if is_some asked.annotate then annotated_files asked.annotate_all (minimum_of asked) counts else []

-- ---- why no report is made

-- `BadData: FILE: CODE`: the keys of a file, or its name, are bad
abbrev pub file_line : List ℕ → List ℕ → List ℕ
file_line name code = error_line (codes "BadData: " ++ name ++ codes ": " ++ code)

abbrev pub bad_file : List ℕ → List ℕ → Answer
bad_file code name = refused_with BadData (file_line name code)

-- a reason, where something holds
abbrev pub reason_if : Bool → Answer → Option Answer
reason_if test answer = if test then Some answer else None

-- the first of reasons
abbrev pub first_reason : List (Option Answer) → Option Answer
first_reason [] = None
first_reason (None ∷ rest) = first_reason rest
first_reason (Some answer ∷ rest) = Some answer

-- what a source holds; an absent one, nothing
abbrev pub source_of : Names → List ℕ → List ℕ
source_of held file = option_map_or (λ text. text) (held file) []

-- the bytes of these sources together
abbrev pub source_bytes : Names → List (List ℕ) → ℕ
source_bytes held files = total (map (λ file. length (source_of held file)) files)

-- what may be wrong with a source behind others: it is absent, takes the bytes of all past their limit, or lacks a line that has items
abbrev pub source_reasons : Names → Counts → List (List ℕ) → List ℕ → List (Option Answer)
source_reasons held counts before file =
    reason_if (is_none (held file)) (absent file)
    ∷ reason_if (nat_lt (most SourceBytes) (source_bytes held (before ++ file ∷ []))) (over_limit SourceBytes)
    ∷ option_map (λ lines. bad_data file lines (codes "ShortSource")) (short_source counts file (source_of held file)) ∷ []

-- the same for sources, one after the other
abbrev pub sources_reasons : Names → Counts → List (List ℕ) → List (List ℕ) → List (Option Answer)
sources_reasons held counts before [] = []
sources_reasons held counts before (file ∷ files) = source_reasons held counts before file ++ sources_reasons held counts (before ++ file ∷ []) files

-- what may be wrong with counts, whatever the sources hold
abbrev pub count_reasons : Counts → List (List ℕ) → List (Option Answer)
count_reasons counts files =
    option_map (bad_file (codes "BadKeyLine")) (bad_key_line counts)
    ∷ reason_if (nat_lt (most LineEntries) (line_entries counts)) (over_limit LineEntries)
    ∷ option_map (bad_file (codes "BadFileName")) (bad_file_name files)
    ∷ option_map (bad_file (codes "SameBaseName")) (same_base_name files) ∷ []

-- what may be wrong with reports that annotate these files, in the order in which it is looked for
abbrev pub report_reasons : Names → Counts → List (List ℕ) → List (Option Answer)
report_reasons held counts files = count_reasons counts files ++ sources_reasons held counts [] files

-- why the reports that are asked for aren't made, if they aren't
abbrev pub report_refusal : Names → Covering → Counts → Option Answer
report_refusal held asked counts = if looks_at_lines asked then first_reason (report_reasons held counts (sources_of asked counts)) else None

-- ---- what is printed and stored

-- counts in byte order of their keys
abbrev pub in_key_order : Counts → Counts
in_key_order counts = entries (count_map counts)

-- the name of an annotated file: the folder, `/`, and the base name of the source
abbrev pub stored_name : List ℕ → List ℕ → List ℕ
stored_name folder file = folder ++ codes "/" ++ base_name file

abbrev pub annotated_store : Names → Covering → Counts → List ℕ → List ℕ → List ℕ × List ℕ
annotated_store held asked counts folder file = (stored_name folder file, annotated_text (options_of asked) counts file (source_of held file))

-- what is stored, in order: the merged file, the info file, and the annotated files
abbrev pub cover_stores : Names → Covering → Counts → List (List ℕ × List ℕ)
cover_stores held asked counts =
    map (λ name. (name, lines_text counts)) (option_to_list asked.write)
    ++ map (λ name. (name, info_text counts)) (option_to_list asked.write_info)
    ++ flat_map (λ folder. map (annotated_store held asked counts folder) (sources_of asked counts)) (option_to_list asked.annotate)

-- what is printed: the table of a ranking and then the total, where they are asked for
abbrev pub cover_out : Covering → Counts → List RankRow → List ℕ
cover_out asked counts rows =
    (if asked.rank then rank_text asked.files rows else []) ++ (if prints_total asked then total_text (minimum_of asked) counts else [])
