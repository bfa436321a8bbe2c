-- A report: the counts as they stand, and how it is made.
use Rattle.std.specs.Prelude.{◌≡◌, ◌<◌, ℕ, List, [], length, get_or}
use Rattle.std.specs.FinMap.{entries}
use Rattle.cov_dat.specs.Merging.{Counts}
use Rattle.cov_dat.specs.DataText.{count_map}
use Rattle.report_text.specs.Annotation.{Options}
use Rattle.report_text.specs.FileNames.{annotated_files}
use Rattle.report_text.specs.Tables.{seen_tables, tables_of}
use Rattle.report_text.specs.declared.file_table.FileTable.{FileTable}
use Rattle.cov_report.specs.Choosing.{StandsAt}
use Rattle.report_text.specs.declared.options.ReportOptions.{ReportOptions}

-- what contracts see of a report
pub record ReportValue : Type 0 where
  pub counts : Counts
  pub options : ReportOptions

-- the counts in byte order of their keys
abbrev pub ordered : ReportValue → Counts
ordered r = entries (count_map r.counts)

-- the annotated files
abbrev pub files_annotated : ReportValue → List (List ℕ)
files_annotated r = annotated_files r.options.all r.options.min (ordered r)

-- how their texts are made
abbrev pub options_of : ReportOptions → Options
options_of o = record { minimum = o.min; all = o.all; points = o.points }

abbrev pub text_options : ReportValue → Options
text_options r = options_of r.options

-- what a report keeps: the tables of all files, the names of the annotated ones, and where their tables stand
pub record IsReportOf (value : ReportValue) (tables : List FileTable) (names : List (List ℕ)) (places : List ℕ) : Type 0 where
  pub tabled : seen_tables tables ≡ tables_of (ordered value)
  pub named : names ≡ files_annotated value
  pub stands : (i : ℕ) → i < length names → StandsAt tables (get_or places i 0) (get_or names i [])
  pub len : length places ≡ length names
