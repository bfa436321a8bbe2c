-- What making the reports of a `cover` promises, and private steps of it.
use Rattle.std.specs.Prelude.{◌≡◌, false, is_some, List, ℕ, [], ◌++◌, map, Some, option_to_list, if◌then◌else◌}
use Rattle.std.specs.List.{flat_map}
use Rattle.cov_port.specs.Files.{Names}
use Rattle.cov_dat.specs.Merging.{Counts}
use Rattle.cov_words.specs.Command.{Covering}
use Rattle.report_text.specs.Info.{info_text}
use Rattle.report_text.specs.Totals.{total_text}
use Rattle.report_text.specs.declared.options.ReportOptions.{ReportOptions}
use Rattle.command_ending.specs.Promise.{Promise}
use Rattle.cover_answer.specs.CoverPromise.{MayAnnotate, ReportRefuses}
use Rattle.cover_answer.specs.Reports.{annotated_store, minimum_of, prints_total, report_refusal, sources_of}

-- the total line, where it is asked for
abbrev pub total_for : Covering → Counts → List ℕ
total_for asked counts = if prints_total asked then total_text (minimum_of asked) counts else []

-- what making the reports of these counts promises
abbrev pub reports_promise : Covering → Counts → Promise
reports_promise asked counts = record {
  Answers = λ held answer. report_refusal held asked counts ≡ Some answer;
  Refuses = ReportRefuses asked;
  Reads = MayAnnotate asked;
  Stores = λ name. ⊥;
  prints_early = false;
}

-- ---- private: the steps

-- how the reports are made
abbrev pub options_for : Covering → ReportOptions
options_for asked = record { min = minimum_of asked; all = asked.annotate_all; points = asked.annotate_points; annotate = is_some asked.annotate }

-- the info file, and then the annotated files, behind what is to be stored before
abbrev pub stores_behind : Names → Covering → Counts → List (List ℕ × List ℕ) → List (List ℕ × List ℕ)
stores_behind held asked counts before =
    before ++ map (λ name. (name, info_text counts)) (option_to_list asked.write_info)
    ++ flat_map (λ folder. map (annotated_store held asked counts folder) (sources_of asked counts)) (option_to_list asked.annotate)
